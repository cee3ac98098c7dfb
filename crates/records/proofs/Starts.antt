-- Where the lines of a file start: reading the header, the plants and the segments takes as many numbers as come before the first line.
use Prim.Native.Nat.{ℕ, suc, ◌+◌, ◌*◌}
use mathlib.Core.Path.{◌≡◌, refl, sym, ap, ◌∙◌}
use mathlib.Core.List.{List}
use native.Mathlib.Omega.{arith}
use Rattle.number.specs.Counting.{start_of}
use Rattle.number.proofs.Counting.{first_start}
use Rattle.fields.specs.declared.spot.Spot.{Spot}
use Rattle.fields.specs.Spots.{first_spot}
use Rattle.fields.specs.Reaching.{whole, reads_from}
use Rattle.fields.proofs.Consumed.{Gives, Takes, takes_each, starts_on}
use Rattle.records.specs.declared.counts.Counts.{Counts}
use Rattle.records.specs.declared.line.Line.{Line}
use Rattle.records.specs.declared.plant.Plant.{Plant}
use Rattle.records.specs.declared.segment.Segment.{Segment}
use Rattle.records.specs.Plants.{plant_fields}
use Rattle.records.specs.Segments.{segment_fields}
use Rattle.records.specs.Lines.{line_fields}
use Rattle.records.specs.Headers.{header, header_fields}
use Rattle.records.specs.Periods.{plant, segment, line, plants_of, segments_of}
use Rattle.records.specs.Places.{line_place, line_start}

-- ---- how many numbers the header and a record of each kind take
header_takes : Takes header_fields header
unfolding Gives header
header_takes = λ _ _ _ _ _ _ _ _ _ _ _ _. refl

plant_takes : (counts : Counts) → Takes plant_fields (plant counts)
unfolding Gives plant
plant_takes counts = λ _ _ _ _ _ _ _ _ _. refl

segment_takes : (counts : Counts) (own : ℕ) → Takes segment_fields (segment counts own)
unfolding Gives segment
segment_takes counts own = λ _ _ _ _ _ _ _ _ _. refl

line_takes : (counts : Counts) → Takes line_fields (line counts)
unfolding Gives line
line_takes counts = λ _ _ _ _ _ _ _ _ _ _ _ _ _ _ _. refl

module _ (file : List ℕ) (counts : Counts) where
  -- ---- the first line starts behind the header, all plants and all segments
  pub first_line_starts :
      (first second third : Spot) (plants : List Plant) (segments : List Segment) → reads_from header file first_spot ≡ whole counts first →
      reads_from (plants_of counts) file first ≡ whole plants second → reads_from (segments_of counts) file second ≡ whole segments third →
      third.byte ≡ line_start file counts 0
  first_line_starts first second third plants segments header_read plants_read segments_read =
      let P = plant_fields * counts.plants in
      let S = segment_fields * counts.segments in
      let a = starts_on header_fields file header first_spot 0 counts first header_takes (sym (first_start file)) header_read in
      let b = starts_on P file (plants_of counts) first (header_fields + 0) plants second (takes_each plant_fields (λ own. plant counts) (λ own. plant_takes counts) 1 counts.plants) a plants_read in
      let c = starts_on S file (segments_of counts) second (P + (header_fields + 0)) segments third (takes_each segment_fields (segment counts) (segment_takes counts) 1 counts.segments) b segments_read in
      c ∙ ap (start_of file) (omega arith)

  -- ---- and each line behind the one before
  pub next_line_starts :
      (at next : Spot) (index : ℕ) (what : Line) → at.byte ≡ line_start file counts index → reads_from (line counts) file at ≡ whole what next →
      next.byte ≡ line_start file counts (suc index)
  next_line_starts at next index what here e =
      starts_on line_fields file (line counts) at (line_place counts index) what next (line_takes counts) here e ∙ ap (start_of file) (omega arith)
