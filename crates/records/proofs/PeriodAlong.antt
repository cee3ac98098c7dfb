-- The reading of a period, along its fields: which field is at which place, by what the header announces; there is room for it in the
-- longest file; and what is held in the end is as announced, each record within its limits.
use Prim.Native.Nat.{ℕ, suc, ◌+◌, ◌*◌, ◌≤◌, ◌<◌}
use mathlib.Core.Path.{◌≡◌, refl}
use mathlib.Core.List.{List}
use native.Mathlib.Omega.{arith}
use borrow.Author.Tests.{leb-true, eqb-true}
use Rattle.number.specs.Groups.{most_groups}
use Rattle.fields.specs.declared.reason.Reason.{Reason}
use Rattle.fields.specs.declared.reason.Reason.TheVariants.{WrongEdition, WrongCount, WrongPlant, WrongSegment, WrongLine}
use Rattle.fields.specs.Reasons.{number_of}
use Rattle.fields.specs.Lists.{Each}
use Rattle.fields.proofs.Along.{Along, done, one_field, one_then, along_on, so_many}
use Rattle.fields.proofs.Ranges.{at_most}
use Rattle.records.specs.declared.counts.Counts.{Counts}
use Rattle.records.specs.Plants.{most_plants, plant_fields, plant_bytes, millionths}
use Rattle.records.specs.Segments.{most_segments, segment_fields, segment_bytes, pipeline, store}
use Rattle.records.specs.Classes.{segment_owner, classes}
use Rattle.records.specs.Lines.{most_lines, line_fields, line_bytes}
use Rattle.records.specs.Headers.{edition, header, header_fields, header_bytes}
use Rattle.records.specs.Periods.{Period, plant, segment, line, records, period, most_bytes}
use Rattle.records.specs.Places.{plant_place, segment_place, number_count}
use Rattle.records.specs.Within.{CountsWithin, counts_of, PlantWithin}
use Rattle.records.proofs.FieldRanges.{next_at_most, owner_at_most}
use Rattle.records.proofs.RecordsWithin.{SegmentRead, LineRead, counts_fit, plant_fit, segment_fit, line_fit}
use Rattle.records.proofs.Classes.{code_within, factor_at_most}

-- ---- the places and the reasons of fields
-- where the segments start, where the lines do, and where they end, by what the header announces
abbrev pub segments_from : Counts → ℕ
segments_from h = plant_place h.plants

abbrev pub lines_from : Counts → ℕ
lines_from h = segment_place h h.segments

abbrev pub lines_end : Counts → ℕ
lines_end h = number_count h

-- a field of the header: its place and its reason
pub data HeaderField : (place : ℕ) → Reason → Type 0 where
  edition_field : HeaderField 0 WrongEdition
  count_field : {place : ℕ} → suc place < header_fields → HeaderField (suc place) WrongCount

-- a field of the records that it announces
pub data RecordField (h : Counts) : (place : ℕ) → Reason → Type 0 where
  plant_field : {place : ℕ} → (header_fields ≤ place) × (place < segments_from h) → RecordField h place WrongPlant
  segment_field : {place : ℕ} → (segments_from h ≤ place) × (place < lines_from h) → RecordField h place WrongSegment
  line_field : {place : ℕ} → (lines_from h ≤ place) × (place < lines_end h) → RecordField h place WrongLine

-- a field of the whole period, wherever it is: its number of refusal is one of 4 to 8
abbrev pub PeriodField : (place : ℕ) → Reason → Type 0
PeriodField place reason = (number_of WrongEdition ≤ number_of reason) × (number_of reason ≤ number_of WrongLine)

-- where the last plant and the last segment end at the latest, in bytes
abbrev plants_end : ℕ
plants_end = header_bytes + plant_bytes * most_plants

abbrev segments_end : ℕ
segments_end = plants_end + segment_bytes * most_segments

-- a field is at its place, and from its first byte on the longest file has room for the most groups
abbrev pub Placed : ((place : ℕ) → Reason → Type 0) → (place at : ℕ) → Reason → Type 0
Placed Field place at reason = Field place reason × (at + most_groups ≤ most_bytes)

-- what is held behind the header: as many records of each kind as it announces, each within its limits
pub record Holds (h : Counts) (what : Period) : Type 0 where
  pub counts : CountsWithin h
  pub counted : counts_of what ≡ h
  pub plants : Each (PlantWithin h) 1 what.plants
  pub segments : Each (SegmentRead h) 1 what.segments
  pub lines : Each (LineRead h) 1 what.lines

-- what is known after the header, after the records that it announces, and after the whole period
abbrev pub HeaderRead : Counts → (place at : ℕ) → Type 0
HeaderRead h place at = CountsWithin h × ((place ≡ header_fields) × (at ≤ header_bytes))

abbrev pub RecordsRead : Counts → Period → (place at : ℕ) → Type 0
RecordsRead h what place at = Holds h what × ((place ≡ lines_end h) × (at ≤ most_bytes))

abbrev pub PeriodRead : Period → (place at : ℕ) → Type 0
PeriodRead what place at = ((h : Counts) × Holds h what) × (at ≤ most_bytes)

module _ (file : List ℕ) where
  -- the header
  pub header_along : Along file (Placed HeaderField) HeaderRead header 0 0
  unfolding header
  header_along =
      one_field 1 (edition_field, omega arith) (λ v _ t. omega (arith, eqb-true edition v t)) (λ _ a _ _ to_a.
      one_field 1 (count_field (omega arith), omega arith) (λ v _ t. omega (arith, at_most 1 most_plants v t)) (λ plants b _ p to_b.
      one_field 1 (count_field (omega arith), omega arith) (λ v _ t. omega (arith, at_most 1 most_segments v t)) (λ segments c _ s to_c.
      one_field 2 (count_field (omega arith), omega arith) (λ v _ t. omega (arith, leb-true v most_lines t)) (λ lines d _ l to_d.
      done (counts_fit plants segments lines p s l, omega arith)))))

  module _ (h : Counts) (counts : CountsWithin h) where
    -- a count of plants ends at this place, and at this byte at the latest; so do a count of segments and one of lines
    abbrev PlantsTo : (count place at : ℕ) → Type 0
    PlantsTo count place at = (place ≡ header_fields + plant_fields * count) × (at ≤ header_bytes + plant_bytes * count)

    abbrev SegmentsTo : (count place at : ℕ) → Type 0
    SegmentsTo count place at = (place ≡ segments_from h + segment_fields * count) × (at ≤ plants_end + segment_bytes * count)

    abbrev LinesTo : (count place at : ℕ) → Type 0
    LinesTo count place at = (place ≡ lines_from h + line_fields * count) × (at ≤ segments_end + line_bytes * count)

    -- a plant
    plant_along :
        (index place at : ℕ) → index < h.plants → PlantsTo index place at →
        Along file (Placed (RecordField h)) (λ what next to. PlantWithin h (suc index) what × PlantsTo (suc index) next to)
        (plant h) place at
    unfolding plant
    plant_along index place at its (here, byte) =
        let S = h.segments in
        let p = counts.most_plants_is in
        let s = counts.most_segments_is in
        one_field 5 (plant_field (omega arith), omega arith) (λ v small _. omega arith) (λ exported a small _ to_a.
        one_field 1 (plant_field (omega arith), omega arith) (λ v _ t. omega (arith, at_most 1 S v t)) (λ first b _ f to_b.
        one_field 3 (plant_field (omega arith), omega arith) (λ v _ t. omega (arith, leb-true v millionths t)) (λ fraction c _ m to_c.
        done (plant_fit h (suc index) exported first fraction small f m, omega arith))))

    -- a segment
    segment_along :
        (index place at : ℕ) → index < h.segments → SegmentsTo index place at →
        Along file (Placed (RecordField h)) (λ what next to. SegmentRead h (suc index) what × SegmentsTo (suc index) next to)
        (segment h (suc index)) place at
    unfolding segment
    segment_along index place at its (here, byte) =
        let S = h.segments in
        let s = counts.most_segments_is in
        one_field 1 (segment_field (omega arith), omega arith) (λ v _ t. omega (arith, at_most pipeline store v t)) (λ kind a _ k to_a.
        one_field 5 (segment_field (omega arith), omega arith) (λ v small _. omega arith) (λ outflow b small _ to_b.
        one_field 1 (segment_field (omega arith), omega arith) (λ v _ t. omega (arith, next_at_most h (suc index) kind v t)) (λ next c _ n to_c.
        done (segment_fit h (suc index) kind outflow next k small n, omega arith))))

    -- a line
    line_along :
        (index place at : ℕ) → index < h.lines → LinesTo index place at →
        Along file (Placed (RecordField h)) (λ what next to. LineRead h (suc index) what × LinesTo (suc index) next to)
        (line h) place at
    unfolding line classes
    line_along index place at its (here, byte) =
        let p = counts.most_plants_is in
        let s = counts.most_segments_is in
        let l = counts.most_lines_is in
        one_field 1 (line_field (omega arith), omega arith) (λ v _ t. omega (arith, leb-true v segment_owner t)) (λ owner_kind a _ k to_a.
        one_field 1 (line_field (omega arith), omega arith) (λ v _ t. omega (arith, owner_at_most h owner_kind v most_segments (omega arith) s t)) (λ owner b _ o to_b.
        one_field 1 (line_field (omega arith), omega arith) (λ v _ t. omega (arith, (code_within owner_kind v t).1)) (λ class c _ is to_c.
        one_field 5 (line_field (omega arith), omega arith) (λ v small _. omega arith) (λ quantity d small _ to_d.
        one_field 5 (line_field (omega arith), omega arith) (λ v _ t. omega (arith, factor_at_most class v t)) (λ factor e _ f to_e.
        done (line_fit h (suc index) owner_kind owner class quantity factor k o is small f, omega arith))))))

    -- as many records of each kind as the header announces
    pub records_along :
        (at : ℕ) → at ≤ header_bytes → Along file (Placed (RecordField h)) (RecordsRead h) (records h) header_fields at
    unfolding records
    records_along at start =
        let P = h.plants in
        let S = h.segments in
        let of_plants = so_many (λ own. plant h) (PlantWithin h) PlantsTo P plant_along in
        let of_segments = so_many (segment h) (SegmentRead h) SegmentsTo S segment_along in
        let of_lines = so_many (λ own. line h) (LineRead h) LinesTo h.lines line_along in
        one_then (of_plants header_fields at (omega arith)) (λ plants a b (p, ps, to_p).
        one_then (of_segments a b (omega (arith, counts.most_plants_is))) (λ segments c d (s, ss, to_s).
        one_then (of_lines c d (omega (arith, counts.most_segments_is))) (λ lines e f (l, ls, to_l).
        done (
          record { counts = counts; counted = rw (p, s, l) refl; plants = ps; segments = ss; lines = ls },
          omega (arith, counts.most_lines_is),
        ))))

  -- the whole period
  pub period_along : Along file (Placed PeriodField) PeriodRead period 0 0
  unfolding period
  period_along =
      one_then (along_on (λ _ _ _ (field, room). (of_header field, room)) (λ _ _ _ p. p) header_along) (λ h place at (counts, (here, start)).
      rw here
      (along_on (λ _ _ _ (field, room). (of_records field, room)) (λ _ _ _ (holds, (end, last)). ((h, holds), last)) (records_along h counts at start)))
    where
      of_header : {place : ℕ} {reason : Reason} → HeaderField place reason → PeriodField place reason
      of_header edition_field = omega arith
      of_header (count_field its) = omega arith

      of_records : {h : Counts} {place : ℕ} {reason : Reason} → RecordField h place reason → PeriodField place reason
      of_records (plant_field its) = omega arith
      of_records (segment_field its) = omega arith
      of_records (line_field its) = omega arith
