-- Fields that have passed their tests make a record within its limits; so whatever a reader of records gives is within them, wherever it is read.
use Prim.Native.Nat.{ℕ, ◌≤◌}
use mathlib.Core.Path.{◌≡◌, sym, ◌∙◌}
use mathlib.Core.Bool.{true}
use mathlib.Core.List.{List}
use borrow.Author.Tests.{leb-true}
use lib.ListN.{length}
use Rattle.number.specs.Groups.{largest}
use Rattle.fields.specs.declared.spot.Spot.{Spot}
use Rattle.fields.specs.Reaching.{whole, reads_from}
use Rattle.fields.specs.Lists.{Each}
use Rattle.fields.proofs.Ranges.{at_least, at_most}
use Rattle.fields.proofs.Consumed.{Gives, whole_has, gives_each}
use Rattle.records.specs.declared.counts.Counts.{Counts}
use Rattle.records.specs.declared.line.Line.{Line}
use Rattle.records.specs.declared.plant.Plant.{Plant}
use Rattle.records.specs.declared.segment.Segment.{Segment}
use Rattle.records.specs.Plants.{most_plants, plants_allowed, millionths, first_allowed, fraction_allowed, plant_of}
use Rattle.records.specs.Segments.{most_segments, segments_allowed, kind_allowed, next_allowed, segment_of}
use Rattle.records.specs.Classes.{segment_owner, class_allowed, factor_allowed}
use Rattle.records.specs.Lines.{most_lines, lines_allowed, owner_kind_allowed, owner_allowed, line_of}
use Rattle.records.specs.Headers.{announced, header}
use Rattle.records.specs.Periods.{plant, segment, line, plants_of, segments_of, lines_of}
use Rattle.records.specs.Within.{CountsWithin, PlantWithin, SegmentWithin, KindWithin, LineWithin, ClassWithin}
use Rattle.records.proofs.FieldRanges.{next_is, owner_plant, owner_segment, some_owner}
use Rattle.records.proofs.Classes.{factor_at_most}

-- a segment with its kind, and a line with its class
abbrev pub SegmentRead : Counts → (own : ℕ) → Segment → Type 0
SegmentRead counts own one = SegmentWithin counts own one × KindWithin counts own one

abbrev pub LineRead : Counts → (own : ℕ) → Line → Type 0
LineRead counts own one = LineWithin counts own one × ClassWithin own one

-- ---- the record of fields that are allowed
pub counts_fit :
    (plants segments lines : ℕ) → plants_allowed plants ≡ true → segments_allowed segments ≡ true → lines_allowed lines ≡ true →
    CountsWithin (announced plants segments lines)
counts_fit plants segments lines p s l = record {
  some_plants = at_least 1 most_plants plants p;
  most_plants_is = at_most 1 most_plants plants p;
  some_segments = at_least 1 most_segments segments s;
  most_segments_is = at_most 1 most_segments segments s;
  most_lines_is = leb-true lines most_lines l;
}

module _ (counts : Counts) (own : ℕ) where
  pub plant_fit :
      (exported first fraction : ℕ) → exported ≤ largest → first_allowed counts first ≡ true → fraction_allowed fraction ≡ true →
      PlantWithin counts own (plant_of exported first fraction)
  plant_fit exported first fraction small f m = record {
    exported = small;
    some_first = at_least 1 counts.segments first f;
    first = at_most 1 counts.segments first f;
    fraction = leb-true fraction millionths m;
  }

  pub segment_fit :
      (kind outflow next : ℕ) → kind_allowed kind ≡ true → outflow ≤ largest → next_allowed counts own kind next ≡ true →
      SegmentRead counts own (segment_of kind outflow next)
  segment_fit kind outflow next k small n = (record { outflow = small; next = next_is counts own kind next k n }, record { kind = k; next = n })

  pub line_fit :
      (owner_kind owner class quantity factor : ℕ) → owner_kind_allowed owner_kind ≡ true → owner_allowed counts owner_kind owner ≡ true →
      class_allowed owner_kind class ≡ true → quantity ≤ largest → factor_allowed class factor ≡ true →
      LineRead counts own (line_of owner_kind owner class quantity factor)
  line_fit owner_kind owner class quantity factor k o is small f =
      let kind_is : owner_kind ≤ segment_owner = leb-true owner_kind segment_owner k in (
        record {
          owner_kind_is = kind_is;
          some_owner = some_owner counts owner_kind owner kind_is o;
          plant = λ kind. at_most 1 counts.plants owner (sym (owner_plant counts owner_kind owner kind) ∙ o);
          segment = λ kind. at_most 1 counts.segments owner (sym (owner_segment counts owner_kind owner kind) ∙ o);
          quantity = small;
          factor = factor_at_most class factor f;
        },
        record { owner = is; factor = f },
      )

-- ---- what each reader gives
header_gives : Gives (λ numbers. CountsWithin) header
unfolding Gives header
header_gives = λ _ _ _ plants _ p segments _ s lines _ l. counts_fit plants segments lines p s l

plant_gives : (counts : Counts) (own : ℕ) → Gives (λ numbers. PlantWithin counts own) (plant counts)
unfolding Gives plant
plant_gives counts own = λ exported small _ first _ f fraction _ m. plant_fit counts own exported first fraction small f m

segment_gives : (counts : Counts) (own : ℕ) → Gives (λ numbers. SegmentRead counts own) (segment counts own)
unfolding Gives segment
segment_gives counts own = λ kind _ k outflow small _ next _ n. segment_fit counts own kind outflow next k small n

line_gives : (counts : Counts) (own : ℕ) → Gives (λ numbers. LineRead counts own) (line counts)
unfolding Gives line
line_gives counts own =
    λ owner_kind _ k owner _ o class _ is quantity small _ factor _ f. line_fit counts own owner_kind owner class quantity factor k o is small f

-- ---- so is what was read from a spot of a file on
module _ (file : List ℕ) (at : Spot) where
  -- the header's counts
  pub header_within : (counts : Counts) (next : Spot) → reads_from header file at ≡ whole counts next → CountsWithin counts
  header_within counts next e = whole_has CountsWithin file header at counts next header_gives e

  -- whatever the counts are that the records are tested by
  module _ (counts : Counts) where
    -- a plant
    pub plant_within : (own : ℕ) (one : Plant) (next : Spot) → reads_from (plant counts) file at ≡ whole one next → PlantWithin counts own one
    plant_within own one next e = whole_has (PlantWithin counts own) file (plant counts) at one next (plant_gives counts own) e

    -- a segment, by its own number
    pub segment_within : (own : ℕ) (one : Segment) (next : Spot) → reads_from (segment counts own) file at ≡ whole one next → SegmentRead counts own one
    segment_within own one next e = whole_has (SegmentRead counts own) file (segment counts own) at one next (segment_gives counts own) e

    -- a line
    pub line_within : (own : ℕ) (one : Line) (next : Spot) → reads_from (line counts) file at ≡ whole one next → LineRead counts own one
    line_within own one next e = whole_has (LineRead counts own) file (line counts) at one next (line_gives counts own) e

    -- all of a kind: as many as are announced, and each within its limits
    pub plants_within :
        (all : List Plant) (next : Spot) → reads_from (plants_of counts) file at ≡ whole all next →
        (length all ≡ counts.plants) × Each (PlantWithin counts) 1 all
    plants_within all next e =
        whole_has _ file (plants_of counts) at all next (gives_each (PlantWithin counts) (λ own. plant counts) (plant_gives counts) 1 counts.plants) e

    pub segments_within :
        (all : List Segment) (next : Spot) → reads_from (segments_of counts) file at ≡ whole all next →
        (length all ≡ counts.segments) × Each (SegmentRead counts) 1 all
    segments_within all next e =
        whole_has _ file (segments_of counts) at all next (gives_each (SegmentRead counts) (segment counts) (segment_gives counts) 1 counts.segments) e

    pub lines_within :
        (all : List Line) (next : Spot) → reads_from (lines_of counts) file at ≡ whole all next →
        (length all ≡ counts.lines) × Each (LineRead counts) 1 all
    lines_within all next e =
        whole_has _ file (lines_of counts) at all next (gives_each (LineRead counts) (λ own. line counts) (line_gives counts) 1 counts.lines) e
