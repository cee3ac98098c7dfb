-- The limits of what a period file holds.
use Rattle.std.specs.Prelude.{ℕ, ◌≤◌, ◌<◌, ◌≡◌, true, ◌⊎◌, length}
use Rattle.number.specs.Groups.{largest}
use Rattle.fields.specs.Lists.{Each}
use Rattle.records.specs.declared.counts.Counts.{Counts}
use Rattle.records.specs.declared.plant.Plant.{Plant}
use Rattle.records.specs.declared.segment.Segment.{Segment}
use Rattle.records.specs.declared.line.Line.{Line}
use Rattle.records.specs.Plants.{most_plants, millionths}
use Rattle.records.specs.Segments.{most_segments, kind_allowed, next_allowed}
use Rattle.records.specs.Classes.{plant_owner, segment_owner, largest_factor, class_allowed, factor_allowed}
use Rattle.records.specs.Lines.{most_lines}
use Rattle.records.specs.Headers.{announced}
use Rattle.records.specs.Periods.{Period}

-- The counts of a header: how many records of each kind there may be (rule 2.3).
pub record CountsWithin (counts : Counts) : Type 0 where
  pub some_plants : 1 ≤ counts.plants
  pub most_plants_is : counts.plants ≤ most_plants
  pub some_segments : 1 ≤ counts.segments
  pub most_segments_is : counts.segments ≤ most_segments
  pub most_lines_is : counts.lines ≤ most_lines

-- The largest counts.
abbrev pub most_counts : Counts
most_counts = announced most_plants most_segments most_lines

-- The counts of a period.
abbrev pub counts_of : Period → Counts
counts_of period = announced (length period.plants) (length period.segments) (length period.lines)

-- A plant: its route starts at a segment that is there, and no more than the whole is of that origin (rules 2.4 and 2.9).
pub record PlantWithin (counts : Counts) (own : ℕ) (plant : Plant) : Type 0 where
  pub exported : plant.exported ≤ largest
  pub some_first : 1 ≤ plant.first
  pub first : plant.first ≤ counts.segments
  pub fraction : plant.fraction ≤ millionths

-- A segment, whatever its kind: it leads to a later segment that is there, or to none (rules 2.7 and 2.9).
pub record SegmentWithin (counts : Counts) (own : ℕ) (segment : Segment) : Type 0 where
  pub outflow : segment.outflow ≤ largest
  pub next : (segment.next ≡ 0) ⊎ ((own < segment.next) × (segment.next ≤ counts.segments))

-- A segment by its kind: a store ends a route, all others lead on (rules 2.6 and 2.7).
pub record KindWithin (counts : Counts) (own : ℕ) (segment : Segment) : Type 0 where
  pub kind : kind_allowed segment.kind ≡ true
  pub next : next_allowed counts own segment.kind segment.next ≡ true

-- A line: a plant or segment that is there owns it, and its factor is no larger than the limit (rules 2.8 and 2.9).
pub record LineWithin (counts : Counts) (own : ℕ) (line : Line) : Type 0 where
  pub owner_kind_is : line.owner_kind ≤ segment_owner
  pub some_owner : 1 ≤ line.owner
  pub plant : line.owner_kind ≡ plant_owner → line.owner ≤ counts.plants
  pub segment : line.owner_kind ≡ segment_owner → line.owner ≤ counts.segments
  pub quantity : line.quantity ≤ largest
  pub factor : line.factor ≤ largest_factor

-- A line's class: the table has it for such an owner, and with such a factor (rules 3.2 and 3.3).
pub record ClassWithin (own : ℕ) (line : Line) : Type 0 where
  pub owner : class_allowed line.owner_kind line.class ≡ true
  pub factor : factor_allowed line.class line.factor ≡ true

-- A period: its counts, and each of its records (rule 2.10).
pub record Within (period : Period) : Type 0 where
  pub counts : CountsWithin (counts_of period)
  pub plants : Each (PlantWithin (counts_of period)) 1 period.plants
  pub segments : Each (SegmentWithin (counts_of period)) 1 period.segments
  pub kinds : Each (KindWithin (counts_of period)) 1 period.segments
  pub lines : Each (LineWithin (counts_of period)) 1 period.lines
  pub classes : Each ClassWithin 1 period.lines
