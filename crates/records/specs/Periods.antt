-- The period file: its records behind the header, number by number.
use Rattle.std.specs.Prelude.{ℕ, ◌+◌, ◌*◌, List}
use Rattle.fields.specs.declared.reason.Reason.TheVariants.{WrongPlant, WrongSegment, WrongLine}
use Rattle.fields.specs.Answers.{Verdict}
use Rattle.fields.specs.Ranges.{any_amount}
use Rattle.fields.specs.Readers.{Reader, return, field, ◌>>=◌, each, Read}
use Rattle.fields.specs.Files.{file_read, read_verdict}
use Rattle.records.specs.declared.counts.Counts.{Counts}
use Rattle.records.specs.declared.plant.Plant.{Plant}
use Rattle.records.specs.declared.segment.Segment.{Segment}
use Rattle.records.specs.declared.line.Line.{Line}
use Rattle.records.specs.Plants.{most_plants, plant_fields, plant_bytes, first_allowed, fraction_allowed, plant_of}
use Rattle.records.specs.Segments.{most_segments, segment_fields, segment_bytes, kind_allowed, next_allowed, segment_of}
use Rattle.records.specs.Classes.{class_allowed, factor_allowed}
use Rattle.records.specs.Lines.{most_lines, line_fields, line_bytes, owner_kind_allowed, owner_allowed, line_of}
use Rattle.records.specs.Headers.{header, header_fields, header_bytes}

-- The records of a file that was read.
pub record Period : Type 0 where
  pub plants : List Plant
  pub segments : List Segment
  pub lines : List Line

-- The period of these records.
abbrev pub period_of : List Plant → List Segment → List Line → Period
period_of plants segments lines = record { plants = plants; segments = segments; lines = lines }

-- A plant's record (rule 2.4).
unfoldable pub plant : Counts → Reader Plant
plant counts = do
  exported ← field WrongPlant any_amount
  first ← field WrongPlant (first_allowed counts)
  fraction ← field WrongPlant fraction_allowed
  return (plant_of exported first fraction)

-- A segment's record, which is tested by the segment's own number (rule 2.5).
unfoldable pub segment : Counts → ℕ → Reader Segment
segment counts own = do
  kind ← field WrongSegment kind_allowed
  outflow ← field WrongSegment any_amount
  next ← field WrongSegment (next_allowed counts own kind)
  return (segment_of kind outflow next)

-- A line's record (rules 2.8, 3.2 and 3.3).
unfoldable pub line : Counts → Reader Line
line counts = do
  owner_kind ← field WrongLine owner_kind_allowed
  owner ← field WrongLine (owner_allowed counts owner_kind)
  class ← field WrongLine (class_allowed owner_kind)
  quantity ← field WrongLine any_amount
  factor ← field WrongLine (factor_allowed class)
  return (line_of owner_kind owner class quantity factor)

-- The plants: as many as the header says, numbered from 1 (rule 2.2).
abbrev pub plants_of : Counts → Reader (List Plant)
plants_of counts = each (λ (own : ℕ). plant counts) 1 counts.plants

-- The segments, in the same way (rule 2.2).
abbrev pub segments_of : Counts → Reader (List Segment)
segments_of counts = each (segment counts) 1 counts.segments

-- The lines, in the same way (rule 2.2).
abbrev pub lines_of : Counts → Reader (List Line)
lines_of counts = each (λ (own : ℕ). line counts) 1 counts.lines

-- The records behind the header: plants, segments, lines (rule 2.2).
unfoldable pub records : Counts → Reader Period
records counts = do
  plants ← plants_of counts
  segments ← segments_of counts
  lines ← lines_of counts
  return (period_of plants segments lines)

-- The whole period: the header, then the records that it says (rule 2.2).
unfoldable pub period : Reader Period
period = do
  counts ← header
  records counts

-- The whole file, with the test of its end (rules 2.1 and 8.4).
unfoldable pub period_file : List ℕ → Read Period
period_file = file_read period

-- What reading says of a file: accepted, or refused for one of 1 to 9 (rules 8.3 and 8.4).
abbrev pub period_verdict : List ℕ → Verdict
period_verdict file = read_verdict (period_file file)

-- The most numbers of a file: every count is at its largest.
abbrev pub most_numbers : ℕ
most_numbers = header_fields + plant_fields * most_plants + segment_fields * most_segments + line_fields * most_lines

-- The most bytes of a file: every count and every field is at its largest (rule 9.2).
abbrev pub most_bytes : ℕ
most_bytes = header_bytes + plant_bytes * most_plants + segment_bytes * most_segments + line_bytes * most_lines
