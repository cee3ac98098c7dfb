-- The numbers of a period in the order of its file: the header, then the plants, the segments and the lines.
use Rattle.std.specs.Prelude.{ℕ, List, [], ◌∷◌, ◌++◌, length}
use Rattle.fields.specs.Readers.{consumes}
use Rattle.fields.specs.Lists.{in_turn}
use Rattle.records.specs.declared.plant.Plant.{Plant}
use Rattle.records.specs.declared.segment.Segment.{Segment}
use Rattle.records.specs.declared.line.Line.{Line}
use Rattle.records.specs.Headers.{edition}
use Rattle.records.specs.Periods.{Period, period}

-- The header's numbers: the edition, and how many records of each kind follow (rule 2.3).
abbrev pub header_numbers_of : Period → List ℕ
header_numbers_of period = edition ∷ length period.plants ∷ length period.segments ∷ length period.lines ∷ []

-- A plant's numbers (rule 2.4).
abbrev pub plant_numbers_of : Plant → List ℕ
plant_numbers_of plant = plant.exported ∷ plant.first ∷ plant.fraction ∷ []

-- A segment's numbers (rule 2.5).
abbrev pub segment_numbers_of : Segment → List ℕ
segment_numbers_of segment = segment.kind ∷ segment.outflow ∷ segment.next ∷ []

-- A line's numbers (rule 2.8).
abbrev pub line_numbers_of : Line → List ℕ
line_numbers_of line = line.owner_kind ∷ line.owner ∷ line.class ∷ line.quantity ∷ line.factor ∷ []

-- The numbers of the whole period (rule 2.2).
unfoldable pub period_numbers : Period → List ℕ
period_numbers period =
    header_numbers_of period
    ++ (in_turn plant_numbers_of period.plants
    ++ (in_turn segment_numbers_of period.segments
    ++ in_turn line_numbers_of period.lines))

-- The numbers that reading takes from a file.
unfoldable pub consumed : List ℕ → List ℕ
consumed file = consumes period file 0
