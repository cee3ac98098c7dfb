-- All tests of a file, each at its place and offset and in order, without a reader; by `proofs/Order.antt` the first that fails is the answer.
use Rattle.std.specs.Prelude.{ℕ, suc, ◌+◌, List, [], ◌∷◌, ◌++◌, eqb, length}
use Rattle.number.specs.Counting.{value_at}
use Rattle.fields.specs.declared.reason.Reason.TheVariants.{WrongEdition, WrongCount, WrongPlant, WrongSegment, WrongLine}
use Rattle.fields.specs.Tests.{Test, number_tests, field_tests, end_test, listed, tests_of_each}
use Rattle.records.specs.declared.counts.Counts.{Counts}
use Rattle.records.specs.declared.plant.Plant.{Plant}
use Rattle.records.specs.declared.segment.Segment.{Segment}
use Rattle.records.specs.declared.line.Line.{Line}
use Rattle.records.specs.Plants.{plants_allowed, first_allowed, fraction_allowed, plant_of}
use Rattle.records.specs.Segments.{segments_allowed, kind_allowed, next_allowed, segment_of}
use Rattle.records.specs.Classes.{class_allowed, factor_allowed}
use Rattle.records.specs.Lines.{lines_allowed, owner_kind_allowed, owner_allowed, line_of}
use Rattle.records.specs.Headers.{edition, announced}
use Rattle.records.specs.Periods.{Period}
use Rattle.records.specs.Places.{plant_place, segment_place, line_place, number_count, line_start}
use Rattle.accounts.specs.Order.{emission_tests, segment_tests, table_tests}
use Rattle.accounts.specs.Quantified.{accounts_of}

-- The counts that the header tells (rule 2.3).
unfoldable pub counts_at : List ℕ → Counts
counts_at file = announced (value_at file 1) (value_at file 2) (value_at file 3)

-- ---- the records, by the numbers at their places
abbrev pub plant_at : List ℕ → ℕ → Plant
plant_at file index =
    let k = plant_place index in
    plant_of (value_at file k) (value_at file (1 + k)) (value_at file (2 + k))

abbrev pub segment_at : List ℕ → ℕ → Segment
segment_at file index =
    let k = segment_place (counts_at file) index in
    segment_of (value_at file k) (value_at file (1 + k)) (value_at file (2 + k))

abbrev pub line_at : List ℕ → ℕ → Line
line_at file index =
    let k = line_place (counts_at file) index in
    line_of (value_at file k) (value_at file (1 + k)) (value_at file (2 + k)) (value_at file (3 + k)) (value_at file (4 + k))

-- The period that these records make (rule 2.2).
unfoldable pub period_at : List ℕ → Period
period_at file = record {
  plants = listed (plant_at file) 0 (counts_at file).plants;
  segments = listed (segment_at file) 0 (counts_at file).segments;
  lines = listed (line_at file) 0 (counts_at file).lines;
}

-- ---- the tests
-- 4 for the edition, 5 for each of the three counts (rules 2.3 and 8.3).
unfoldable pub header_tests : List ℕ → List Test
header_tests file =
    field_tests WrongEdition (eqb edition) file 0
    ++ (field_tests WrongCount plants_allowed file 1
    ++ (field_tests WrongCount segments_allowed file 2
    ++ field_tests WrongCount lines_allowed file 3))

-- 6 for the fields of a plant (rules 2.4 and 8.3).
unfoldable pub plant_tests : List ℕ → ℕ → List Test
plant_tests file index =
    let k = plant_place index in
    number_tests file k
    ++ (field_tests WrongPlant (first_allowed (counts_at file)) file (1 + k)
    ++ field_tests WrongPlant fraction_allowed file (2 + k))

-- 7 for the fields of a segment (rules 2.5 to 2.7 and 8.3).
unfoldable pub segment_field_tests : List ℕ → ℕ → List Test
segment_field_tests file index =
    let k = segment_place (counts_at file) index in
    field_tests WrongSegment kind_allowed file k
    ++ (number_tests file (1 + k)
    ++ field_tests WrongSegment (next_allowed (counts_at file) (suc index) (value_at file k)) file (2 + k))

-- 8 for the fields of a line (rules 2.8, 3.2, 3.3 and 8.3).
unfoldable pub line_field_tests : List ℕ → ℕ → List Test
line_field_tests file index =
    let k = line_place (counts_at file) index in
    field_tests WrongLine owner_kind_allowed file k
    ++ (field_tests WrongLine (owner_allowed (counts_at file) (value_at file k)) file (1 + k)
    ++ (field_tests WrongLine (class_allowed (value_at file k)) file (2 + k)
    ++ (number_tests file (3 + k)
    ++ field_tests WrongLine (factor_allowed (value_at file (2 + k))) file (4 + k))))

-- The tests of reading: the fields of all records in their order, then the end of the file (rules 8.3 and 8.4).
unfoldable pub reading_tests : List ℕ → List Test
reading_tests file =
    let counts = counts_at file in
    header_tests file
    ++ (tests_of_each (plant_tests file) 0 counts.plants
    ++ (tests_of_each (segment_field_tests file) 0 counts.segments
    ++ (tests_of_each (line_field_tests file) 0 counts.lines
    ++ end_test file (number_count counts) ∷ [])))

-- All tests of a file: of reading (1 to 9), emissions (10, 16), segments (11 to 13) and tables (14, 15), which have these lengths (rule 8.8).
unfoldable pub all_tests : List ℕ → (plant_table segment_table : ℕ) → List Test
all_tests file plant_table segment_table =
    let period = period_at file in
    reading_tests file
    ++ (emission_tests (line_start file (counts_at file)) (length file) (counts_at file).plants period.lines
    ++ (segment_tests (length file) (accounts_of period)
    ++ table_tests (length file) (counts_at file) plant_table segment_table))
