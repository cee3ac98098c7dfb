-- The tests of a period that was read, in their order, and the ruling.
use Rattle.std.specs.Prelude.{ℕ, suc, ◌*◌, ◌&&◌, List, [], ◌∷◌, ◌++◌, take, ltb, eqb}
use Rattle.number.specs.Groups.{largest}
use Rattle.fields.specs.declared.reason.Reason.TheVariants.{TooManyGrams, InflowTooLarge, OutflowOverInflow, EmissionWithoutInflow, PlantTableShort, SegmentTableShort, CapturedOverFuel}
use Rattle.fields.specs.Answers.{Notice}
use Rattle.fields.specs.Tests.{Test, tested_by, listed}
use Rattle.records.specs.declared.line.Line.{Line}
use Rattle.records.specs.declared.counts.Counts.{Counts}
use Rattle.records.specs.Classes.{plant_owner}
use Rattle.records.specs.Lines.{most_grams}
use Rattle.accounts.specs.Emissions.{added_grams, fuel_grams, captured_grams}
use Rattle.accounts.specs.Accounts.{Account}

-- The answer to a file: refused with a notice, or accepted with the numbers of both tables (rule 8.8).
pub data Ruling : Type 0 where
  refusal : Notice → Ruling
  accepted : (plants segments : List ℕ) → Ruling

-- The first test that fails refuses; if none fails, the given ruling is the answer (rule 8.8).
abbrev pub tested : List Test → Ruling → Ruling
tested = tested_by refusal

-- 10, line by line, with the line's number as place and its first byte as offset: what its owner's lines add up to, with this line (rules 8.2,
-- 8.5 and 8.9). `starts` has the first byte of the line at each index.
unfoldable pub line_tests : (starts : ℕ → ℕ) → List Line → (done : ℕ) → List Line → List Test
line_tests starts lines done [] = []
line_tests starts lines done (line ∷ rest) =
    record {
      fails = ltb most_grams (added_grams line.owner_kind line.owner (take (suc done) lines));
      reason = TooManyGrams;
      place = suc done;
      offset = starts done;
    }
    ∷ line_tests starts lines (suc done) rest

-- 16, of the plant at an index from 0, with its number as place, and as offset how many bytes were read: whether more is captured than its fuel gives
-- (rules 8.2, 8.9 and 8.10).
abbrev pub fuel_test : (bytes : ℕ) → List Line → (index : ℕ) → Test
fuel_test bytes lines index = record {
  fails = ltb (fuel_grams plant_owner (suc index) lines) (captured_grams plant_owner (suc index) lines);
  reason = CapturedOverFuel;
  place = suc index;
  offset = bytes;
}

-- What the lines are tested for: 10, line by line, and then 16, plant by plant (rules 8.5 and 8.10).
unfoldable pub emission_tests : (starts : ℕ → ℕ) (bytes plants : ℕ) → List Line → List Test
emission_tests starts bytes plants lines = line_tests starts lines 0 lines ++ listed (fuel_test bytes lines) 0 plants

-- 11, 12 and 13, segment by segment, with the segment's number as place, and as offset how many bytes were read (rules 8.2, 8.6 and 8.9).
unfoldable pub segment_tests : (bytes : ℕ) → List Account → List Test
segment_tests bytes [] = []
segment_tests bytes (a ∷ accounts) =
    record { fails = ltb largest a.inflow; reason = InflowTooLarge; place = a.own; offset = bytes }
    ∷ record { fails = ltb a.inflow a.outflow; reason = OutflowOverInflow; place = a.own; offset = bytes }
    ∷ record { fails = ltb 0 a.emission && eqb a.inflow 0; reason = EmissionWithoutInflow; place = a.own; offset = bytes }
    ∷ segment_tests bytes accounts

-- How many numbers a row has, of a plant and of a segment (rules 7.1 and 7.2).
abbrev pub plant_row_numbers : ℕ
plant_row_numbers = 8

abbrev pub segment_row_numbers : ℕ
segment_row_numbers = 5

-- 14 and 15: whether each table has room for its rows; the place is how many numbers these have, the offset how many bytes were read (rules 8.7
-- and 8.9).
abbrev pub table_tests : (bytes : ℕ) → Counts → (plant_table segment_table : ℕ) → List Test
table_tests bytes counts plant_table segment_table =
    let plants_need = plant_row_numbers * counts.plants in
    let segments_need = segment_row_numbers * counts.segments in
    record { fails = ltb plant_table plants_need; reason = PlantTableShort; place = plants_need; offset = bytes }
    ∷ record { fails = ltb segment_table segments_need; reason = SegmentTableShort; place = segments_need; offset = bytes }
    ∷ []
