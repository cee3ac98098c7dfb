-- Tables with room for the most plants and segments get the same answer as longer ones; and an accepted file's numbers have room in its tables.
use Prim.Native.Nat.{ℕ, ◌*◌, ◌≤◌, min}
use mathlib.Core.Path.{◌≡◌, refl, ap}
use mathlib.Core.Bool.{Bool, true, false}
use mathlib.Core.List.{List, ◌++◌}
use native.Mathlib.Omega.{arith}
use lib.ListN.{length}
use lib.Dec.{ltb}
use borrow.Author.Tests.{lt-ltb, le-ltb, ltb-true, ltb-false}
use Rattle.fields.specs.Readers.{Read, read, refused}
use Rattle.fields.specs.Tests.{Test}
use Rattle.records.specs.declared.counts.Counts.{Counts}
use Rattle.records.specs.Plants.{most_plants}
use Rattle.records.specs.Segments.{most_segments}
use Rattle.records.specs.Periods.{Period, period_file}
use Rattle.records.specs.Places.{line_start}
use Rattle.records.specs.Within.{counts_of}
use Rattle.records.proofs.Within.{read_within}
use Rattle.accounts.specs.Order.{tested, emission_tests, segment_tests, plant_row_numbers, segment_row_numbers, table_tests}
use Rattle.accounts.specs.Quantified.{accounts_of, rows, judged, after_reading, quantified}
use Rattle.accounts.specs.Accepted.{Accepted}
use Rattle.accounts.proofs.Accepting.{accepted_means, accepted_lengths}
use Rattle.accounts.proofs.RowsAt.{plants_long, segments_long}

-- whether a table is too short for rows that need no more than the most
same_test : (table most need : ℕ) → need ≤ most → ltb (min table most) need ≡ ltb table need
same_test table most need few = by_test (ltb table need) refl
  where
    by_test : (t : Bool) → ltb table need ≡ t → ltb (min table most) need ≡ t
    by_test true short = lt-ltb (min table most) need (omega (arith, ltb-true table need short))
    by_test false long = le-ltb (min table most) need (omega (arith, ltb-false table need long))

-- 14 and 15
same_tests :
    (bytes : ℕ) (counts : Counts) (plant_table segment_table : ℕ) → counts.plants ≤ most_plants → counts.segments ≤ most_segments →
    table_tests bytes counts (min plant_table (plant_row_numbers * most_plants)) (min segment_table (segment_row_numbers * most_segments))
    ≡ table_tests bytes counts plant_table segment_table
same_tests bytes counts plant_table segment_table few_plants few_segments =
    let p = same_test plant_table (plant_row_numbers * most_plants) (plant_row_numbers * counts.plants) (omega arith) in
    let s = same_test segment_table (segment_row_numbers * most_segments) (segment_row_numbers * counts.segments) (omega arith) in
    cc

-- the whole answer: a file that is read has no more than the most of either
pub room_enough :
    (file : List ℕ) (plant_table segment_table : ℕ) →
    quantified file (min plant_table (plant_row_numbers * most_plants)) (min segment_table (segment_row_numbers * most_segments)) ≡ quantified file plant_table segment_table
unfolding quantified judged
room_enough file plant_table segment_table = by_reading (period_file file) refl
  where
    by_reading :
        (outcome : Read Period) → period_file file ≡ outcome →
        after_reading file outcome (min plant_table (plant_row_numbers * most_plants)) (min segment_table (segment_row_numbers * most_segments))
        ≡ after_reading file outcome plant_table segment_table
    by_reading (refused notice) e = refl
    by_reading (read period place at) e =
        let within = read_within file period place at e in
        ap
        (λ (tests : List Test).
        tested
        (emission_tests (line_start file (counts_of period)) (length file) (length period.plants) period.lines
        ++ (segment_tests (length file) (accounts_of period) ++ tests))
        (rows period (accounts_of period)))
        (same_tests (length file) (counts_of period) plant_table segment_table within.counts.most_plants_is within.counts.most_segments_is)

-- ---- an accepted file's numbers have room in its tables
pub accepted_room :
    {file plants segments : List ℕ} (given : Accepted file plants segments) →
    (length plants ≤ given.plant_table) × (length segments ≤ given.segment_table)
accepted_room given = rw (plants_long (accepted_means given), segments_long (accepted_means given)) (accepted_lengths given)
