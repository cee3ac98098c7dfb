-- The numbers of refusal. None is 0, which tells a C caller that its file is accepted; and a refusal up to 9 is that of reading, since the tests
-- that come after reading refuse with 10 or more.
use Prim.Native.Nat.{ℕ, zero, suc, ◌≤◌, ◌<◌}
use mathlib.Core.Path.{◌≡◌}
use mathlib.Core.List.{List, [], ◌∷◌, ◌++◌}
use native.Mathlib.Omega.{arith}
use lib.ListN.{length}
use Rattle.fields.specs.declared.reason.Reason.TheVariants.{BytesAfter, TooManyGrams}
use Rattle.fields.specs.Answers.{Notice}
use Rattle.fields.specs.Readers.{Read, read, refused}
use Rattle.fields.specs.Reasons.{number_of}
use Rattle.fields.specs.Tests.{Test, FirstFails, here, later, listed}
use Rattle.fields.proofs.Testing.{first_numbered}
use Rattle.records.specs.declared.line.Line.{Line}
use Rattle.records.specs.declared.counts.Counts.{Counts}
use Rattle.records.specs.Periods.{Period}
use Rattle.records.specs.Places.{line_start}
use Rattle.records.specs.Within.{counts_of}
use Rattle.accounts.specs.Accounts.{Account}
use Rattle.accounts.specs.Order.{refusal, line_tests, fuel_test, emission_tests, segment_tests, table_tests}
use Rattle.accounts.specs.Quantified.{accounts_of, rows, judged, after_reading, quantified}
use Rattle.accounts.proofs.Testing.{first_fails}
use Rattle.accounts.proofs.Order.{refused_exactly}

-- ---- no refusal has the number 0
pub refusal_numbered :
    (file : List ℕ) (plant_table segment_table : ℕ) (notice : Notice) → quantified file plant_table segment_table ≡ refusal notice → 0 < notice.number
refusal_numbered file plant_table segment_table notice e = first_numbered ((refused_exactly file plant_table segment_table notice).0 e)

-- ---- tests of which each refuses with 10 or more
unfoldable FromTen : List Test → Type 0
FromTen [] = Unit {0}
FromTen (test ∷ tests) = (number_of TooManyGrams ≤ number_of test.reason) × FromTen tests

-- so does the first that fails
first_from : {notice : Notice} {tests : List Test} → FirstFails tests notice → FromTen tests → number_of TooManyGrams ≤ notice.number
unfolding FromTen
first_from (here h) each = each.0
first_from (later h more) each = first_from more each.1

-- tests one after another
both : (tests rest : List Test) → FromTen tests → FromTen rest → FromTen (tests ++ rest)
unfolding FromTen
both [] rest each others = others
both (test ∷ tests) rest each others = (each.0, both tests rest each.1 others)

-- 10
of_lines : (starts : ℕ → ℕ) (lines : List Line) (done : ℕ) (left : List Line) → FromTen (line_tests starts lines done left)
unfolding FromTen line_tests
of_lines starts lines done [] = tt
of_lines starts lines done (line ∷ left) = (omega arith, of_lines starts lines (suc done) left)

-- 16
of_captured : (bytes : ℕ) (lines : List Line) (from count : ℕ) → FromTen (listed (fuel_test bytes lines) from count)
unfolding FromTen listed
of_captured bytes lines from zero = tt
of_captured bytes lines from (suc count) = (omega arith, of_captured bytes lines (suc from) count)

-- both
of_emissions : (starts : ℕ → ℕ) (bytes plants : ℕ) (lines : List Line) → FromTen (emission_tests starts bytes plants lines)
unfolding emission_tests
of_emissions starts bytes plants lines =
    both (line_tests starts lines 0 lines) (listed (fuel_test bytes lines) 0 plants) (of_lines starts lines 0 lines) (of_captured bytes lines 0 plants)

-- 11, 12 and 13
of_segments : (bytes : ℕ) (accounts : List Account) → FromTen (segment_tests bytes accounts)
unfolding FromTen segment_tests
of_segments bytes [] = tt
of_segments bytes (a ∷ accounts) = (omega arith, (omega arith, (omega arith, of_segments bytes accounts)))

-- and then 14 and 15: all that come after reading
after_reading_lem :
    (starts : ℕ → ℕ) (bytes : ℕ) (lines : List Line) (accounts : List Account) (counts : Counts) (plant_table segment_table : ℕ) →
    FromTen (emission_tests starts bytes counts.plants lines ++ (segment_tests bytes accounts ++ table_tests bytes counts plant_table segment_table))
unfolding FromTen
after_reading_lem starts bytes lines accounts counts plant_table segment_table =
    let tables = table_tests bytes counts plant_table segment_table in
    both (emission_tests starts bytes counts.plants lines) (segment_tests bytes accounts ++ tables) (of_emissions starts bytes counts.plants lines)
    (both (segment_tests bytes accounts) tables (of_segments bytes accounts) (omega arith, (omega arith, tt)))

-- ---- a refusal up to 9 is that of reading
pub from_reading :
    (file : List ℕ) (plant_table segment_table : ℕ) (notice : Notice) (outcome : Read Period) →
    after_reading file outcome plant_table segment_table ≡ refusal notice → notice.number ≤ number_of BytesAfter → outcome ≡ refused notice
unfolding judged rows
from_reading file plant_table segment_table notice (refused found) e early = cc
from_reading file plant_table segment_table notice (read period place at) e early =
    let late =
    first_from (first_fails _ notice _ _ e)
    (after_reading_lem (line_start file (counts_of period)) (length file) period.lines (accounts_of period) (counts_of period) plant_table segment_table) in
    absurd (omega (arith, early, late))
