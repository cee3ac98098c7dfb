-- Every refusal has the offset that is due to its number and place (rule 8.9), and none lies past the end of the file.
use Prim.Native.Nat.{ℕ, zero, suc, ◌-◌, ◌≤◌}
use mathlib.Core.Path.{◌≡◌, refl, sym, ap, ◌∙◌}
use mathlib.Core.Bool.{Bool, true, false, cond}
use mathlib.Core.List.{List, [], ◌∷◌, ◌++◌}
use native.Mathlib.Omega.{arith}
use lib.Dec.{leb, eqb}
use lib.ListN.{length}
use borrow.Author.Tests.{le-leb}
use Rattle.number.specs.Counting.{start_of}
use Rattle.number.proofs.Counting.{starts_inside}
use Rattle.fields.specs.declared.reason.Reason.TheVariants.{BytesAfter, TooManyGrams}
use Rattle.fields.specs.Reasons.{number_of}
use Rattle.fields.specs.Answers.{Notice}
use Rattle.fields.specs.Readers.{Read, read, refused}
use Rattle.fields.specs.Tests.{Test, FirstFails, here, later, listed}
use Rattle.fields.proofs.Offsets.{refused_stands}
use Rattle.records.specs.declared.counts.Counts.{Counts}
use Rattle.records.specs.declared.line.Line.{Line}
use Rattle.records.specs.Periods.{Period, period, period_file}
use Rattle.records.specs.Places.{line_place, line_start}
use Rattle.records.specs.Held.{records_of}
use Rattle.records.specs.Within.{counts_of}
use Rattle.records.proofs.Within.{reading_numbered}
use Rattle.accounts.specs.Accounts.{Account}
use Rattle.accounts.specs.Order.{refusal, line_tests, fuel_test, emission_tests, segment_tests, table_tests}
use Rattle.accounts.specs.Quantified.{accounts_of, rows, judged, after_reading, quantified}
use Rattle.accounts.specs.Accepted.{held}
use Rattle.accounts.specs.OffsetDue.{offset_due}
use Rattle.accounts.proofs.Testing.{first_fails}

module _ (file : List ℕ) where
  -- ---- tests of which each has the offset that is due
  unfoldable Due : List Test → Type 0
  Due [] = Unit {0}
  Due (test ∷ tests) = (test.offset ≡ offset_due file (number_of test.reason) test.place) × Due tests

  -- so has the first that fails
  first_due : {told : Notice} {tests : List Test} → FirstFails tests told → Due tests → told.offset ≡ offset_due file told.number told.place
  unfolding Due
  first_due (here h) each = each.0
  first_due (later h more) each = first_due more each.1

  -- tests one after another
  both : (tests rest : List Test) → Due tests → Due rest → Due (tests ++ rest)
  unfolding Due
  both [] rest each others = others
  both (test ∷ tests) rest each others = (each.0, both tests rest each.1 others)

  -- ---- the tests that come after reading: 10 and 16, then 11 to 13, then 14 and 15
  of_lines : (lines : List Line) (done : ℕ) (left : List Line) → Due (line_tests (line_start file (counts_of (held file))) lines done left)
  unfolding Due line_tests
  of_lines lines done [] = tt
  of_lines lines done (line ∷ left) =
      (ap (λ (index : ℕ). line_start file (counts_of (held file)) index) (omega arith), of_lines lines (suc done) left)

  of_captured : (lines : List Line) (from count : ℕ) → Due (listed (fuel_test (length file) lines) from count)
  unfolding Due listed
  of_captured lines from zero = tt
  of_captured lines from (suc count) = (refl, of_captured lines (suc from) count)

  of_emissions : (plants : ℕ) (lines : List Line) → Due (emission_tests (line_start file (counts_of (held file))) (length file) plants lines)
  unfolding emission_tests
  of_emissions plants lines =
      both (line_tests (line_start file (counts_of (held file))) lines 0 lines) (listed (fuel_test (length file) lines) 0 plants)
      (of_lines lines 0 lines) (of_captured lines 0 plants)

  of_segments : (accounts : List Account) → Due (segment_tests (length file) accounts)
  unfolding Due segment_tests
  of_segments [] = tt
  of_segments (a ∷ accounts) = (refl, (refl, (refl, of_segments accounts)))

  of_tables : (counts : Counts) (plant_table segment_table : ℕ) → Due (table_tests (length file) counts plant_table segment_table)
  unfolding Due
  of_tables counts plant_table segment_table = (refl, (refl, tt))

  after_reading_lem :
      (lines : List Line) (accounts : List Account) (counts : Counts) (plant_table segment_table : ℕ) →
      Due (emission_tests (line_start file (counts_of (held file))) (length file) counts.plants lines
      ++ (segment_tests (length file) accounts ++ table_tests (length file) counts plant_table segment_table))
  after_reading_lem lines accounts counts plant_table segment_table =
      let tables = table_tests (length file) counts plant_table segment_table in
      both (emission_tests (line_start file (counts_of (held file))) (length file) counts.plants lines) (segment_tests (length file) accounts ++ tables)
      (of_emissions counts.plants lines)
      (both (segment_tests (length file) accounts) tables (of_segments accounts) (of_tables counts plant_table segment_table))

  -- ---- so has every refusal of a file: of reading, or of one of these tests
  pub offset_due_lem :
      (plant_table segment_table : ℕ) (told : Notice) → quantified file plant_table segment_table ≡ refusal told →
      told.offset ≡ offset_due file told.number told.place
  unfolding quantified judged rows held period_file
  offset_due_lem plant_table segment_table told e = by_reading (period_file file) refl e
    where
      by_reading :
          (outcome : Read Period) → period_file file ≡ outcome → after_reading file outcome plant_table segment_table ≡ refusal told →
          told.offset ≡ offset_due file told.number told.place
      by_reading (refused other) is same =
          let whole : period_file file ≡ refused told = is ∙ ap refused (cc) in
          refused_stands period file told whole ∙ rw (le-leb told.number (number_of BytesAfter) (reading_numbered file told whole)) refl
      by_reading (read what place at) is same =
          let holds : what ≡ held file = sym (ap records_of is) in
          first_due (first_fails _ told _ _ same)
          (rw holds (after_reading_lem (held file).lines (accounts_of (held file)) (counts_of (held file)) plant_table segment_table))

  -- ---- which is a byte of the file, or its end
  due_inside : (number place : ℕ) → offset_due file number place ≤ length file
  due_inside number place = by_number (leb number (number_of BytesAfter)) (eqb number (number_of TooManyGrams))
    where
      by_number :
          (early ten : Bool) → cond early (start_of file place) (cond ten (line_start file (counts_of (held file)) (place - 1)) (length file)) ≤ length file
      by_number true ten = starts_inside file place
      by_number false true = starts_inside file (line_place (counts_of (held file)) (place - 1))
      by_number false false = omega arith

  pub offset_inside :
      (plant_table segment_table : ℕ) (told : Notice) → quantified file plant_table segment_table ≡ refusal told → told.offset ≤ length file
  offset_inside plant_table segment_table told e =
      omega (arith, offset_due_lem plant_table segment_table told e, due_inside told.number told.place)
