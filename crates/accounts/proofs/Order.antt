-- A period file is refused exactly if one of the sixteen reasons holds at its place and offset, and none that comes before it in their order does (rule 8.8);
-- it is accepted exactly if none holds. `specs/AllTests.antt` lists the reasons as tests, each at its place and offset, in that order. Here the
-- answer to a file is shown to be that of the first test that fails, and the rows of the period that stands in the file if none fails.
use Prim.Native.Nat.{ℕ}
use mathlib.Core.Path.{◌≡◌, refl, sym, ap, ◌∙◌}
use mathlib.Core.Logic.{◌↔◌}
use mathlib.Core.List.{List, [], ◌++◌}
use lib.ListN.{length}
use Rattle.fields.specs.Answers.{Notice}
use Rattle.fields.specs.Readers.{Read}
use Rattle.fields.specs.Tests.{Test, FirstFails, NoneFails}
use Rattle.fields.proofs.Testing.{first_answers, none_answers, listed_length}
use Rattle.fields.proofs.Asking.{Tried, all_pass, one_fails, tried}
use Rattle.records.specs.Periods.{Period, period, period_file}
use Rattle.records.specs.Places.{number_count, line_start}
use Rattle.records.specs.Held.{records_of}
use Rattle.accounts.specs.Order.{Ruling, refusal, accepted, tested, emission_tests, segment_tests, table_tests}
use Rattle.accounts.specs.Quantified.{accounts_of, rows, judged, after_reading, quantified}
use Rattle.accounts.specs.Accepted.{Accepted, held}
use Rattle.accounts.specs.AllTests.{counts_at, period_at, reading_tests, all_tests}
use Rattle.accounts.proofs.Testing.{refusal_not_accepted, first_fails, none_fails}
use Rattle.accounts.proofs.Refused.{reading_refuses}
use Rattle.accounts.proofs.Places.{period_asks}

-- ---- the whole file against its reading tests
abbrev PeriodTried : List ℕ → List Test → Type 0
PeriodTried file left = Tried refusal file period (reading_tests file ++ left) (period_at file) (number_count (counts_at file)) left

period_tried : (file : List ℕ) (left : List Test) → PeriodTried file left
period_tried file left = tried (period_asks file left)

-- what an accepted file holds stands at its numbers' places
pub held_is : {file plants segments : List ℕ} → Accepted file plants segments → held file ≡ period_at file
unfolding held period_file
held_is {file} given = by_reading (period_tried file [])
  where
    by_reading : PeriodTried file [] → records_of (period_file file) ≡ period_at file
    by_reading (all_pass is says) = ap records_of is
    by_reading (one_fails {notice} is says) =
        absurd (refusal_not_accepted (sym (reading_refuses file given.plant_table given.segment_table notice is) ∙ given.answer))

-- ---- the answer to a file
module _ (file : List ℕ) (plant_table segment_table : ℕ) where
  -- the rows of the period that stands in the file, and all tests of it
  abbrev rows_at : Ruling
  rows_at = rows (period_at file) (accounts_of (period_at file))

  abbrev tests : List Test
  tests = all_tests file plant_table segment_table

  -- those of a period that was read, which are listed behind the tests of reading
  abbrev left : List Test
  left =
      emission_tests (line_start file (counts_at file)) (length file) (counts_at file).plants (period_at file).lines
      ++ (segment_tests (length file) (accounts_of (period_at file)) ++ table_tests (length file) (counts_at file) plant_table segment_table)

  behind_reading : tests ≡ reading_tests file ++ left
  unfolding all_tests emission_tests
  behind_reading = refl

  -- the answer is that of the first test that fails
  pub order : quantified file plant_table segment_table ≡ tested tests rows_at
  unfolding quantified judged period_at period_file
  order = by_reading (period_tried file left) ∙ ap (λ (all : List Test). tested all rows_at) (sym behind_reading)
    where
      by_reading : PeriodTried file left → quantified file plant_table segment_table ≡ tested (reading_tests file ++ left) rows_at
      by_reading (all_pass is says) =
          ap (λ (outcome : Read Period). after_reading file outcome plant_table segment_table) is ∙ simp listed_length (sym (says rows_at))
      by_reading (one_fails {notice} is says) = reading_refuses file plant_table segment_table notice is ∙ sym (says rows_at)

  -- refused only for one of the reasons, and always for the first that holds
  pub refused_exactly : (notice : Notice) → (quantified file plant_table segment_table ≡ refusal notice) ↔ FirstFails tests notice
  unfolding rows
  refused_exactly notice = (λ e. first_fails tests notice _ _ (sym order ∙ e), λ first. order ∙ first_answers refusal rows_at first)

  -- accepted only if none of them holds, whatever the rows
  pub accepted_is : (plants segments : List ℕ) → quantified file plant_table segment_table ≡ accepted plants segments → NoneFails tests
  accepted_is plants segments e = none_fails tests rows_at plants segments (sym order ∙ e)

  -- and always then, with those rows
  pub accepted_exactly : (quantified file plant_table segment_table ≡ rows_at) ↔ NoneFails tests
  unfolding rows
  accepted_exactly = (accepted_is _ _, λ none. order ∙ none_answers refusal rows_at none)
