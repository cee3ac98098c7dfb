-- A list is refused exactly for the first reason that holds, and a file that is written can be refused only for what comes after reading.
use Prim.Native.Nat.{ℕ, ◌≤◌}
use mathlib.Core.Path.{◌≡◌, refl, sym, ap, ◌∙◌}
use mathlib.Core.Bool.{Bool, true, false, cond, true≢false}
use mathlib.Core.Logic.{◌↔◌}
use mathlib.Core.List.{List, [], ◌∷◌, ◌++◌}
use native.Mathlib.Decide.{dec_le}
use native.Mathlib.Omega.{arith}
use lib.Dec.{ltb}
use lib.ListN.{length}
use Rattle.fields.specs.declared.reason.Reason.TheVariants.{BytesAfter, PlantTableShort}
use Rattle.fields.specs.Reasons.{number_of}
use Rattle.fields.specs.Answers.{Notice, notice, Verdict, accepts, refuses}
use Rattle.fields.specs.Readers.{Read, refused}
use Rattle.fields.specs.Files.{read_verdict}
use Rattle.fields.specs.Tests.{Test, tested_by, FirstFails}
use Rattle.fields.specs.Written.{file_of, fitting, write_verdict}
use Rattle.fields.proofs.Testing.{first_answers}
use Rattle.fields.proofs.Asking.{Tried, all_pass, one_fails, tried}
use Rattle.records.specs.Periods.{Period, period, period_file}
use Rattle.records.specs.Places.{number_count}
use Rattle.writing.proofs.WrittenPeriods.{refused_as_file, reads_back}
use Rattle.accounts.specs.Order.{Ruling, refusal, accepted, tested}
use Rattle.accounts.specs.Quantified.{quantified}
use Rattle.accounts.specs.AllTests.{counts_at, period_at, reading_tests}
use Rattle.accounts.proofs.Testing.{first_fails}
use Rattle.accounts.proofs.Places.{period_asks}
use Rattle.accounts.proofs.Numbered.{from_reading}
use Rattle.historian.specs.Lists.{short_test, write_tests}

-- a verdict as a ruling without rows
abbrev as_ruling : Verdict → Ruling
as_ruling accepts = accepted [] []
as_ruling (refuses notice) = refusal notice

ruling_once : (verdict : Verdict) (notice : Notice) → as_ruling verdict ≡ refusal notice → verdict ≡ refuses notice
ruling_once accepts notice e = absurd (true≢false (cc))
ruling_once (refuses one) notice e = ap refuses (cc)

module _ (numbers : List ℕ) (room : ℕ) where
  abbrev file : List ℕ
  file = file_of numbers

  abbrev short : Test
  short = short_test (length file) room

  -- the verdict is that of the first test that fails
  write_order : as_ruling (write_verdict period numbers room) ≡ tested (write_tests numbers room) (accepted [] [])
  unfolding write_verdict period_file tested_by
  write_order = by_reading (tried (period_asks file (short ∷ [])))
    where
      by_room : (t : Bool) → as_ruling (cond t (refuses (notice (number_of PlantTableShort) (length file) (length file))) accepts) ≡ cond t (refusal (notice (number_of PlantTableShort) (length file) (length file))) (accepted [] [])
      by_room true = refl
      by_room false = refl

      verdict_is : (outcome : Read Period) → period_file file ≡ outcome → write_verdict period numbers room ≡ fitting (length file) room (read_verdict outcome)
      verdict_is outcome e = ap (λ (came : Read Period). fitting (length file) room (read_verdict came)) (refused_as_file numbers ∙ e)

      by_reading :
          Tried refusal file period (reading_tests file ++ short ∷ []) (period_at file) (number_count (counts_at file)) (short ∷ []) →
          as_ruling (write_verdict period numbers room) ≡ tested (write_tests numbers room) (accepted [] [])
      by_reading (all_pass is says) = ap as_ruling (verdict_is _ is) ∙ by_room (ltb room (length file)) ∙ sym (says (accepted [] []))
      by_reading (one_fails {notice} is says) = ap as_ruling (verdict_is _ is) ∙ sym (says (accepted [] []))

  -- A list is refused only for one of the reasons, and always for the first that holds (rules 15.3 and 15.4).
  pub write_refused_exactly : (notice : Notice) → (write_verdict period numbers room ≡ refuses notice) ↔ FirstFails (write_tests numbers room) notice
  write_refused_exactly notice = (
    λ e. first_fails (write_tests numbers room) notice [] [] (sym write_order ∙ ap as_ruling e),
    λ first. ruling_once (write_verdict period numbers room) notice (write_order ∙ first_answers refusal (accepted [] []) first),
  )

  -- What a file that was written can be refused for is 10 and what follows it (rule 15.8).
  pub written_refused_later :
      write_verdict period numbers room ≡ accepts → (plant_table segment_table : ℕ) (notice : Notice) → quantified file plant_table segment_table ≡ refusal notice →
      10 ≤ notice.number
  unfolding quantified
  written_refused_later e plant_table segment_table notice ruled = by_number (dec_le notice.number (number_of BytesAfter))
    where
      by_number : Dec (notice.number ≤ number_of BytesAfter) → 10 ≤ notice.number
      by_number (yes early) =
          let back = reads_back numbers room e in
          let stopped : period_file file ≡ refused notice = from_reading file plant_table segment_table notice (period_file file) ruled early in
          absurd (true≢false (cc (sym back.is_read ∙ stopped)))
      by_number (no late) = omega (arith, late)
