-- The numbers of an accepted file, and what its header tells.
use Prim.Native.Nat.{ℕ, ◌≤◌}
use mathlib.Core.Path.{◌≡◌, refl, sym, ap, ◌∙◌}
use mathlib.Core.List.{List}
use native.Mathlib.Decide.{dec_le}
use native.Mathlib.Omega.{arith}
use lib.ListN.{length}
use Rattle.fields.specs.Answers.{Notice}
use Rattle.fields.specs.Readers.{Read, read, refused, reads}
use Rattle.fields.specs.Files.{ended}
use Rattle.fields.proofs.EndOfFile.{more_left, none_left}
use Rattle.records.specs.Headers.{header_of}
use Rattle.records.specs.Periods.{Period, period, period_file}
use Rattle.records.specs.Held.{records_of}
use Rattle.records.specs.Within.{counts_of}
use Rattle.std.specs.Prelude.{Some}
use Rattle.records.specs.Numbers.{period_numbers, consumed}
use Rattle.records.proofs.NumbersConsumed.{numbers_consumed, header_told}
use Rattle.accounts.specs.Accepted.{Accepted, held}
use Rattle.accounts.proofs.Testing.{refusal_not_accepted}
use Rattle.accounts.proofs.Refused.{reading_refuses}

module _ {file plants segments : List ℕ} (given : Accepted file plants segments) where
  -- it was read to its end
  accepted_read : (place : ℕ) × (at : ℕ) × (reads period file 0 0 ≡ read (held file) place at)
  unfolding held period_file
  accepted_read = by_outcome (reads period file 0 0) refl
    where
      not_refused : (notice : Notice) → period_file file ≡ refused notice → ⊥
      not_refused notice e =
          refusal_not_accepted (sym (reading_refuses file given.plant_table given.segment_table notice e) ∙ given.answer)

      by_outcome :
          (outcome : Read Period) → reads period file 0 0 ≡ outcome → (place : ℕ) × (at : ℕ) × (reads period file 0 0 ≡ read (held file) place at)
      by_outcome (refused notice) e = absurd (not_refused notice (ap (ended file) e))
      by_outcome (read what place at) e = by_end (dec_le (length file) at)
        where
          by_end : Dec (length file ≤ at) → (place : ℕ) × (at : ℕ) × (reads period file 0 0 ≡ read (held file) place at)
          by_end (yes h) = (place, at, e ∙ ap (λ (p : Period). read p place at) (sym (ap records_of (ap (ended file) e ∙ none_left what place file at h))))
          by_end (no h) = absurd (not_refused _ (ap (ended file) e ∙ more_left what place file at (omega arith)))

  -- its numbers that reading consumed are those of the period that it holds
  pub accepted_consumed : consumed file ≡ period_numbers (held file)
  accepted_consumed = numbers_consumed file accepted_read.2

  -- and its header tells how many records that period has
  pub accepted_header : header_of file ≡ Some (counts_of (held file))
  accepted_header = header_told file accepted_read.2
