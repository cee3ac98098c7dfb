-- Period files that are written: refused as they are read, read back as the same records, and written again as they were.
use Prim.Native.Nat.{ℕ, ◌≤◌}
use mathlib.Core.Path.{◌≡◌, refl, sym, ap, ◌∙◌}
use mathlib.Core.Bool.{true≢false}
use mathlib.Core.List.{List}
use native.Mathlib.Omega.{arith}
use lib.ListN.{length}
use borrow.Author.Tests.{le-ltb}
use Rattle.number.specs.Writing.{AreBytes}
use Rattle.fields.specs.Answers.{accepts}
use Rattle.fields.specs.Readers.{Read, read, refused}
use Rattle.fields.specs.Files.{read_verdict}
use Rattle.fields.specs.Written.{file_of, list_read, fitting, write_verdict}
use Rattle.fields.proofs.WrittenFiles.{list_as_file, list_consumed, before_end, file_again}
use Rattle.records.specs.Periods.{Period, period, period_file}
use Rattle.records.specs.Numbers.{period_numbers, consumed}
use Rattle.records.proofs.NumbersConsumed.{numbers_consumed}

-- a list is refused as its file is when that is read, with the same number and the same place: for 1, 3, 4 to 8 and 9 (rule 15.3)
pub refused_as_file : (numbers : List ℕ) → list_read period numbers 0 0 ≡ period_file (file_of numbers)
unfolding period_file
refused_as_file numbers = list_as_file period numbers

-- ---- what is written reads back
-- an accepted list was read
list_read_lem : (numbers : List ℕ) (room : ℕ) → write_verdict period numbers room ≡ accepts → (what : Period) × ((place : ℕ) × ((at : ℕ) × (list_read period numbers 0 0 ≡ read what place at)))
unfolding write_verdict
list_read_lem numbers room e = by_outcome (list_read period numbers 0 0) refl e
  where
    by_outcome :
        (outcome : Read Period) → list_read period numbers 0 0 ≡ outcome → fitting (length (file_of numbers)) room (read_verdict outcome) ≡ accepts →
        (what : Period) × ((place : ℕ) × ((at : ℕ) × (list_read period numbers 0 0 ≡ read what place at)))
    by_outcome (read what place at) is fits = (what, (place, (at, is)))
    by_outcome (refused notice) is fits = absurd (true≢false (cc))

-- What is written reads back, as a period whose numbers are the list's (rule 15.8).
pub record ReadsBack (numbers : List ℕ) : Type 0 where
  pub what : Period
  pub place : ℕ
  pub at : ℕ
  pub is_read : period_file (file_of numbers) ≡ read what place at
  pub same : period_numbers what ≡ numbers

pub reads_back : (numbers : List ℕ) (room : ℕ) → write_verdict period numbers room ≡ accepts → ReadsBack numbers
unfolding period_file consumed
reads_back numbers room e =
    let (what, (place, (at, is))) = list_read_lem numbers room e in
    let was_read : period_file (file_of numbers) ≡ read what place at = sym (refused_as_file numbers) ∙ is in
    let begun = (before_end period (file_of numbers) what place at was_read).0 in
    record {
      what = what;
      place = place;
      at = at;
      is_read = was_read;
      same = sym (numbers_consumed (file_of numbers) begun) ∙ list_consumed period numbers what place at is;
    }

-- ---- a file that was read is written again as it was
pub record WrittenAgain (file : List ℕ) (what : Period) : Type 0 where
  pub same_bytes : file_of (period_numbers what) ≡ file
  pub accepted : (room : ℕ) → length file ≤ room → write_verdict period (period_numbers what) room ≡ accepts

-- An accepted file, read and written again, has the same bytes (rule 15.8).
pub written_again : (file : List ℕ) (what : Period) (place at : ℕ) → AreBytes file → period_file file ≡ read what place at → WrittenAgain file what
unfolding period_file write_verdict consumed
written_again file what place at all e =
    let begun = (before_end period file what place at e).0 in
    let bytes : file_of (period_numbers what) ≡ file = ap file_of (sym (numbers_consumed file begun)) ∙ file_again period file what place at all e in
    let listed : list_read period (period_numbers what) 0 0 ≡ read what place at = refused_as_file (period_numbers what) ∙ ap period_file bytes ∙ e in
    record {
      same_bytes = bytes;
      accepted = λ room enough.
          ap (λ (outcome : Read Period). fitting (length (file_of (period_numbers what))) room (read_verdict outcome)) listed
          ∙ rw (le-ltb room (length (file_of (period_numbers what))) (omega (arith, enough, ap length bytes))) refl;
    }
