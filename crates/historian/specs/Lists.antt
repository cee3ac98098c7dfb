-- The promise of the call from C that writes a period file.
use Rattle.std.specs.Prelude.{ℕ, ◌≡◌, List, [], ◌∷◌, ◌++◌, ltb, length}
use Rattle.fields.specs.declared.reason.Reason.TheVariants.{PlantTableShort}
use Rattle.fields.specs.Answers.{Verdict, refusal_number, refusal_place}
use Rattle.fields.specs.Tests.{Test}
use Rattle.fields.specs.Written.{file_of, write_verdict, written_by, buffer_after}
use Rattle.plain.specs.Bytes.{table_numbers}
use Rattle.records.specs.Periods.{period}
use Rattle.accounts.specs.AllTests.{reading_tests}

-- The verdict on a list, and what is written of its file (rules 15.2 to 15.5).
abbrev pub list_verdict : (numbers buffer : List ℕ) → Verdict
list_verdict numbers buffer = write_verdict period (table_numbers numbers) (length buffer)

abbrev pub list_written : (numbers buffer : List ℕ) → List ℕ
list_written numbers buffer = written_by (list_verdict numbers buffer) (file_of (table_numbers numbers))

-- What a call leaves to its caller (rule 15.7).
pub record WriteOutcome : Type 0 where
  pub result : ℕ
  pub written : ℕ
  pub place : ℕ
  pub buffer : List ℕ

-- The promise of `steeplecuff_write`: number of refusal and place, both 0 if the list is accepted, the count of bytes, and the buffer (rule 15.7).
pub record WriteEntryPromise (numbers buffer : List ℕ) (outcome : WriteOutcome) : Type 0 where
  pub result : outcome.result ≡ refusal_number (list_verdict numbers buffer)
  pub written : outcome.written ≡ length (list_written numbers buffer)
  pub place : outcome.place ≡ refusal_place (list_verdict numbers buffer)
  pub buffer_after_is : outcome.buffer ≡ buffer_after (list_written numbers buffer) buffer

-- ---- the reasons to refuse a list, as tests in their order
-- 14: the buffer has less room than the file has bytes, which are its place (rule 15.4).
abbrev pub short_test : (bytes room : ℕ) → Test
short_test bytes room = record { fails = ltb room bytes; reason = PlantTableShort; place = bytes; offset = bytes }

-- The tests of reading the list's file, and then 14 (rules 15.3 and 15.4).
abbrev pub write_tests : (numbers : List ℕ) (room : ℕ) → List Test
write_tests numbers room = reading_tests (file_of numbers) ++ short_test (length (file_of numbers)) room ∷ []
