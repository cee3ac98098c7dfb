-- The promises of writing a file from a list: how many bytes are written or why none, and the buffer afterwards.
use Rattle.std.specs.Prelude.{◌≡◌, List, length, ℕ, Result, Ok, Err}
use Rattle.fields.specs.declared.answer.Refusal.{Refusal}
use Rattle.fields.specs.Answers.{Verdict, accepts, refusing}
use Rattle.fields.specs.Readers.{Reader}
use Rattle.fields.specs.Written.{file_of, write_verdict, buffer_after}
use Rattle.plain.specs.Bytes.{table_numbers}
use Rattle.meter.specs.Sheets.{sheet}
use Rattle.records.specs.Periods.{period}

-- What the code answers: how many bytes it wrote, or why none.
abbrev pub Written : Type 0
Written = Result ℕ Refusal

-- What such an answer says, whatever comes with its acceptance.
abbrev pub told : {A : Type 0} → Result A Refusal → Verdict
told (Ok what) = accepts
told (Err refusal) = refusing refusal

-- An accepted list's file stands at the start of the buffer, and is counted; a refusal leaves the buffer as it was (rule 15.5).
abbrev pub Stands : (numbers buffer : List ℕ) → Written → (buffer' : List ℕ) → Type 0
Stands numbers buffer (Ok bytes) buffer' = (bytes ≡ length (file_of numbers)) × (buffer' ≡ buffer_after (file_of numbers) buffer)
Stands numbers buffer (Err refusal) buffer' = buffer' ≡ buffer

-- What comes of a verdict on a list of numbers: it is told, and then the one or the other (rule 15.5).
pub record WrittenBy (verdict : Verdict) (numbers buffer : List ℕ) (r : Written) (buffer' : List ℕ) : Type 0 where
  pub answer : told r ≡ verdict
  pub stands : Stands numbers buffer r buffer'

-- A list, as bytes, is written as a reader reads (rules 15.1 to 15.5).
abbrev pub Writes : {A : Type 0} → Reader A → (numbers buffer : List ℕ) → Written → (buffer' : List ℕ) → Type 0
Writes reader numbers buffer r buffer' =
    WrittenBy (write_verdict reader (table_numbers numbers) (length buffer)) (table_numbers numbers) buffer r buffer'

-- `write_period`: a period file (rules 15.1 to 15.5).
abbrev pub WritePeriodPromise : (numbers buffer : List ℕ) → Written → (buffer' : List ℕ) → Type 0
WritePeriodPromise = Writes period

-- `write_sheet`: a meter's sheet (rule 15.6).
abbrev pub WriteSheetPromise : (numbers buffer : List ℕ) → Written → (buffer' : List ℕ) → Type 0
WriteSheetPromise = Writes sheet
