-- What the public functions promise.
use Rattle.std.specs.Prelude.{ℕ, suc, ◌*◌, ◌/◌, ◌≡◌, cond, List, Result, Ok, Err, ltb, length, replicate}
use Rattle.fields.specs.Answers.{Verdict, notice_of}
use Rattle.output.specs.Put.{Put}
use Rattle.plain.specs.Bytes.{number_bytes}
use Rattle.typed.specs.Text.{numbers_in, first_stray}
use Rattle.typed.specs.Promises.{stray_in, list_with}
use Rattle.writing.specs.Written.{Written, WrittenBy}
use Rattle.typing.specs.declared.listing.Fault.{Fault}
use Rattle.typing.specs.declared.listing.Fault.TheVariants.{Long, Stray}
use Rattle.typing.specs.Printed.{most_text, long_line, stray_line, refused_line}

-- ---- rooms
-- No text that is not too long has more numbers (rule 16.5).
abbrev pub most_typed : ℕ
most_typed = suc most_text / 2

-- `text_room`: zeros, one byte more than the longest text has (rule 16.5).
abbrev pub TextRoomPromise : List ℕ → Type 0
TextRoomPromise r = r ≡ replicate (suc most_text) 0

-- `list_room`: zeros, for as many numbers as such a text can have (rule 16.5).
abbrev pub ListRoomPromise : List ℕ → Type 0
ListRoomPromise r = r ≡ replicate (number_bytes * most_typed) 0

-- ---- from a text to its numbers
-- What comes of a text: how many numbers it has; or it is too long, or has a stray byte.
abbrev pub Listed : Type 0
Listed = Result ℕ Fault

-- It is too long, it has a stray byte, or it has so many numbers (rule 16.5).
abbrev pub listed_of : (text : List ℕ) → Listed
listed_of text =
    cond (ltb most_text (length text)) (Err Long)
    (cond (ltb (first_stray text) (length text)) (Err (Stray (stray_in text))) (Ok (length (numbers_in text))))

-- `list_text`: that, and the numbers in the list; of a text that is too long none is listed (rule 16.5).
pub record ListTextPromise (text list : List ℕ) (r : Listed) (list' : List ℕ) : Type 0 where
  pub answer : r ≡ listed_of text
  pub written : list' ≡ cond (ltb most_text (length text)) list (list_with (numbers_in text) list)

-- ---- what is printed
-- The line of a fault (rule 16.5).
abbrev pub fault_line : Fault → List ℕ
fault_line Long = long_line
fault_line (Stray stray) = stray_line stray.offset stray.byte

-- `put_fault`: that line, behind what there is (rule 16.5).
abbrev pub PutFaultPromise : Fault → (at : ℕ) (room : List ℕ) (end : ℕ) (room' : List ℕ) → Type 0
PutFaultPromise fault = Put (fault_line fault)

-- `put_written`: an accepted list's file is all that there is, and ends where it did; else the line of the refusal stands behind what there is (rule
-- 16.5).
abbrev pub PutWrittenPromise : (text : List ℕ) → Written → (at : ℕ) (room : List ℕ) (end : ℕ) (room' : List ℕ) → Type 0
PutWrittenPromise text (Ok bytes) at room end room' = (end ≡ bytes) × (room' ≡ room)
PutWrittenPromise text (Err refusal) at room end room' = Put (refused_line text (notice_of refusal)) at room end room'

-- What comes of a text's numbers: they are written, by the verdict on them, and that is put.
pub record NumbersPut (verdict : (numbers : List ℕ) (room : ℕ) → Verdict) (text : List ℕ) (at : ℕ) (room : List ℕ) (end : ℕ) (room' : List ℕ) : Type 0 where
  pub written : Written
  pub between : List ℕ
  pub stands : WrittenBy (verdict (numbers_in text) (length room)) (numbers_in text) room written between
  pub put : PutWrittenPromise text written at between end room'

-- `put_answer`: the line of a fault, or what comes of the numbers (rule 16.5).
abbrev pub AnswerPut : (verdict : (numbers : List ℕ) (room : ℕ) → Verdict) (text : List ℕ) → Listed → (at : ℕ) (room : List ℕ) (end : ℕ) (room' : List ℕ) → Type 0
AnswerPut verdict text (Err fault) = PutFaultPromise fault
AnswerPut verdict text (Ok count) = NumbersPut verdict text

abbrev pub PutAnswerPromise : (verdict : (numbers : List ℕ) (room : ℕ) → Verdict) (text : List ℕ) (at : ℕ) (room : List ℕ) (end : ℕ) (room' : List ℕ) → Type 0
PutAnswerPromise verdict text = AnswerPut verdict text (listed_of text)
