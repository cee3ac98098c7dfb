-- A file that is written from a list of plain numbers: what the list is refused for, and the file's bytes.
use Rattle.std.specs.Prelude.{ℕ, suc, ◌+◌, cond, List, [], ◌∷◌, ◌++◌, length, drop, nat_le, nat_lt}
use Rattle.number.specs.Groups.{largest}
use Rattle.number.specs.Writing.{written}
use Rattle.fields.specs.declared.reason.Reason.TheVariants.{Ends, TooLarge, BytesAfter, PlantTableShort}
use Rattle.fields.specs.Reasons.{number_of}
use Rattle.fields.specs.Answers.{notice, Verdict, accepts, refuses}
use Rattle.fields.specs.Readers.{Reader, return, needs, Read, read, refused}
use Rattle.fields.specs.Files.{read_verdict}
use Rattle.fields.specs.Lists.{in_turn}

-- The bytes of the file: each number in its shortest form, one behind another (rule 15.1).
unfoldable pub file_of : List ℕ → List ℕ
file_of = in_turn written

-- A reader put to a list, of which the first number has this place and is written at this byte: 1 if the list has ended, 3 over the limit, then its
-- field, then the next; 9 if numbers are left (rules 15.2 and 15.3).
unfoldable pub list_read : {A : Type 0} → Reader A → List ℕ → (place at : ℕ) → Read A
list_read (return what) [] place at = read what place at
list_read (return what) (value ∷ values) place at = refused (notice (number_of BytesAfter) place at)
list_read (needs reason allowed then) [] place at = refused (notice (number_of Ends) place at)
list_read (needs reason allowed then) (value ∷ values) place at =
    cond (nat_le value largest)
    (cond (allowed value) (list_read (then value) values (suc place) (at + length (written value))) (refused (notice (number_of reason) place at)))
    (refused (notice (number_of TooLarge) place at))

-- 14, last: a buffer with less room than the file has bytes; the place is how many these are (rule 15.4).
abbrev pub fitting : (bytes room : ℕ) → Verdict → Verdict
fitting bytes room accepts = cond (nat_lt room bytes) (refuses (notice (number_of PlantTableShort) bytes bytes)) accepts
fitting bytes room (refuses notice) = refuses notice

-- What is said of a list that a reader is put to, with a buffer of this room (rules 15.2 to 15.4).
unfoldable pub write_verdict : {A : Type 0} → Reader A → (numbers : List ℕ) (room : ℕ) → Verdict
write_verdict reader numbers room = fitting (length (file_of numbers)) room (read_verdict (list_read reader numbers 0 0))

-- What is written: the file, or after a refusal nothing (rule 15.5).
abbrev pub written_by : Verdict → (file : List ℕ) → List ℕ
written_by accepts file = file
written_by (refuses notice) file = []

-- The buffer afterwards: what is written stands at its start, and the bytes behind it stay (rule 15.5).
abbrev pub buffer_after : (bytes buffer : List ℕ) → List ℕ
buffer_after bytes buffer = bytes ++ drop (length bytes) buffer
