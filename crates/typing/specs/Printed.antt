-- What is printed for a typed text, of which a file is to be written (rule 16.5).
use Rattle.std.specs.Prelude.{ℕ, cond, List, [], ◌∷◌, ltb, length, get_or}
use Rattle.fields.specs.Answers.{Notice, notice}
use Rattle.fields.specs.Readers.{Reader, Read, read, refused}
use Rattle.fields.specs.Written.{file_of, list_read}
use Rattle.output.specs.Words.{ascii}
use Rattle.output.specs.Lines.{text_line, refusal_text}
use Rattle.typed.specs.Text.{numbers_in, first_stray, starts_in}

-- The most bytes of a text (rule 16.5).
abbrev pub most_text : ℕ
most_text = 131_071

-- The line of a text that is too long: L and that limit (rule 16.5).
abbrev pub long_line : List ℕ
long_line = text_line (ascii "L") (most_text ∷ [])

-- The line of a stray byte: T, its offset in the text, and the byte in decimal (rule 16.5).
abbrev pub stray_line : (offset byte : ℕ) → List ℕ
stray_line offset byte = text_line (ascii "T") (offset ∷ byte ∷ [])

-- The line of a refusal: R, its number, its place, and the offset of the first digit of the number with that place; of the text's end if there is no
-- such number (rules 16.4 and 16.5).
abbrev pub refused_line : (text : List ℕ) → Notice → List ℕ
refused_line text why = refusal_text (notice why.number why.place (get_or (starts_in text) why.place (length text)))

-- By what the text's numbers are read as: the bytes of their file, or that line (rule 16.5).
abbrev pub written_text : {A : Type 0} → (text : List ℕ) → Read A → List ℕ
written_text text (read what place at) = file_of (numbers_in text)
written_text text (refused why) = refused_line text why

-- All that is printed for a text, by the reader of the kind of file: too long, then a stray byte, then its numbers (rule 16.5).
unfoldable pub printed_for : {A : Type 0} → Reader A → (text : List ℕ) → List ℕ
printed_for reader text =
    cond (ltb most_text (length text)) long_line
    (cond (ltb (first_stray text) (length text)) (stray_line (first_stray text) (get_or text (first_stray text) 0))
    (written_text text (list_read reader (numbers_in text) 0 0)))
