-- Lines of words and numbers: the line of a refused file, and the rows of a table (rules 11.1 and 11.2).
use Rattle.std.specs.Prelude.{ℕ, zero, suc, ◌+◌, ◌*◌, ◌/◌, length, take, drop}
use mathlib.Core.List.{List, [], ◌∷◌, ◌++◌, flat_map}
use Rattle.fields.specs.declared.answer.Refusal.{Refusal}
use Rattle.fields.specs.Answers.{Notice, notice_of}
use Rattle.output.specs.Words.{ascii}
use Rattle.output.specs.Decimal.{most_digits, decimal}

-- A number with a space before it (rule 11.1).
abbrev pub spaced : ℕ → List ℕ
spaced number = ascii " " ++ decimal number

-- Several numbers, each with a space before it.
abbrev pub all_spaced : List ℕ → List ℕ
all_spaced = flat_map spaced

-- The most bytes that a number takes, with its space.
abbrev pub most_spaced : ℕ
most_spaced = suc most_digits

-- The end of a line.
abbrev pub line_end : List ℕ
line_end = ascii "\n"

-- Words, numbers behind them, and the end of the line.
unfoldable pub text_line : (words numbers : List ℕ) → List ℕ
text_line words numbers = words ++ all_spaced numbers ++ line_end

-- The line of a refused file: R, the number of refusal, the place, the offset (rule 11.2).
abbrev pub refusal_text : Notice → List ℕ
refusal_text notice = text_line (ascii "R") (notice.number ∷ notice.place ∷ notice.offset ∷ [])

-- The same for a refusal as the code holds it.
abbrev pub refusal_line : Refusal → List ℕ
refusal_line refusal = refusal_text (notice_of refusal)

-- The row at an index, from 0: the letter, the record's number, from 1, and the row's `width` numbers.
abbrev pub row_text : (letter : List ℕ) (width : ℕ) → List ℕ → (index : ℕ) → List ℕ
row_text letter width table index = text_line letter (suc index ∷ take width (drop (width * index) table))

-- The rows of the first `count` records.
unfoldable pub rows_text : (letter : List ℕ) (width : ℕ) → List ℕ → (count : ℕ) → List ℕ
rows_text letter width table zero = []
rows_text letter width table (suc count) = rows_text letter width table count ++ row_text letter width table count

-- All rows of a table (rule 11.1). In the logic n / 0 is 0, so a table whose rows have no numbers has no rows.
abbrev pub table_text : (letter : List ℕ) (width : ℕ) → List ℕ → List ℕ
table_text letter width table = rows_text letter width table (length table / width)

-- The bytes of a row's letter and of the end of its line.
abbrev pub row_signs : ℕ
row_signs = 2

-- The most bytes that the rows of `count` records take: for each record these signs, its own number and the numbers of its row.
abbrev pub most_in_rows : (count width : ℕ) → ℕ
most_in_rows count width = count * (row_signs + most_spaced * suc width)
