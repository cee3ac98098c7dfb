-- Bytes in hexadecimal, as byte viewers show them (rule 11.7).
use Rattle.std.specs.Prelude.{ℕ, ◌+◌, ◌-◌, ◌/◌, ◌%◌, cond, ltb}
use mathlib.Core.List.{List, [], ◌∷◌, ◌++◌, flat_map}
use Rattle.output.specs.Words.{ascii}
use Rattle.output.specs.Decimal.{ten, digit}

-- The base of hexadecimal numbers.
abbrev pub sixteen : ℕ
sixteen = 16

-- The byte of the digit A, which is ten; those of the digits up to F follow it.
abbrev pub letter_a : ℕ
letter_a = 65

-- The byte of a hexadecimal digit.
abbrev pub hex_digit : ℕ → ℕ
hex_digit d = cond (ltb d ten) (digit d) (letter_a + (d - ten))

-- A byte as two digits, with a space before them (rule 11.7).
abbrev pub byte_text : ℕ → List ℕ
byte_text byte = ascii " " ++ (hex_digit (byte / sixteen) ∷ []) ++ (hex_digit (byte % sixteen) ∷ [])

-- Several bytes, one behind another (rule 11.7).
abbrev pub bytes_text : List ℕ → List ℕ
bytes_text = flat_map byte_text

-- How many bytes of text each byte takes.
abbrev pub most_byte_text : ℕ
most_byte_text = 3
