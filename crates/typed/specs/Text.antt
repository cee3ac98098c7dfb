-- Text that people type: numbers in decimal with spaces between them, and remarks (rules 16.1 to 16.4).
use Rattle.std.specs.Prelude.{ℕ, suc, ◌+◌, ◌-◌, ◌*◌, Bool, false, cond, not, ◌&&◌, ◌||◌, List, [], ◌∷◌, ◌++◌, leb, ltb, eqb}
use Prim.Native.Char.{code}
use Rattle.number.specs.Groups.{largest}

-- ---- bytes
-- The byte of the digit 0; those of the other digits follow it, up to that of 9 (rule 16.1).
abbrev pub first_digit : ℕ
first_digit = code "0"

abbrev pub last_digit : ℕ
last_digit = code "9"

-- Whether a byte is a digit (rule 16.1).
abbrev pub is_digit : ℕ → Bool
is_digit byte = leb first_digit byte && leb byte last_digit

-- Whether a byte ends a line: a carriage return or a line feed (rule 16.1).
abbrev pub ends_line : ℕ → Bool
ends_line byte = eqb byte (code "\r") || eqb byte (code "\n")

-- Whether a byte is a space: a blank, a tab, or the end of a line (rule 16.1).
abbrev pub is_space : ℕ → Bool
is_space byte = eqb byte (code " ") || (eqb byte (code "\t") || ends_line byte)

-- Whether a remark starts with a byte (rule 16.2).
abbrev pub starts_remark : ℕ → Bool
starts_remark byte = eqb byte (code "#")

-- ---- from byte to byte
-- Where a byte stands: between numbers, within a number that has this value so far, or within a remark (rule 16.2).
pub data State : Type 0 where
  between : State
  within : (value : ℕ) → State
  remark : State

-- The base of decimal numbers.
abbrev pub decimal_base : ℕ
decimal_base = 10

-- A value with one digit more. A value that has passed the limit is not counted on, so it stays over the limit (rule 16.2).
abbrev pub grown : (value byte : ℕ) → ℕ
grown value byte = cond (ltb largest value) value (decimal_base * value + (byte - first_digit))

-- Behind a byte outside a remark: a digit goes on with the value; any other byte ends the number, and may start a remark (rule 16.2).
abbrev pub opened : (value byte : ℕ) → State
opened value byte = cond (is_digit byte) (within (grown value byte)) (cond (starts_remark byte) remark between)

-- The state behind a byte. A remark goes on up to the end of its line (rule 16.2).
unfoldable pub after : State → (byte : ℕ) → State
after between byte = opened 0 byte
after (within value) byte = opened value byte
after remark byte = cond (ends_line byte) between remark

-- ---- the numbers of a text
-- The number that ends if no digit follows a state: the one that it is within (rule 16.2).
abbrev pub ending : State → List ℕ
ending between = []
ending (within value) = value ∷ []
ending remark = []

-- The number that a byte ends: none if it is a digit (rule 16.2).
abbrev pub ended_by : State → (byte : ℕ) → List ℕ
ended_by state byte = cond (is_digit byte) [] (ending state)

-- The numbers that end in a text, from a state on. The text's end ends a number, too (rule 16.2).
unfoldable pub numbers_from : State → (text : List ℕ) → List ℕ
numbers_from state [] = ending state
numbers_from state (byte ∷ text) = ended_by state byte ++ numbers_from (after state byte) text

-- The numbers of a text, in order; a stray byte is taken for a space (rule 16.2).
abbrev pub numbers_in : (text : List ℕ) → List ℕ
numbers_in text = numbers_from between text

-- ---- stray bytes
-- Whether a byte that is in no remark is stray: no digit, no space, and no start of a remark (rule 16.3).
abbrev pub is_foreign : (byte : ℕ) → Bool
is_foreign byte = not (is_digit byte || (is_space byte || starts_remark byte))

-- Whether a byte is stray: in a remark none is (rule 16.3).
unfoldable pub is_stray : State → (byte : ℕ) → Bool
is_stray between byte = is_foreign byte
is_stray (within value) byte = is_foreign byte
is_stray remark byte = false

-- How many bytes, from a state on, stand before the first stray one: all if none is (rule 16.3).
unfoldable pub before_stray : State → (text : List ℕ) → ℕ
before_stray state [] = 0
before_stray state (byte ∷ text) = cond (is_stray state byte) 0 (suc (before_stray (after state byte) text))

-- The offset of the first stray byte of a text; its length if there is none (rule 16.3).
abbrev pub first_stray : (text : List ℕ) → ℕ
first_stray text = before_stray between text

-- ---- where numbers start
-- Whether a number starts with a byte: a digit that stands between numbers (rule 16.4).
unfoldable pub starts_number : State → (byte : ℕ) → Bool
starts_number between byte = is_digit byte
starts_number (within value) byte = false
starts_number remark byte = false

-- The offsets of the first digits of the numbers of a text that starts at an offset, in a state (rule 16.4).
unfoldable pub starts_from : State → (offset : ℕ) (text : List ℕ) → List ℕ
starts_from state offset [] = []
starts_from state offset (byte ∷ text) =
    cond (starts_number state byte) (offset ∷ []) [] ++ starts_from (after state byte) (suc offset) text

-- The offsets of the first digits of the numbers of a text, in order; a stray byte is taken for a space (rule 16.4).
abbrev pub starts_in : (text : List ℕ) → List ℕ
starts_in text = starts_from between 0 text
