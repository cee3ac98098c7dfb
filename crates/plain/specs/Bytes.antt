-- The plain numbers of a C caller, which are bytes: eight to a number, the lowest in front, and only whole numbers count.
use Rattle.std.specs.Prelude.{ℕ, zero, suc, ◌+◌, ◌*◌, ◌/◌, ◌%◌, ◌≡◌, cond, length, get_or, take, drop, leb}
use mathlib.Core.List.{List, [], ◌∷◌, ◌++◌, flat_map}
use Rattle.std.proofs.lemmas.List.Edits.{sets}

-- The bytes of a number, and the values that a byte has (rule 10.5).
abbrev pub number_bytes : ℕ
number_bytes = 8

abbrev pub byte_values : ℕ
byte_values = 256

-- How many whole numbers a table has (rule 10.5).
abbrev pub whole_numbers : List ℕ → ℕ
whole_numbers table = length table / number_bytes

-- The first `count` bytes of a number, from its lowest on (rule 10.5).
unfoldable pub bytes_of : (count number : ℕ) → List ℕ
bytes_of zero number = []
bytes_of (suc count) number = number % byte_values ∷ bytes_of count (number / byte_values)

-- The eight bytes of one number (rule 10.5).
abbrev pub eight_bytes : ℕ → List ℕ
eight_bytes = bytes_of number_bytes

-- Read back: the number that some bytes are of, the least significant first (rule 10.5).
unfoldable pub value_of : List ℕ → ℕ
value_of [] = 0
value_of (byte ∷ bytes) = byte + byte_values * value_of bytes

-- The first `count` numbers that a table's bytes hold, and below all that are whole (rule 10.5).
unfoldable pub first_numbers : ℕ → List ℕ → List ℕ
first_numbers zero table = []
first_numbers (suc count) table = value_of (take number_bytes table) ∷ first_numbers count (drop number_bytes table)

abbrev pub table_numbers : List ℕ → List ℕ
table_numbers table = first_numbers (whole_numbers table) table

-- Numbers are written from the start of a table; what stands behind them stays, spare bytes too (rule 10.5).
abbrev pub bytes_overwritten : (numbers table : List ℕ) → List ℕ
bytes_overwritten numbers table = flat_map eight_bytes numbers ++ drop (number_bytes * length numbers) table

-- ---- what the public functions promise
-- `room`: how many whole numbers a table of `bytes` bytes has room for (rule 10.5).
abbrev pub RoomPromise : (bytes r : ℕ) → Type 0
RoomPromise bytes r = r ≡ bytes / number_bytes

-- `plain_at`: the number at an index, and 0 behind the last (rule 10.5).
abbrev pub PlainAtPromise : (table : List ℕ) (index r : ℕ) → Type 0
PlainAtPromise table index r = r ≡ get_or (table_numbers table) index 0

-- `write_plain`: the eight bytes of a number stand from a byte on, and all else stays; without room for them nothing changes (rule 10.5).
abbrev pub plain_written : (table : List ℕ) (at number : ℕ) → List ℕ
plain_written table at number = cond (leb (at + number_bytes) (length table)) (sets table at (eight_bytes number)) table

abbrev pub WritePlainPromise : (table : List ℕ) (at number : ℕ) (table' : List ℕ) → Type 0
WritePlainPromise table at number table' = table' ≡ plain_written table at number

-- `write_row`: the same for the numbers of a row, of which all are written or none (rule 10.5).
abbrev pub row_between : (table : List ℕ) (at : ℕ) (row : List ℕ) → List ℕ
row_between table at row = take at table ++ flat_map eight_bytes row ++ drop (at + number_bytes * length row) table

abbrev pub WriteRowPromise : (row : List ℕ) (at : ℕ) (table table' : List ℕ) → Type 0
WriteRowPromise row at table table' = table' ≡ cond (leb (at + number_bytes * length row) (length table)) (row_between table at row) table
