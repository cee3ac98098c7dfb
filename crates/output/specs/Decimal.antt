-- A number in decimal (rule 11.1).
use Rattle.std.specs.Prelude.{ℕ, zero, suc, ◌+◌, ◌-◌, ◌*◌, ◌/◌, ◌%◌, cond, List, [], ◌∷◌, ◌++◌, ltb}

-- The base of decimal numbers.
abbrev pub ten : ℕ
ten = 10

-- The byte of the digit 0; those of the other digits follow it.
abbrev pub digit_zero : ℕ
digit_zero = 48

-- The byte of a digit.
abbrev pub digit : ℕ → ℕ
digit d = digit_zero + d

-- No number of 64 bits has more digits.
abbrev pub most_digits : ℕ
most_digits = 20

-- A number below ten is its digit; of any other the tens come first, then the last digit. There are at most `places` digits.
unfoldable pub decimal_within : (places number : ℕ) → List ℕ
decimal_within zero number = []
decimal_within (suc places) number =
    cond (ltb number ten) (digit number ∷ []) (decimal_within places (number / ten) ++ (digit (number % ten) ∷ []))

-- A number of 64 bits in decimal (rule 11.1).
abbrev pub decimal : ℕ → List ℕ
decimal number = decimal_within most_digits number

-- The number that digits give, read one by one behind a number that was read before them.
unfoldable pub read_after : (before : ℕ) → List ℕ → ℕ
read_after before [] = before
read_after before (byte ∷ bytes) = read_after (ten * before + (byte - digit_zero)) bytes

-- The number that digits give.
abbrev pub read_decimal : List ℕ → ℕ
read_decimal bytes = read_after 0 bytes
