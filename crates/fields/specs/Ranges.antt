-- The ranges of fields.
use Rattle.std.specs.Prelude.{ℕ, Bool, true, ◌&&◌, nat_le}

-- From the lowest value to the highest, both included.
abbrev pub within : ℕ → ℕ → ℕ → Bool
within lowest highest value = nat_le lowest value && nat_le value highest

-- From 0 to the highest value.
abbrev pub up_to : ℕ → ℕ → Bool
up_to highest value = nat_le value highest

-- An amount has no range of its own: every number is allowed, and 0 is an amount, too (rule 2.9).
abbrev pub any_amount : ℕ → Bool
any_amount value = true
