-- Arithmetic of whole numbers that several rules share.
use Rattle.std.specs.Prelude.{ℕ, ◌+◌, ◌-◌, ◌/◌}

-- n / d rounded up; 0 if d is 0, as n / 0 is 0 (rules 4.3 and 6.1).
abbrev pub rounded_up : ℕ → ℕ → ℕ
rounded_up n d = (n + (d - 1)) / d
