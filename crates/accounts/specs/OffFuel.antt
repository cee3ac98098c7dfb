-- What CO2 captured takes off an owner's emission, and what it never reaches.
use Rattle.std.specs.Prelude.{ℕ, ◌-◌, ◌≤◌, ◌≡◌, Bool, not, ◌||◌, List}
use Rattle.records.specs.declared.line.Line.{Line}
use Rattle.accounts.specs.Emissions.{grams_of, of_classes, is_fuel, is_captured, fuel_grams, captured_grams, in_kg, emission}

-- The classes other than 9; and below those other than 3 and 9 (rule 3.4).
abbrev pub not_captured : ℕ → Bool
not_captured class = not (is_captured class)

abbrev pub not_of_fuel : ℕ → Bool
not_of_fuel class = not (is_fuel class || is_captured class)

-- What is captured is taken off fuel alone (rule 13.13).
pub record OffFuel (owner_kind owner : ℕ) (lines : List Line) : Type 0 where
  -- the emission is that of the other lines less the grams captured
  pub less : emission owner_kind owner lines ≡ in_kg (grams_of (of_classes not_captured owner_kind owner) lines - captured_grams owner_kind owner lines)
  -- these are no more than the fuel gives
  pub no_more : captured_grams owner_kind owner lines ≤ fuel_grams owner_kind owner lines
  -- and what the lines give that are neither fuel nor captured stays
  pub rest_stays : in_kg (grams_of (of_classes not_of_fuel owner_kind owner) lines) ≤ emission owner_kind owner lines
