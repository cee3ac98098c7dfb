-- What an owner emits, from its lines' grams to kg.
use Rattle.std.specs.Prelude.{ℕ, ◌-◌, ◌*◌, Bool, cond, ◌&&◌, List, [], ◌∷◌, map, eqb}
use Rattle.fields.specs.Lists.{sum}
use Rattle.records.specs.declared.line.Line.{Line}
use Rattle.records.specs.Classes.{grams_in_kg, class_of}
use Rattle.accounts.specs.Sums.{rounded_up}

-- The grams of a line: quantity times factor (rule 4.1).
abbrev pub grams : Line → ℕ
grams line = line.quantity * line.factor

-- Whether a line is the owner's that has this kind and number (rule 4.2).
abbrev pub owned_by : ℕ → ℕ → Line → Bool
owned_by owner_kind owner line = eqb line.owner_kind owner_kind && eqb line.owner owner

-- The lines that a choice takes, in their order.
unfoldable pub chosen : (Line → Bool) → List Line → List Line
chosen choose [] = []
chosen choose (line ∷ lines) = cond (choose line) (line ∷ chosen choose lines) (chosen choose lines)

-- The grams of these lines together (rule 4.2).
unfoldable pub grams_of : (Line → Bool) → List Line → ℕ
grams_of choose lines = sum (map grams (chosen choose lines))

-- ---- an owner's grams, by classes
-- Whether a line is the owner's, and of one of these classes (rule 4.2).
abbrev pub of_classes : (ℕ → Bool) → (owner_kind owner : ℕ) → Line → Bool
of_classes these owner_kind owner line = owned_by owner_kind owner line && these line.class

-- How a class's grams count, by its row in the table: as part of the total, as fuel, or as captured (rule 3.4).
abbrev pub is_added : ℕ → Bool
is_added class = (class_of class).added

abbrev pub is_fuel : ℕ → Bool
is_fuel class = (class_of class).fuel

abbrev pub is_captured : ℕ → Bool
is_captured class = (class_of class).captured

-- An owner's grams of all classes that are added; below those of its fuel, and what is taken off these (rules 4.2 and 4.4).
abbrev pub added_grams : (owner_kind owner : ℕ) → List Line → ℕ
added_grams owner_kind owner = grams_of (of_classes is_added owner_kind owner)

abbrev pub fuel_grams : (owner_kind owner : ℕ) → List Line → ℕ
fuel_grams owner_kind owner = grams_of (of_classes is_fuel owner_kind owner)

abbrev pub captured_grams : (owner_kind owner : ℕ) → List Line → ℕ
captured_grams owner_kind owner = grams_of (of_classes is_captured owner_kind owner)

-- ---- in kg
-- A total in kg, rounded up; totals are rounded, never single lines (rule 4.3).
abbrev pub in_kg : ℕ → ℕ
in_kg total = rounded_up total grams_in_kg

-- What is captured is taken off before the total is rounded (rule 4.4).
abbrev pub less_captured : (added captured : ℕ) → ℕ
less_captured added captured = in_kg (added - captured)

-- An owner's emission in kg (rules 4.3 and 4.4).
unfoldable pub emission : (owner_kind owner : ℕ) → List Line → ℕ
emission owner_kind owner lines = less_captured (added_grams owner_kind owner lines) (captured_grams owner_kind owner lines)
