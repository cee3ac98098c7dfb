-- An owner's emission comes from its own lines alone: lines of others may be left out.
use Prim.Native.Nat.{ℕ, ◌+◌, ◌≤◌}
use mathlib.Core.Path.{◌≡◌, refl, sym, ap₂, ◌∙◌}
use mathlib.Core.Bool.{Bool, true, false, cond, true≢false}
use mathlib.Core.List.{List, [], ◌∷◌, ◌++◌, map}
use native.Mathlib.Omega.{arith}
use lib.Dec.{eqb}
use borrow.Author.Tests.{eqb-true}
use Rattle.fields.specs.Lists.{sum}
use Rattle.fields.proofs.Ranges.{first, second}
use Rattle.records.specs.declared.line.Line.{Line}
use Rattle.records.proofs.Classes.{fuel_added}
use Rattle.accounts.specs.Emissions.{grams, owned_by, chosen, grams_of, of_classes, is_added, is_fuel, is_captured, added_grams, fuel_grams, less_captured, emission}

-- ---- the grams of the lines that are chosen
module _ (choose : Line → Bool) where
  -- no line gives none
  pub no_grams : grams_of choose [] ≡ 0
  unfolding grams_of chosen sum
  no_grams = refl

  -- one line gives its own, if it is chosen, besides those of the others
  pub grams_with : (line : Line) (lines : List Line) → grams_of choose (line ∷ lines) ≡ cond (choose line) (grams line) 0 + grams_of choose lines
  unfolding grams_of chosen sum
  grams_with line lines = by_choice (choose line)
    where
      by_choice :
          (t : Bool) →
          sum (map grams (cond t (line ∷ chosen choose lines) (chosen choose lines))) ≡ cond t (grams line) 0 + sum (map grams (chosen choose lines))
      by_choice true = refl
      by_choice false = omega arith

  -- the grams of some lines and of those behind them are added
  pub grams_of_both : (lines behind : List Line) → grams_of choose (lines ++ behind) ≡ grams_of choose lines + grams_of choose behind
  grams_of_both [] behind = omega (arith, no_grams)
  grams_of_both (line ∷ lines) behind = omega (arith, grams_with line (lines ++ behind), grams_with line lines, grams_of_both lines behind)

-- ---- a choice that takes every line of another choice
-- gives no less
grams_fewer : (its choose : Line → Bool) → ((line : Line) → its line ≡ true → choose line ≡ true) → (lines : List Line) → grams_of its lines ≤ grams_of choose lines
grams_fewer its choose also [] = omega (arith, no_grams its)
grams_fewer its choose also (line ∷ lines) =
    omega (arith, grams_with its line lines, grams_with choose line lines, grams_fewer its choose also lines, by_tests (its line) (choose line) (also line))
  where
    by_tests : (t u : Bool) → (t ≡ true → u ≡ true) → cond t (grams line) 0 ≤ cond u (grams line) 0
    by_tests true true then = omega arith
    by_tests true false then = absurd (true≢false (sym (then refl)))
    by_tests false u then = omega arith

-- if the lines that it takes are left, the other has the same grams
module _ (its choose : Line → Bool) (kept : (line : Line) → its line ≡ true → choose line ≡ true) where
  grams_of_chosen : (lines : List Line) → grams_of its (chosen choose lines) ≡ grams_of its lines
  unfolding chosen
  grams_of_chosen [] = refl
  grams_of_chosen (line ∷ lines) = by_tests (choose line) (its line) refl refl (grams_of_chosen lines)
    where
      by_tests :
          (Kept-here t : Bool) → choose line ≡ Kept-here → its line ≡ t → grams_of its (chosen choose lines) ≡ grams_of its lines →
          grams_of its (cond Kept-here (line ∷ chosen choose lines) (chosen choose lines)) ≡ grams_of its (line ∷ lines)
      by_tests true t c o rest = omega (arith, grams_with its line (chosen choose lines), grams_with its line lines, rest)
      by_tests false true c o rest = absurd (true≢false (sym (kept line o) ∙ c))
      by_tests false false c o rest = omega (arith, rw o at (grams_with its line lines), rest)

-- ---- an owner's
module _ (owner_kind owner : ℕ) where
  -- a line of an owner has the owner's kind and number
  pub owner_is : (line : Line) → owned_by owner_kind owner line ≡ true → (line.owner_kind ≡ owner_kind) × (line.owner ≡ owner)
  owner_is line its =
      let kind = first (eqb line.owner_kind owner_kind) (eqb line.owner owner) its in
      let number = second (eqb line.owner_kind owner_kind) (eqb line.owner owner) its in
      (eqb-true line.owner_kind owner_kind kind, eqb-true line.owner owner number)

  -- a line of some of its classes is its own
  pub is_owned : (these : ℕ → Bool) (line : Line) → of_classes these owner_kind owner line ≡ true → owned_by owner_kind owner line ≡ true
  is_owned these line = first (owned_by owner_kind owner line) (these line.class)

  -- fuel is part of what is added
  pub fuel_is_added : (lines : List Line) → fuel_grams owner_kind owner lines ≤ added_grams owner_kind owner lines
  fuel_is_added = grams_fewer (of_classes is_fuel owner_kind owner) (of_classes is_added owner_kind owner) also
    where
      also : (line : Line) → of_classes is_fuel owner_kind owner line ≡ true → of_classes is_added owner_kind owner line ≡ true
      also line its =
          rw (is_owned is_fuel line its, fuel_added line.class (second (owned_by owner_kind owner line) (is_fuel line.class) its)) refl

  -- if a choice keeps all lines of the owner, the chosen lines give its emission
  pub emission_of_chosen :
      (choose : Line → Bool) → ((line : Line) → owned_by owner_kind owner line ≡ true → choose line ≡ true) → (lines : List Line) →
      emission owner_kind owner (chosen choose lines) ≡ emission owner_kind owner lines
  unfolding emission
  emission_of_chosen choose kept lines = ap₂ less_captured (of_classes_lem is_added) (of_classes_lem is_captured)
    where
      of_classes_lem : (these : ℕ → Bool) → grams_of (of_classes these owner_kind owner) (chosen choose lines) ≡ grams_of (of_classes these owner_kind owner) lines
      of_classes_lem these = grams_of_chosen (of_classes these owner_kind owner) choose (λ line its. kept line (is_owned these line its)) lines

  -- so the owner's lines alone are enough
  pub emission_of_own : (lines : List Line) → emission owner_kind owner (chosen (owned_by owner_kind owner) lines) ≡ emission owner_kind owner lines
  emission_of_own = emission_of_chosen (owned_by owner_kind owner) (λ line its. its)
