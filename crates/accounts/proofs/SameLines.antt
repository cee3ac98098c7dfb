-- The same lines in another order: whatever each line weighs, they weigh the same together. So an owner's emission is the same.
use Prim.Native.Nat.{ℕ, ◌+◌, ◌<◌}
use mathlib.Core.Path.{◌≡◌, refl, sym, ap₂, ◌∙◌}
use mathlib.Core.Bool.{Bool, true, false, cond, ◌&&◌, true≢false}
use mathlib.Core.List.{List, [], ◌∷◌, map}
use native.Mathlib.Omega.{arith}
use lib.Dec.{eqb}
use borrow.Author.Tests.{eqb-true, eq-eqb}
use Rattle.fields.specs.Lists.{sum}
use Rattle.records.specs.declared.line.Line.{Line}
use Rattle.accounts.specs.Emissions.{grams, owned_by, chosen, grams_of, of_classes, is_added, is_captured, less_captured, emission}
use Rattle.accounts.specs.Changes.{same_line, how_often, SameLines}
use Rattle.accounts.proofs.OwnersLines.{no_grams, grams_with, emission_of_chosen}

-- ---- two lines with the same fields are the same line
the_same : (line other : Line) → same_line line other ≡ true → line ≡ other
the_same line other =
    by_fields
    (eqb line.owner_kind other.owner_kind) (eqb line.owner other.owner) (eqb line.class other.class)
    (eqb line.quantity other.quantity) (eqb line.factor other.factor) refl refl refl refl refl
  where
    by_fields :
        (kind owner class quantity factor : Bool) → eqb line.owner_kind other.owner_kind ≡ kind → eqb line.owner other.owner ≡ owner →
        eqb line.class other.class ≡ class → eqb line.quantity other.quantity ≡ quantity → eqb line.factor other.factor ≡ factor →
        kind && (owner && (class && (quantity && factor))) ≡ true → line ≡ other
    by_fields true true true true true k o c q f all =
        let kind = eqb-true line.owner_kind other.owner_kind k in
        let owner = eqb-true line.owner other.owner o in
        let class = eqb-true line.class other.class c in
        let quantity = eqb-true line.quantity other.quantity q in
        let factor = eqb-true line.factor other.factor f in
        λ i. record { owner_kind = kind i; owner = owner i; class = class i; quantity = quantity i; factor = factor i }
    by_fields true true true true false k o c q f all = absurd (true≢false (sym all))
    by_fields true true true false factor k o c q f all = absurd (true≢false (sym all))
    by_fields true true false quantity factor k o c q f all = absurd (true≢false (sym all))
    by_fields true false class quantity factor k o c q f all = absurd (true≢false (sym all))
    by_fields false owner class quantity factor k o c q f all = absurd (true≢false (sym all))

itself : (line : Line) → same_line line line ≡ true
itself line =
    rw (
      eq-eqb line.owner_kind line.owner_kind refl,
      eq-eqb line.owner line.owner refl,
      eq-eqb line.class line.class refl,
      eq-eqb line.quantity line.quantity refl,
      eq-eqb line.factor line.factor refl,
    )

-- ---- one line taken out
-- what is left without the first that is the same
without : Line → List Line → List Line
without line [] = []
without line (other ∷ lines) = cond (same_line line other) lines (other ∷ without line lines)

-- together with the line they weigh as much as before
taken_out :
    (weight : Line → ℕ) (line : Line) (lines : List Line) → 0 < how_often line lines →
    sum (map weight lines) ≡ weight line + sum (map weight (without line lines))
unfolding sum how_often without
taken_out weight line [] there = absurd (omega arith)
taken_out weight line (other ∷ lines) there = by_test (same_line line other) refl there (taken_out weight line lines)
  where
    by_test :
        (t : Bool) → same_line line other ≡ t → 0 < cond t 1 0 + how_often line lines →
        (0 < how_often line lines → sum (map weight lines) ≡ weight line + sum (map weight (without line lines))) →
        weight other + sum (map weight lines) ≡ weight line + sum (map weight (cond t lines (other ∷ without line lines)))
    by_test true same here rest = rw (the_same line other same) refl
    by_test false differs later rest = omega (arith, rest (omega arith))

-- ---- the same lines weigh the same
module _ (weight : Line → ℕ) where
  -- if one has no line, the other has none
  weigh_nothing : (two : List Line) → SameLines [] two → sum (map weight two) ≡ 0
  unfolding sum how_often
  weigh_nothing [] same = refl
  weigh_nothing (line ∷ two) same = absurd (omega (arith, rw (itself line) at (same line)))

  pub weigh_same : (one two : List Line) → SameLines one two → sum (map weight two) ≡ sum (map weight one)
  unfolding sum how_often
  weigh_same [] two same = weigh_nothing two same
  weigh_same (line ∷ one) two same =
      let there : 0 < how_often line two = omega (arith, rw (itself line) at (same line)) in
      let rest : SameLines one (without line two) =
      λ other. omega (arith, same other, taken_out (λ (each : Line). cond (same_line other each) 1 0) line two there) in
      omega (arith, taken_out weight line two there, weigh_same one (without line two) rest)

-- ---- so the chosen of them have the same grams
module _ (choose : Line → Bool) where
  weighed : (lines : List Line) → grams_of choose lines ≡ sum (map (λ (line : Line). cond (choose line) (grams line) 0) lines)
  unfolding sum
  weighed [] = no_grams choose
  weighed (line ∷ lines) = omega (arith, grams_with choose line lines, weighed lines)

  same_grams : (one two : List Line) → SameLines one two → grams_of choose two ≡ grams_of choose one
  same_grams one two same = weighed two ∙ weigh_same (λ (line : Line). cond (choose line) (grams line) 0) one two same ∙ sym (weighed one)

-- and every owner emits the same
pub emits_same : (owner_kind owner : ℕ) (one two : List Line) → SameLines one two → emission owner_kind owner two ≡ emission owner_kind owner one
unfolding emission
emits_same owner_kind owner one two same =
    ap₂ less_captured
    (same_grams (of_classes is_added owner_kind owner) one two same) (same_grams (of_classes is_captured owner_kind owner) one two same)

-- so does an owner all of whose lines are among the chosen, if these are the same
pub same_emission :
    (owner_kind owner : ℕ) (choose : Line → Bool) → ((line : Line) → owned_by owner_kind owner line ≡ true → choose line ≡ true) →
    (one two : List Line) → SameLines (chosen choose one) (chosen choose two) → emission owner_kind owner two ≡ emission owner_kind owner one
same_emission owner_kind owner choose kept one two same =
    sym (emission_of_chosen owner_kind owner choose kept two)
    ∙ emits_same owner_kind owner (chosen choose one) (chosen choose two) same
    ∙ emission_of_chosen owner_kind owner choose kept one
