-- The rules of the class table, each proved once over the whole table, and what follows for every code.
use Prim.Native.Nat.{ℕ, zero, suc, ◌+◌, ◌-◌, ◌≤◌, ◌<◌}
use mathlib.Core.Path.{◌≡◌, refl, sym, ap, ◌∙◌}
use mathlib.Core.Bool.{Bool, true, false, cond, ◌&&◌, not, beq, and-false, true≢false}
use mathlib.Core.Logic.{◌⊎◌, inl, inr, ⊎_elim}
use mathlib.Core.List.{List, [], ◌∷◌}
use native.Mathlib.Decide.{dec_le}
use native.Mathlib.Omega.{arith}
use lib.Dec.{T, eqb, eqb→eq}
use lib.ListN.{length, get_or}
use borrow.Author.Tests.{eq-eqb, ne_eqb, eqb-true, eqb-false, leb-true}
use Rattle.fields.specs.Ranges.{within, up_to}
use Rattle.fields.proofs.Ranges.{in_range, below_range, above_range, at_most}
use Rattle.records.specs.declared.class.Class.{Class}
use Rattle.records.specs.Classes.{plant_owner, segment_owner, largest_factor, grams_in_kg, classes, no_class, row_of, class_of, allows, class_allowed, factor_allowed}
use Rattle.records.proofs.Table.{both, throughout, at_row}

-- the code of the first row
abbrev first_code : ℕ
first_code = 1

-- ---- the rows have their codes in order
in_order : ℕ → Class → Bool
in_order code class = eqb class.code code

-- so the row at an index is found by its code
found_at :
    (table : List Class) (first k : ℕ) → T (throughout in_order first table) → k < length table → row_of table (first + k) ≡ get_or table k no_class
unfolding in_order
found_at [] first k t h = absurd (omega arith)
found_at (class ∷ rest) first zero t h =
    let here : class.code ≡ first = eqb→eq class.code first (both (in_order first class) (throughout in_order (suc first) rest) t).0 in
    rw (eq-eqb class.code (first + 0) (omega arith)) refl
found_at (class ∷ rest) first (suc k) t h =
    let in_place = both (in_order first class) (throughout in_order (suc first) rest) t in
    let here : class.code ≡ first = eqb→eq class.code first in_place.0 in
    let behind : first + suc k ≡ suc first + k = omega arith in
    rw (ne_eqb class.code (first + suc k) (λ e. omega arith), behind) (found_at rest (suc first) k in_place.1 (omega arith))

-- and no row has another code than those
not_found : (table : List Class) (first code : ℕ) → T (throughout in_order first table) → (code < first) ⊎ (first + length table ≤ code) → row_of table code ≡ no_class
unfolding in_order
not_found [] first code t outside = refl
not_found (class ∷ rest) first code t outside =
    let in_place = both (in_order first class) (throughout in_order (suc first) rest) t in
    let here : class.code ≡ first = eqb→eq class.code first in_place.0 in
    rw (ne_eqb class.code code (λ e. ⊎_elim (λ p. omega (arith, p)) (λ p. omega (arith, p)) outside))
    (not_found rest (suc first) code in_place.1 (⊎_elim (λ p. inl (omega (arith, p))) (λ p. inr (omega (arith, p))) outside))

-- the code of a row
pub code_at : (row : ℕ) → row < length classes → (get_or classes row no_class).code ≡ first_code + row
unfolding in_order classes
code_at row h = eqb→eq (get_or classes row no_class).code (first_code + row) (at_row in_order first_code classes no_class tt row h)

-- the row of a code that the table has
pub row_of_lem : (code : ℕ) → first_code ≤ code → code ≤ length classes → get_or classes (code - first_code) no_class ≡ class_of code
unfolding in_order classes class_of
row_of_lem code low high =
    let here : first_code + (code - first_code) ≡ code = omega arith in
    sym (rw here at (found_at classes first_code (code - first_code) tt (omega arith)))

-- and of one that it does not have
pub no_row : (code : ℕ) → (code < first_code) ⊎ (length classes < code) → class_of code ≡ no_class
unfolding in_order classes class_of
no_row code outside = not_found classes first_code code tt (⊎_elim (λ p. inl (omega (arith, p))) (λ p. inr (omega (arith, p))) outside)

-- ---- whether a row allows its class to a segment
pub allows_segment : (class : Class) (owner_kind : ℕ) → owner_kind ≡ segment_owner → class.segment ≡ allows class owner_kind
allows_segment class owner_kind e = rw (ne_eqb owner_kind plant_owner (λ h. omega arith), eq-eqb owner_kind segment_owner e) refl

-- ---- nobody is allowed a class that the table does not have
pub not_allowed : (owner_kind code : ℕ) → (code < first_code) ⊎ (length classes < code) → class_allowed owner_kind code ≡ false
not_allowed owner_kind code outside = rw (no_row code outside, and-false (eqb owner_kind plant_owner)) (and-false (eqb owner_kind segment_owner))

-- so a class that is allowed is one of the table
pub code_within : (owner_kind code : ℕ) → class_allowed owner_kind code ≡ true → (first_code ≤ code) × (code ≤ length classes)
code_within owner_kind code h = by_code (dec_le first_code code) (dec_le code (length classes))
  where
    by_code : Dec (first_code ≤ code) → Dec (code ≤ length classes) → (first_code ≤ code) × (code ≤ length classes)
    by_code (yes p) (yes q) = (p, q)
    by_code (yes p) (no q) = absurd (true≢false (sym h ∙ not_allowed owner_kind code (inr (omega arith))))
    by_code (no p) q = absurd (true≢false (sym h ∙ not_allowed owner_kind code (inl (omega arith))))

-- ---- what every row says, and the row for no class, the class of every code says
row_says :
    (says : Class → Bool) (table : List Class) (first code : ℕ) → T (says no_class) → T (throughout (λ (c : ℕ). says) first table) →
    T (says (row_of table code))
row_says says [] first code none t = none
row_says says (class ∷ rest) first code none t =
    let here = both (says class) (throughout (λ (c : ℕ). says) (suc first) rest) t in
    by_code (eqb class.code code) here.0 (row_says says rest (suc first) code none here.1)
  where
    by_code : (its : Bool) → T (says class) → T (says (row_of rest code)) → T (says (cond its class (row_of rest code)))
    by_code true own other = own
    by_code false own other = other

-- ---- no class allows a larger factor than the largest
pub factor_at_most : (code factor : ℕ) → factor_allowed code factor ≡ true → factor ≤ largest_factor
factor_at_most code factor = by_class (class_of code).captured
  where
    by_class : (captured : Bool) → cond captured (eqb factor grams_in_kg) (up_to largest_factor factor) ≡ true → factor ≤ largest_factor
    by_class true h = omega (arith, eqb-true factor grams_in_kg h)
    by_class false h = leb-true factor largest_factor h

-- ---- how the grams of each class count, by its code
-- what two tests find alike is the same
same : (a b : Bool) → T (beq a b) → a ≡ b
same true true t = refl
same false false t = refl
same true false t = absurd t
same false true t = absurd t

-- a rule by the code, if the table keeps it at every row and there is nothing outside
by_code_alone :
    (counts : Class → Bool) (rule : ℕ → Bool) → counts no_class ≡ false →
    T (throughout (λ (code : ℕ) (class : Class). beq (counts class) (rule code)) first_code classes) →
    ((code : ℕ) → (code < first_code) ⊎ (length classes < code) → rule code ≡ false) → (code : ℕ) → counts (class_of code) ≡ rule code
by_code_alone counts rule none kept outside code = by_place (dec_le first_code code) (dec_le code (length classes))
  where
    beyond : (code < first_code) ⊎ (length classes < code) → counts (class_of code) ≡ rule code
    beyond there = ap counts (no_row code there) ∙ none ∙ sym (outside code there)

    by_place : Dec (first_code ≤ code) → Dec (code ≤ length classes) → counts (class_of code) ≡ rule code
    by_place (no p) _ = beyond (inl (omega arith))
    by_place (yes p) (no q) = beyond (inr (omega arith))
    by_place (yes p) (yes q) =
        let here : first_code + (code - first_code) ≡ code = omega arith in
        let each = at_row (λ (c : ℕ) (class : Class). beq (counts class) (rule c)) first_code classes no_class kept (code - first_code) (omega arith) in
        ap counts (sym (row_of_lem code p q)) ∙ same (counts (get_or classes (code - first_code) no_class)) (rule code) (rw here at each)

-- the grams of classes 1 to 8 are added (rules 3.4 and 13.7)
pub added_is : (code : ℕ) → (class_of code).added ≡ within 1 8 code
unfolding classes
added_is = by_code_alone (λ (class : Class). class.added) (within 1 8) refl tt
    (λ code there. ⊎_elim (λ p. below_range 1 8 code p) (λ p. above_range 1 8 code (omega (arith, p))) there)

-- those of class 3 are fuel (rule 3.4)
pub fuel_is : (code : ℕ) → (class_of code).fuel ≡ eqb code 3
unfolding classes
fuel_is = by_code_alone (λ (class : Class). class.fuel) (λ (code : ℕ). eqb code 3) refl tt
    (λ code there. ne_eqb code 3 (λ e. ⊎_elim (λ p. omega (arith, p, e)) (λ p. omega (arith, p, e)) there))

-- and those of class 9 are taken off it (rules 3.4 and 13.12)
pub captured_is : (code : ℕ) → (class_of code).captured ≡ eqb code 9
unfolding classes
captured_is = by_code_alone (λ (class : Class). class.captured) (λ (code : ℕ). eqb code 9) refl tt
    (λ code there. ne_eqb code 9 (λ e. ⊎_elim (λ p. omega (arith, p, e)) (λ p. omega (arith, p, e)) there))

-- so no class is added and taken off, and each that is allowed is one of the two
pub added_alone : (code : ℕ) → (class_of code).added ≡ true → (class_of code).captured ≡ false
added_alone code is = captured_is code ∙ ne_eqb code 9 (λ e. omega (arith, at_most 1 8 code (sym (added_is code) ∙ is), e))

pub captured_alone : (code : ℕ) → (class_of code).captured ≡ true → (class_of code).added ≡ false
captured_alone code is =
    let nine : code ≡ 9 = eqb-true code 9 (sym (captured_is code) ∙ is) in
    added_is code ∙ above_range 1 8 code (omega arith)

pub added_else : (owner_kind code : ℕ) → class_allowed owner_kind code ≡ true → (class_of code).captured ≡ false → (class_of code).added ≡ true
unfolding classes
added_else owner_kind code allowed is =
    let (low, high) = code_within owner_kind code allowed in
    let other : (code ≡ 9) → ⊥ = eqb-false code 9 (sym (captured_is code) ∙ is) in
    added_is code ∙ in_range 1 8 code low (omega (arith, high, other))

-- fuel is added
pub fuel_added : (code : ℕ) → (class_of code).fuel ≡ true → (class_of code).added ≡ true
fuel_added code is =
    let three : code ≡ 3 = eqb-true code 3 (sym (fuel_is code) ∙ is) in
    added_is code ∙ in_range 1 8 code (omega arith) (omega arith)

-- no segment may have a class that is taken off
plants_only : Class → Bool
plants_only class = not (class.segment && class.captured)

pub segment_captures_none : (code : ℕ) → class_allowed segment_owner code ≡ true → (class_of code).captured ≡ false
unfolding plants_only classes class_of
segment_captures_none code allowed =
    let class = class_of code in
    by_tests class.segment class.captured (allows_segment class segment_owner refl ∙ allowed) (row_says plants_only classes first_code code tt tt)
  where
    by_tests : (segment captured : Bool) → segment ≡ true → T (not (segment && captured)) → captured ≡ false
    by_tests true true is t = absurd t
    by_tests true false is t = refl
    by_tests false captured is t = absurd (true≢false (sym is))
