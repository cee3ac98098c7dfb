-- Laws of forming a number from its groups: which of the tests decides.
use Prim.Native.Nat.{ℕ, suc, ◌-◌, ◌≤◌, ◌<◌}
use mathlib.Core.Path.{◌≡◌, refl, sym, ap, ◌∙◌}
use mathlib.Core.List.{List, [], ◌∷◌}
use mathlib.Core.Bool.{Bool, true, false, and-false}
use mathlib.Core.Logic.{◌⊎◌, ⊎_elim}
use native.Mathlib.Numerals.{sub-one}
use native.Mathlib.Decide.{dec_le}
use native.Mathlib.Omega.{arith}
use lib.ListN.{length, get_or, take}
use lib.Seq.{get_or-take, length-take-le}
use lib.Dec.{ltb}
use borrow.Author.Tests.{lt-ltb, le-ltb, le-leb, lt-leb, eq-eqb, ne_eqb}
use Rattle.number.specs.Groups.{value, padded, largest}
use Rattle.number.specs.Inside.{AreGroups, Kept}
use Rattle.number.specs.Reading.{Found, formed, not_shortest, too_large}
use Rattle.number.specs.Reading.Found.{number, fault}

-- the last of some groups
abbrev pub last : List ℕ → ℕ
last gs = get_or gs (length gs - 1) 0

-- a group in front is not the last
pub last_behind : (g : ℕ) (gs : List ℕ) → 0 < length gs → last (g ∷ gs) ≡ last gs
last_behind g [] h = absurd (omega arith)
last_behind g (k ∷ gs) h = rw (sub-one (suc (suc (length gs))), sub-one (suc (length gs)))

module _ (gs : List ℕ) where
  -- several groups that end in a zero group do not have the shortest form
  pub padded_zero : 1 < length gs → last gs ≡ 0 → padded gs ≡ true
  unfolding padded
  padded_zero several zero_last = rw (lt-ltb _ _ several, eq-eqb _ _ zero_last)

  -- one group alone has it
  pub padded_single : length gs ≤ 1 → padded gs ≡ false
  unfolding padded
  padded_single single = rw (le-ltb 1 (length gs) single)

  -- and so have groups that end in another
  pub padded_other : (last gs ≡ 0 → ⊥) → padded gs ≡ false
  unfolding padded
  padded_other other = rw (ne_eqb _ _ other) (and-false (ltb 1 (length gs)))

  -- the form is tested first
  formed_padded : padded gs ≡ true → formed gs ≡ fault not_shortest
  unfolding formed
  formed_padded p = rw p

  -- then the value
  pub formed_large : padded gs ≡ false → largest < value gs → formed gs ≡ fault too_large
  unfolding formed
  formed_large p h = rw (p, lt-leb (value gs) largest h)

  -- groups that pass both tests form a number
  pub formed_number : padded gs ≡ false → value gs ≤ largest → formed gs ≡ number (value gs) (length gs)
  unfolding formed
  formed_number p h = rw (p, le-leb (value gs) largest h)

-- ---- and which it was, from the answer
pub data FormedAs (groups : List ℕ) : Found → Type 0 where
  is_padded : padded groups ≡ true → FormedAs groups (fault not_shortest)
  is_large : padded groups ≡ false → largest < value groups → FormedAs groups (fault too_large)
  is_number : padded groups ≡ false → value groups ≤ largest → FormedAs groups (number (value groups) (length groups))

-- it was one of the three
pub formed_as : (groups : List ℕ) → FormedAs groups (formed groups)
formed_as groups = by_form (padded groups) refl
  where
    by_value : padded groups ≡ false → Dec (value groups ≤ largest) → FormedAs groups (formed groups)
    by_value p (yes h) = rw (formed_number groups p h) (is_number p h)
    by_value p (no h) = rw (formed_large groups p (omega arith)) (is_large p (omega arith))

    by_form : (t : Bool) → padded groups ≡ t → FormedAs groups (formed groups)
    by_form true p = rw (formed_padded groups p) (is_padded p)
    by_form false p = by_value p (dec_le (value groups) largest)

-- ---- groups as the code keeps them
module _ {all : List ℕ} {count last_kept : ℕ} {gs : List ℕ} (k : Kept all count last_kept) (is : take count all ≡ gs) where
  -- they are groups, as many as count says
  pub kept_groups : AreGroups gs
  kept_groups = rw is at k.are_groups

  pub kept_length : length gs ≡ count
  kept_length = sym (ap length is) ∙ length-take-le count all (omega (arith, k.room, k.within))

  -- each is the one at its index in the array
  pub kept_at : (i : ℕ) → i < count → get_or all i 0 ≡ get_or gs i 0
  kept_at i below = sym (get_or-take count all i 0 below) ∙ ap (λ (l : List ℕ). get_or l i 0) is

  -- the last is the one that is kept by itself
  last_is : last gs ≡ last_kept
  last_is = let some = k.some in rw kept_length (sym (kept_at (count - 1) (omega arith)) ∙ k.at_last)

  -- several that end in a zero group do not have the shortest form
  pub zero_last : 1 < count → last_kept ≡ 0 → formed gs ≡ fault not_shortest
  zero_last several z = formed_padded gs (padded_zero gs (rw kept_length several) (last_is ∙ z))

  -- several that end in another have it, and so has one alone
  pub shortest : (1 < count × (last_kept ≡ 0 → ⊥)) ⊎ (count ≤ 1) → padded gs ≡ false
  shortest = ⊎_elim (λ (several, other). padded_other gs (λ z. other (sym last_is ∙ z))) (λ one. padded_single gs (rw kept_length one))
