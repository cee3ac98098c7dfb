-- What is listed index by index: the loop that fills an array with it, and lists that have the same at every index.
use Prim.Native.Nat.{ℕ, zero, suc, ◌+◌, ◌-◌, ◌≤◌, ◌<◌}
use mathlib.Core.Path.{◌≡◌, refl, sym, ap, ap₂, ◌∙◌}
use mathlib.Core.List.{List, [], ◌∷◌, ◌++◌, map}
use native.Mathlib.Decide.{dec_le}
use native.Mathlib.Numerals.{add-one}
use native.Mathlib.Omega.{arith}
use lib.ListN.{length, take, get_or, set, replicate, length-append, length-replicate, get_or-eq_default}
use lib.Seq.{set_at, append_snoc, ext_get_or, length-take-le, get_or-take}
use Rattle.fields.specs.Lists.{filled}
use Rattle.fields.specs.Tests.{listed}
use Rattle.fields.proofs.Testing.{listed_length}

module _ {A : Type 0} where
  -- what stands at one index more comes last
  pub listed_on : (at : ℕ → A) (from count last : ℕ) → from + count ≡ last → listed at from (suc count) ≡ listed at from count ++ (at last ∷ [])
  unfolding listed
  listed_on at from zero last is = let same : from ≡ last = omega arith in ap (λ (n : ℕ). at n ∷ []) same
  listed_on at from (suc count) last is = ap (λ (l : List A). at from ∷ l) (listed_on at (suc from) count last (omega arith))

  -- the same at every index is the same list
  same_from :
      (at at' : ℕ → A) (from count : ℕ) → ((i : ℕ) → from ≤ i → i < from + count → at i ≡ at' i) → listed at from count ≡ listed at' from count
  unfolding listed
  same_from at at' from zero same = refl
  same_from at at' from (suc count) same =
      ap₂ ◌∷◌ (same from (omega arith) (omega arith)) (same_from at at' (suc from) count (λ i from_there below. same i (omega arith) (omega arith)))

  pub listed_same : (at at' : ℕ → A) (count : ℕ) → ((i : ℕ) → i < count → at i ≡ at' i) → listed at 0 count ≡ listed at' 0 count
  listed_same at at' count same = same_from at at' 0 count (λ i from_there below. same i (omega arith))

  -- a list, index by index
  all_from : (l : List A) (none : A) (at : ℕ → A) (from : ℕ) → ((i j : ℕ) → from + i ≡ j → at j ≡ get_or l i none) → listed at from (length l) ≡ l
  unfolding listed
  all_from [] none at from same = refl
  all_from (x ∷ l) none at from same =
      ap₂ ◌∷◌ (same 0 from (omega arith)) (all_from l none at (suc from) (λ i j is. same (suc i) j (omega arith)))

  pub listed_all : (l : List A) (none : A) → listed (λ (i : ℕ). get_or l i none) 0 (length l) ≡ l
  listed_all l none = all_from l none (λ (i : ℕ). get_or l i none) 0 (λ i j is. let same : j ≡ i = omega arith in ap (λ (n : ℕ). get_or l n none) same)

  -- what stands at an index
  pub listed_at : (at : ℕ → A) (none : A) (count i : ℕ) → i < count → get_or (listed at 0 count) i none ≡ at i
  unfolding listed
  listed_at at none count i below = from_any 0 count i i (omega arith) below
    where
      from_any : (from count i j : ℕ) → from + i ≡ j → i < count → get_or (listed at from count) i none ≡ at j
      from_any from zero i j is below = absurd (omega arith)
      from_any from (suc count) zero j is below = let same : from ≡ j = omega arith in ap at same
      from_any from (suc count) (suc i) j is below = from_any (suc from) count i j (omega arith) (omega arith)

  -- the front of a list
  pub listed_front : (l : List A) (none : A) (count : ℕ) → count ≤ length l → take count l ≡ listed (λ (i : ℕ). get_or l i none) 0 count
  listed_front l none count fits =
      sym (listed_all (take count l) none)
      ∙ ap (listed (λ (i : ℕ). get_or (take count l) i none) 0) (length-take-le count l fits)
      ∙ listed_same (λ (i : ℕ). get_or (take count l) i none) (λ (i : ℕ). get_or l i none) count (λ i below. get_or-take count l i none below)

  -- ---- an array with something in front, and nothing behind that
  -- one more is put behind it
  pub filled_on :
      (none : A) (room : ℕ) (held : List A) (p : ℕ) (x : A) → length held ≡ p → p < room → set (filled none room held) p x ≡ filled none room (held ++ (x ∷ []))
  unfolding filled
  filled_on none room held p x counted more =
      let left : room - length held ≡ suc (room - length (held ++ (x ∷ []))) = omega (arith, counted, length-append held (x ∷ [])) in
      ap (λ (n : ℕ). set (held ++ replicate n none) p x) left
      ∙ set_at held none (replicate (room - length (held ++ (x ∷ []))) none) x p counted
      ∙ sym (append_snoc held x (replicate (room - length (held ++ (x ∷ []))) none))

  -- what stands at an index of it
  pub filled_at : (none : A) (room : ℕ) (held : List A) (i : ℕ) → get_or (filled none room held) i none ≡ get_or held i none
  unfolding filled
  filled_at none room held i = in_front held i
    where
      behind : (n i : ℕ) → get_or (replicate n none) i none ≡ none
      behind zero i = refl
      behind (suc n) zero = refl
      behind (suc n) (suc i) = behind n i

      in_front : (held' : List A) (i : ℕ) → get_or (held' ++ replicate (room - length held) none) i none ≡ get_or held' i none
      in_front [] i = behind (room - length held) i
      in_front (x ∷ held') zero = refl
      in_front (x ∷ held') (suc i) = in_front held' i

  -- how long it is
  pub filled_length : (none : A) (room : ℕ) (held : List A) → length held ≤ room → length (filled none room held) ≡ room
  unfolding filled
  filled_length none room held fits =
      length-append held (replicate (room - length held) none) ∙ omega (arith, length-replicate (room - length held) none)

  -- an array that has at each index what is listed, and nothing behind
  pub filled_by :
      (none : A) (room : ℕ) (at : ℕ → A) (count : ℕ) (array : List A) → length array ≡ room → count ≤ room →
      ((i : ℕ) → i < count → get_or array i none ≡ at i) → ((i : ℕ) → count ≤ i → get_or array i none ≡ none) → array ≡ filled none room (listed at 0 count)
  filled_by none room at count array sized fits each behind =
      ext_get_or none array (filled none room (listed at 0 count))
      (sized ∙ sym (filled_length none room (listed at 0 count) (rw (listed_length at 0 count) fits)))
      (λ i below. by_index i (dec_le (suc i) count) ∙ sym (filled_at none room (listed at 0 count) i))
    where
      by_index : (i : ℕ) → Dec (suc i ≤ count) → get_or array i none ≡ get_or (listed at 0 count) i none
      by_index i (yes here) = each i here ∙ sym (listed_at at none count i here)
      by_index i (no later) =
          behind i (omega arith) ∙ sym (get_or-eq_default (listed at 0 count) none (omega (arith, later, listed_length at 0 count)))

  -- ---- the loop that fills an array index by index
  module _ (none : A) (room : ℕ) (at : ℕ → A) where
    abbrev pub Filling : List A → ℕ → Type 0
    Filling array i = array ≡ filled none room (listed at 0 i)

    -- nothing is filled in yet
    pub filling_start : Filling (replicate room none) 0
    unfolding listed filled
    filling_start = let all : room ≡ room - 0 = omega arith in ap (λ (n : ℕ). replicate n none) all

    -- one index more is
    pub filling_on : (array : List A) (i : ℕ) (x : A) → Filling array i → i < room → x ≡ at i → Filling (set array i x) (i + 1)
    filling_on array i x filling more is =
        ap₂ (λ (l : List A) (y : A). set l i y) filling is
        ∙ filled_on none room (listed at 0 i) i (at i) (listed_length at 0 i) more
        ∙ ap (filled none room) (sym (ap (listed at 0) (add-one i) ∙ listed_on at 0 i i (omega arith)))

-- one figure of each
pub listed_map : {A B : Type 0} (f : A → B) (at : ℕ → A) (from count : ℕ) → map f (listed at from count) ≡ listed (λ (i : ℕ). f (at i)) from count
unfolding listed
listed_map f at from zero = refl
listed_map f at from (suc count) = ap (λ (l : List _). f (at from) ∷ l) (listed_map f at (suc from) count)

-- and one of that
pub map_map : {A B C : Type 0} (f : A → B) (g : B → C) (l : List A) → map g (map f l) ≡ map (λ (x : A). g (f x)) l
map_map f g [] = refl
map_map f g (x ∷ l) = ap (λ (rest : List _). g (f x) ∷ rest) (map_map f g l)
