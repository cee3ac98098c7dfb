-- Laws of the value of groups.
use Prim.Native.Nat.{ℕ, zero, suc, ◌+◌, ◌-◌, ◌*◌, ◌^◌, ◌≤◌, ◌<◌}
use mathlib.Core.Path.{◌≡◌, refl, sym, ap, ◌∙◌}
use mathlib.Core.List.{List, [], ◌∷◌, ◌++◌}
use mathlib.Core.Bool.{false}
use native.Mathlib.Nat.{lt_of_lt_of_le, mul-suc, add-mul, mul_assoc, mul_right_comm}
use native.Mathlib.Numerals.{add-one}
use native.Mathlib.Omega.{arith}
use lib.ListN.{length, get_or, take, drop, replicate, drop_of_length-le, take-append-drop}
use lib.Seq.{drop-cons}
use lib.Pow.{pow-add, pow_mono}
use lib.Arith.{digits_lt}
use lib.Dec.{lit<}
use Rattle.number.specs.Groups.{value, padded, most_groups, largest, group_bits, radix}
use Rattle.number.specs.Inside.{AreGroups, Kept}
use Rattle.number.specs.Inside.AreGroups.{none, more}
use Rattle.number.specs.Reading.{formed, too_large}
use Rattle.number.specs.Reading.Found.{fault}
use Rattle.number.proofs.Forming.{formed_large, kept_groups, kept_length, kept_at}

-- one group more is seven bits more
pub group_more : (n : ℕ) → 2 ^ (group_bits * suc n) ≡ 2 ^ (group_bits * n) * radix
group_more n = rw (mul-suc group_bits n, pow-add 2 (group_bits * n) group_bits)

-- a value has at most seven bits for each of its groups
value_lt : {gs : List ℕ} → AreGroups gs → value gs < 2 ^ (group_bits * length gs)
unfolding value
value_lt none = lit< tt
value_lt (more {gs = gs} h r) = rw (group_more (length gs)) (digits_lt (value_lt r) h)

-- so the most groups bound every value
pub bounded : {gs : List ℕ} → AreGroups gs → length gs ≤ most_groups → value gs < 2 ^ (group_bits * most_groups)
bounded r h = lt_of_lt_of_le (value_lt r) (pow_mono {j = group_bits * most_groups} (omega arith))

-- one group in front is one digit less significant
value_drop : (gs : List ℕ) (i : ℕ) → i < length gs → value (drop i gs) ≡ value (drop (suc i) gs) * radix + get_or gs i 0
unfolding value
value_drop gs i h = rw (drop-cons gs i 0 h)

-- ---- zeros behind the groups, as in an array that they do not fill
-- they add nothing
pub value_zeros : (gs : List ℕ) (k : ℕ) → value (gs ++ replicate k 0) ≡ value gs
unfolding value
value_zeros [] zero = refl
value_zeros [] (suc k) = rw (value_zeros [] k)
value_zeros (g ∷ gs) k = rw (value_zeros gs k)

-- and are groups themselves
pub groups_zeros : {gs : List ℕ} (k : ℕ) → AreGroups gs → AreGroups (gs ++ replicate k 0)
groups_zeros zero none = none
groups_zeros (suc k) none = more (lit< tt) (groups_zeros k none)
groups_zeros k (more h r) = more h (groups_zeros k r)

-- so it is for the groups that came that the value of the whole array is too large
pub too_large_lem :
    (count : ℕ) (groups : List ℕ) → drop count groups ≡ replicate (most_groups - count) 0 →
    padded (take count groups) ≡ false → largest < value groups → formed (take count groups) ≡ fault too_large
too_large_lem count groups zeros p h =
    let all_is : groups ≡ take count groups ++ replicate (most_groups - count) 0 =
    sym (take-append-drop count groups) ∙ ap (λ (rest : List ℕ). take count groups ++ rest) zeros in
    let value_all : value groups ≡ value (take count groups) = ap value all_is ∙ value_zeros (take count groups) (most_groups - count) in
    formed_large (take count groups) p (rw value_all at h)

-- ---- the loop: the groups before i are formed, and a group at i has the weight
pub record Forms (groups : List ℕ) (v w i : ℕ) : Type 0 where
  pub value_is : value groups ≡ v + value (drop i groups) * w
  pub weight_is : w ≡ 2 ^ (group_bits * i)

-- before the first group nothing is formed
pub start : (groups : List ℕ) → Forms groups 0 1 0
start groups = record { value_is = omega arith; weight_is = refl }

module _ (groups : List ℕ) (v w i : ℕ) (f : Forms groups v w i) where
  -- behind the last group nothing is left
  pub end_all : length groups ≤ i → v ≡ value groups
  unfolding value
  end_all h =
      let formed : value groups ≡ v + value [] * w = rw (drop_of_length-le groups h) at f.value_is in
      omega arith

  module _ (below : i < length groups) where
    -- one group more is formed, at its weight
    pub turn : value groups ≡ v + get_or groups i 0 * w + value (drop (suc i) groups) * (w * radix)
    turn =
        let g = get_or groups i 0 in
        let rest = value (drop (suc i) groups) in
        let here : value (drop i groups) * w ≡ rest * radix * w + g * w = rw (value_drop groups i below) (add-mul (rest * radix) g w) in
        let weighed : rest * radix * w ≡ rest * (w * radix) = mul_right_comm rest radix w ∙ mul_assoc rest w radix in
        omega (arith, f.value_is, here, weighed)

    -- and the next group has the next weight
    pub next : Forms groups (v + get_or groups i 0 * w) (w * radix) (suc i)
    next = record { value_is = turn; weight_is = ap (λ (k : ℕ). k * radix) f.weight_is ∙ sym (group_more i) }

    -- and the next weight is no more than that behind the last group
    pub weight_small : i < most_groups → w * radix ≤ 2 ^ (group_bits * most_groups)
    weight_small h = rw next.weight_is (pow_mono {j = group_bits * most_groups} (omega arith))

-- ---- the same over groups as the code keeps them: the group at i is one of those that came
module _ {all : List ℕ} {count last_kept : ℕ} {groups : List ℕ} (k : Kept all count last_kept) (is : take count all ≡ groups) {v w i : ℕ} (f : Forms groups v w i) (below : i < count) where
  inside : i < length groups
  inside = rw (kept_length k is) below

  -- what a turn forms is no more than the value of the whole, and that is small
  pub formed_small : v + get_or all i 0 * w < 2 ^ (group_bits * most_groups)
  formed_small =
      rw (kept_at k is i below) (omega (arith, turn _ _ _ _ f inside, bounded (kept_groups k is) (omega (arith, kept_length k is, k.within))))

  -- it goes on to the next group
  pub one_formed : Forms groups (v + get_or all i 0 * w) (w * radix) (i + 1)
  one_formed = rw (add-one, kept_at k is i below) (next _ _ _ _ f inside)

  -- or that was the last
  pub last_formed : count ≤ i + 1 → v + get_or all i 0 * w ≡ value groups
  last_formed h = end_all _ _ _ _ one_formed (rw (kept_length k is) h)
