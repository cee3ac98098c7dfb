-- Laws of the sets of plants: a set has the plants whose routes pass, and no others.
use Prim.Native.Nat.{ℕ, zero, suc, ◌+◌, ◌*◌, ◌/◌, ◌%◌, ◌^◌, ◌<◌, suc-le-suc, max}
use mathlib.Core.Path.{◌≡◌, refl, sym, ap, ap₂, ◌∙◌}
use mathlib.Core.Bool.{Bool, true, false, cond, ◌||◌}
use mathlib.Core.List.{List, [], ◌∷◌, ◌++◌}
use native.Mathlib.Nat.{not-suc-le-zero, suc_inj, suc-ne-zero, le_of_suc-le-suc, zero-lt-suc, pow-suc, div-one, one-mul}
use native.Mathlib.Omega.{arith}
use lib.Arith.{digits_div, digits_mod}
use lib.Bits.{bit_or, or_step, or_shifted_r}
use lib.Count.{ones, ones_step}
use lib.ListN.{length, get_or}
use Rattle.accounts.specs.Flow.{Standing, nowhere, passes}
use Rattle.accounts.specs.Accounts.{set_of, has_bit}
use Rattle.accounts.proofs.Bits.{digit, digit_below, digit_tells, digit_of_either, higher_bit}

-- ---- a set by its digits: the first plant's is the lowest
module _ (own : ℕ) where
  -- from one bit higher on, a set is twice as large
  shifted : (bit : ℕ) (standings : List Standing) → set_of own (suc bit) standings ≡ set_of own bit standings * 2
  unfolding set_of
  shifted bit [] = refl
  shifted bit (standing ∷ rest) = by_test (passes own standing) (shifted (suc bit) rest)
    where
      by_test :
          (t : Bool) → set_of own (suc (suc bit)) rest ≡ set_of own (suc bit) rest * 2 →
          cond t (2 ^ suc bit) 0 + set_of own (suc (suc bit)) rest ≡ (cond t (2 ^ bit) 0 + set_of own (suc bit) rest) * 2
      by_test true e = omega (arith, pow-suc 2 bit)
      by_test false e = omega arith

  -- a set is the digit of its first plant, and twice the set of the others
  first_and_others :
      (standing : Standing) (rest : List Standing) → set_of own 0 (standing ∷ rest) ≡ set_of own 0 rest * 2 + digit (passes own standing)
  unfolding set_of
  first_and_others standing rest = omega (arith, shifted 0 rest)

  -- the others, without the first
  others : (standing : Standing) (rest : List Standing) → set_of own 0 (standing ∷ rest) / 2 ≡ set_of own 0 rest
  others standing rest = rw (first_and_others standing rest) (digits_div (set_of own 0 rest) (digit_below (passes own standing)))

  -- the first, without the others
  first : (standing : Standing) (rest : List Standing) → set_of own 0 (standing ∷ rest) % 2 ≡ digit (passes own standing)
  first standing rest = rw (first_and_others standing rest) (digits_mod (set_of own 0 rest) (digit_below (passes own standing)))

  -- ---- a set has a plant exactly if the plant's route passes
  pub set_has : (standings : List Standing) (p : ℕ) → p < length standings → has_bit (set_of own 0 standings) p ≡ passes own (get_or standings p nowhere)
  set_has [] p h = absurd (not-suc-le-zero h)
  set_has (standing ∷ rest) zero h = rw (div-one, first standing rest) (digit_tells (passes own standing))
  set_has (standing ∷ rest) (suc p) h = rw (higher_bit (set_of own 0 (standing ∷ rest)) p, others standing rest) (set_has rest p (le_of_suc-le-suc h))

  -- ---- a set has no other plants than those that are there
  pub set_below : (standings : List Standing) → set_of own 0 standings < 2 ^ length standings
  unfolding set_of
  set_below [] = omega arith
  set_below (standing ∷ rest) =
      omega (arith, set_below rest, first_and_others standing rest, digit_below (passes own standing), pow-suc 2 (length rest))

  -- ---- a set with one plant more: its bit is added if its route passes
  one_more :
      (standings : List Standing) (one : Standing) →
      set_of own 0 (standings ++ one ∷ []) ≡ set_of own 0 standings + cond (passes own one) (2 ^ length standings) 0
  unfolding set_of
  one_more [] one = omega arith
  one_more (standing ∷ rest) one = by_test (passes own one) (one_more rest one)
    where
      by_test :
          (t : Bool) → set_of own 0 (rest ++ one ∷ []) ≡ set_of own 0 rest + cond t (2 ^ length rest) 0 →
          set_of own 0 (standing ∷ (rest ++ one ∷ [])) ≡ set_of own 0 (standing ∷ rest) + cond t (2 ^ length (standing ∷ rest)) 0
      by_test true e = omega (arith, first_and_others standing rest, first_and_others standing (rest ++ one ∷ []), pow-suc 2 (length rest))
      by_test false e = omega (arith, first_and_others standing rest, first_and_others standing (rest ++ one ∷ []))

  -- the bit of a plant whose route passes is set
  pub set_with :
      (standings : List Standing) (one : Standing) → passes own one ≡ true →
      bit_or (set_of own 0 standings) (2 ^ length standings) ≡ set_of own 0 (standings ++ one ∷ [])
  set_with standings one e =
      rw one-mul at (or_shifted_r 1 (length standings) (set_of own 0 standings) (set_below standings)) ∙ omega (arith, rw e at (one_more standings one))

  -- a plant whose route does not pass leaves the set as it is
  pub set_without :
      (standings : List Standing) (one : Standing) → passes own one ≡ false → set_of own 0 (standings ++ one ∷ []) ≡ set_of own 0 standings
  set_without standings one e = omega (arith, rw e at (one_more standings one))

-- ---- if the same plants pass, the sets are the same
pub set_same :
    (own own' : ℕ) (standings standings' : List Standing) → length standings' ≡ length standings →
    ((p : ℕ) → p < length standings → passes own' (get_or standings' p nowhere) ≡ passes own (get_or standings p nowhere)) →
    set_of own' 0 standings' ≡ set_of own 0 standings
unfolding set_of
set_same own own' [] [] long same = refl
set_same own own' [] (standing' ∷ rest') long same = absurd (suc-ne-zero (length rest') long)
set_same own own' (standing ∷ rest) [] long same = absurd (suc-ne-zero (length rest) (sym long))
set_same own own' (standing ∷ rest) (standing' ∷ rest') long same =
    first_and_others own' standing' rest'
    ∙ ap₂ (λ (set : ℕ) (t : Bool). set * 2 + digit t)
    (set_same own own' rest rest' (suc_inj long) (λ p h. same (suc p) (suc-le-suc h)))
    (same 0 (zero-lt-suc (length rest)))
    ∙ sym (first_and_others own standing rest)

-- ---- if the plants of one segment join those of the next, the sets are joined bit by bit
pub set_joined :
    (next own : ℕ) (standings standings' : List Standing) → length standings' ≡ length standings →
    ((p : ℕ) → p < length standings →
    passes next (get_or standings' p nowhere) ≡ (passes next (get_or standings p nowhere) || passes own (get_or standings p nowhere))) →
    bit_or (set_of next 0 standings) (set_of own 0 standings) ≡ set_of next 0 standings'
unfolding set_of
set_joined next own [] [] long joined = refl
set_joined next own [] (standing' ∷ rest') long joined = absurd (suc-ne-zero (length rest') long)
set_joined next own (standing ∷ rest) [] long joined = absurd (suc-ne-zero (length rest) (sym long))
set_joined next own (standing ∷ rest) (standing' ∷ rest') long joined =
    or_step (set_of next 0 (standing ∷ rest)) (set_of own 0 (standing ∷ rest))
    ∙ ap₂ (λ (set lowest : ℕ). set * 2 + lowest)
    (ap₂ bit_or (others next standing rest) (others own standing rest)
    ∙ set_joined next own rest rest' (suc_inj long) (λ p h. joined (suc p) (suc-le-suc h)))
    (ap₂ max (first next standing rest) (first own standing rest)
    ∙ digit_of_either (passes next standing) (passes own standing)
    ∙ ap digit (sym (joined 0 (zero-lt-suc (length rest)))))
    ∙ sym (first_and_others next standing' rest')

-- ---- how many plants' routes pass
unfoldable pub passing : ℕ → List Standing → ℕ
passing own [] = 0
passing own (standing ∷ rest) = digit (passes own standing) + passing own rest

-- a set has as many plants
pub plants_on_it : (own : ℕ) (standings : List Standing) → ones (set_of own 0 standings) ≡ passing own standings
unfolding ones set_of passing
plants_on_it own [] = refl
plants_on_it own (standing ∷ rest) =
    ones_step (set_of own 0 (standing ∷ rest))
    ∙ ap₂ (λ (lowest set : ℕ). lowest + ones set) (first own standing rest) (others own standing rest)
    ∙ ap (λ (n : ℕ). digit (passes own standing) + n) (plants_on_it own rest)
