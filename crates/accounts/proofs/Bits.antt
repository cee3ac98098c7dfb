-- Laws of sets as numbers, bit by bit: a set of one alone, two sets put together, and two that have nothing in common.
use Prim.Native.Nat.{ℕ, zero, suc, ◌+◌, ◌*◌, ◌/◌, ◌%◌, ◌^◌, ◌≤◌, ◌<◌, min, max}
use mathlib.Core.Path.{◌≡◌, refl, sym, ap, ap₂, ◌∙◌}
use mathlib.Core.Bool.{Bool, true, false, cond, ◌||◌, false≢true}
use mathlib.Core.Logic.{◌↔◌}
use native.Mathlib.Nat.{pow-suc, pow-succ', zero-div, mul-div_cancel, mul-mod_left, div-one, div-div-eq-div-mul, div-eq_of_lt}
use native.Mathlib.Omega.{arith}
use lib.Arith.{bin_ind, digits_mod}
use lib.Bits.{bit_and, bit_or, and_step, and_shr, or_step, or_shr, or_disjoint, and_self}
use lib.Dec.{eqb, eqb-zero-suc, eqb-suc-zero, eqb-suc-suc}
use lib.Pow.{pow_mono}
use borrow.Author.Tests.{eqb-true, eqb-false}
use Rattle.accounts.specs.Accounts.{has_bit}

-- ---- the digit of what is in a set, or is not
abbrev pub digit : Bool → ℕ
digit t = cond t 1 0

-- it is 0 or 1
pub digit_below : (t : Bool) → digit t < 2
digit_below true = omega arith
digit_below false = omega arith

-- it tells which
pub digit_tells : (t : Bool) → eqb (digit t) 1 ≡ t
digit_tells true = refl
digit_tells false = refl

-- that of either
pub digit_of_either : (t u : Bool) → max (digit t) (digit u) ≡ digit (t || u)
digit_of_either true true = refl
digit_of_either true false = refl
digit_of_either false true = refl
digit_of_either false false = refl

-- ---- one bit of a number
digit_at : (n s : ℕ) → n / 2 ^ s % 2 ≡ digit (has_bit n s)
digit_at n s = by_test (has_bit n s) refl
  where
    by_test : (t : Bool) → has_bit n s ≡ t → n / 2 ^ s % 2 ≡ digit t
    by_test true e = eqb-true (n / 2 ^ s % 2) 1 e
    by_test false e = omega (arith, eqb-false (n / 2 ^ s % 2) 1 e)

-- a number is its lowest digit and twice its half
by_digits : (n : ℕ) → n ≡ n / 2 * 2 + digit (has_bit n 0)
by_digits n = omega (arith, digit_at n 0)

-- the half has the other bits
pub higher_bit : (n s : ℕ) → has_bit n (suc s) ≡ has_bit (n / 2) s
higher_bit n s = rw (pow-succ' 2 s, ← div-div-eq-div-mul)

-- a number has no bit that it is too small for
pub no_bit_above : (n k s : ℕ) → n < 2 ^ k → k ≤ s → has_bit n s ≡ false
no_bit_above n k s small above = rw (div-eq_of_lt {n = n} {m = 2 ^ s} (omega (arith, small, pow_mono above)))

-- ---- a number that is one bit alone
pub one_bit : (k s : ℕ) → has_bit (2 ^ k) s ≡ eqb k s
one_bit zero zero = refl
one_bit zero (suc s) = rw (higher_bit 1 s, zero-div (2 ^ s), eqb-zero-suc s)
one_bit (suc k) zero = rw (div-one, pow-suc 2 k, mul-mod_left (2 ^ k) 2, eqb-suc-zero k)
one_bit (suc k) (suc s) = rw (higher_bit (2 ^ suc k) s, pow-suc 2 k, mul-div_cancel (2 ^ k) {n = 2} (omega arith), eqb-suc-suc k s) (one_bit k s)

-- ---- two numbers
-- none is set in both
abbrev pub NoneInBoth : (a b : ℕ) → Type 0
NoneInBoth a b = (s : ℕ) → has_bit a s ≡ true → has_bit b s ≡ true → ⊥

-- that is so exactly if they have no bit in common
pub no_common_bit : (a b : ℕ) → (bit_and a b ≡ 0) ↔ NoneInBoth a b
no_common_bit a b = (apart, bin_ind (λ (a : ℕ). (b : ℕ) → NoneInBoth a b → bit_and a b ≡ 0) (λ b never. refl) by_half a b)
  where
    apart : bit_and a b ≡ 0 → NoneInBoth a b
    apart none s one two =
        let both = rw (none, zero-div (2 ^ s)) at (and_shr a b s) in
        omega (arith, both, and_step (a / 2 ^ s) (b / 2 ^ s), rw one at (digit_at a s), rw two at (digit_at b s))

    not_both : (t u : Bool) → (t ≡ true → u ≡ true → ⊥) → min (digit t) (digit u) ≡ 0
    not_both true true never = absurd (never refl refl)
    not_both true false never = refl
    not_both false u never = omega arith

    by_half : (a : ℕ) → ((b : ℕ) → NoneInBoth (a / 2) b → bit_and (a / 2) b ≡ 0) → (b : ℕ) → NoneInBoth a b → bit_and a b ≡ 0
    by_half a half b never =
        let higher = half (b / 2) (λ s one two. never (suc s) (higher_bit a s ∙ one) (higher_bit b s ∙ two)) in
        let lowest = not_both (has_bit a 0) (has_bit b 0) (never 0) in
        omega (arith, and_step a b, higher, lowest, digit_at a 0, digit_at b 0)

-- they have the same bits
abbrev Alike : (a b : ℕ) → Type 0
Alike a b = (s : ℕ) → has_bit a s ≡ has_bit b s

-- which makes them the same number
pub same_bits : (a b : ℕ) → Alike a b → a ≡ b
same_bits = bin_ind (λ (a : ℕ). (b : ℕ) → Alike a b → a ≡ b) no_bits by_half
  where
    no_bits : (b : ℕ) → Alike 0 b → 0 ≡ b
    no_bits b same = sym ((no_common_bit b b).1 (λ s one two. false≢true (rw zero-div at (same s) ∙ one))) ∙ and_self b

    by_half : (a : ℕ) → ((b : ℕ) → Alike (a / 2) b → a / 2 ≡ b) → (b : ℕ) → Alike a b → a ≡ b
    by_half a half b same =
        let higher = half (b / 2) (λ s. sym (higher_bit a s) ∙ same (suc s) ∙ higher_bit b s) in
        by_digits a ∙ ap₂ (λ (n : ℕ) (t : Bool). n * 2 + digit t) higher (same 0) ∙ sym (by_digits b)

-- the sum of two that have no bit in common has the bits of either
pub bits_of_sum : (a b s : ℕ) → bit_and a b ≡ 0 → has_bit (a + b) s ≡ (has_bit a s || has_bit b s)
bits_of_sum a b s none =
    let rest : ℕ = bit_or (a / 2 ^ s / 2) (b / 2 ^ s / 2) in
    let either : Bool = has_bit a s || has_bit b s in
    let whole : (a + b) / 2 ^ s ≡ rest * 2 + digit either =
    ap (λ (n : ℕ). n / 2 ^ s) (sym (or_disjoint a b none))
    ∙ or_shr a b s
    ∙ or_step (a / 2 ^ s) (b / 2 ^ s)
    ∙ ap (λ (n : ℕ). rest * 2 + n) (ap₂ max (digit_at a s) (digit_at b s) ∙ digit_of_either (has_bit a s) (has_bit b s)) in
    rw (whole, digits_mod rest (digit_below either)) (digit_tells either)
