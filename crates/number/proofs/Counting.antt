-- The numbers of a file, counted: where each starts and what its value is, from one number to the next. The layers above go by these laws.
use Prim.Native.Nat.{ℕ, zero, suc, ◌≤◌}
use mathlib.Core.Path.{◌≡◌, refl, ap}
use mathlib.Core.List.{List}
use native.Mathlib.Omega.{arith}
use lib.ListN.{length}
use Rattle.number.specs.Groups.{largest}
use Rattle.number.specs.Reading.{Found, number, fault, offset_at}
use Rattle.number.specs.Counting.{end_of, start_of, number_at, value_in, value_at}
use Rattle.number.proofs.Laws.{bounds, offset_inside}

module _ (file : List ℕ) where
  -- the first number starts at the first byte
  pub first_start : start_of file 0 ≡ 0
  unfolding start_of
  first_start = refl

  module _ (k : ℕ) {value next : ℕ} (is : number_at file k ≡ number value next) where
    -- behind a number the next one starts where it ends
    pub next_start : start_of file (suc k) ≡ next
    unfolding start_of
    next_start = ap (end_of (start_of file k)) is

    -- and its value is that number's
    pub value_is : value_at file k ≡ value
    unfolding value_at
    value_is = ap value_in is

  -- behind a fault the next number starts at the same byte
  pub same_start : (k : ℕ) {refusal : ℕ} → number_at file k ≡ fault refusal → start_of file (suc k) ≡ start_of file k
  unfolding start_of
  same_start k is = ap (end_of (start_of file k)) is

  -- no number starts behind the end of the file: the bytes of the one before are all there
  pub starts_inside : (k : ℕ) → start_of file k ≤ length file
  starts_inside zero = rw first_start (omega arith)
  starts_inside (suc k) = by_number (number_at file k) refl (starts_inside k)
    where
      by_number : (found : Found) → number_at file k ≡ found → start_of file k ≤ length file → start_of file (suc k) ≤ length file
      by_number (number value next) is before = rw (next_start k is) (bounds file (start_of file k) value next is).inside
      by_number (fault refusal) is before = rw (same_start k is) before

  -- so the offset of number k, as number reading reports it, is where it starts
  pub start_told : (k : ℕ) → offset_at file (start_of file k) ≡ start_of file k
  start_told k = offset_inside file (start_of file k) (starts_inside k)

  -- no value is over the largest
  pub value_most : (k : ℕ) → value_at file k ≤ largest
  unfolding value_at
  value_most k = by_number (number_at file k) refl
    where
      by_number : (found : Found) → number_at file k ≡ found → value_in found ≤ largest
      by_number (number value next) is = (bounds file (start_of file k) value next is).small
      by_number (fault refusal) is = omega arith
