-- Laws of sums.
use Rattle.std.proofs.Common.{◌≡◌, ℕ, zero, suc, ◌+◌, ◌*◌, ◌≤◌, List, [], ◌∷◌, ◌++◌, length, get_or, arith}
use Rattle.fields.specs.Lists.{sum}

-- if no number is over a bound, their sum is not over the bound times their count
pub sum_most : (bound : ℕ) (numbers : List ℕ) → ((i : ℕ) → get_or numbers i 0 ≤ bound) → sum numbers ≤ length numbers * bound
unfolding sum
sum_most bound [] h = omega arith
sum_most bound (n ∷ ns) h = omega (arith, h 0, sum_most bound ns (λ i. h (suc i)))

-- no number is over the sum
pub part_of_sum : (numbers : List ℕ) (i : ℕ) → get_or numbers i 0 ≤ sum numbers
unfolding sum
part_of_sum [] i = omega arith
part_of_sum (n ∷ ns) zero = omega arith
part_of_sum (n ∷ ns) (suc i) = omega (arith, part_of_sum ns i)

-- one number more at the end of a list
pub sum_snoc : (numbers : List ℕ) (n : ℕ) → sum (numbers ++ n ∷ []) ≡ sum numbers + n
unfolding sum
sum_snoc [] n = omega arith
sum_snoc (m ∷ numbers) n = omega (arith, sum_snoc numbers n)
