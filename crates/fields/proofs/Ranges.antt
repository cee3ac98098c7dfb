-- What the test of a range gives, by the facts that decide it, and what one that passed says.
use Rattle.std.proofs.Common.{◌≡◌, ℕ, ◌<◌, ◌≤◌, Bool, true, false, ◌&&◌, ◌||◌, leb, ◌⊎◌, sym, refl, inl, inr, true≢false, le-leb, leb-true}
use mathlib.Core.Bool.{and-false}
use borrow.Author.Tests.{lt-leb}
use Rattle.fields.specs.Ranges.{within}

-- ---- a range, both ends included
-- a value between its ends is in it
pub in_range : (low high v : ℕ) → low ≤ v → v ≤ high → within low high v ≡ true
in_range low high v p q = rw (le-leb low v p, le-leb v high q) refl

-- one below is not
pub below_range : (low high v : ℕ) → v < low → within low high v ≡ false
below_range low high v p = rw (lt-leb low v p) refl

-- nor is one above
pub above_range : (low high v : ℕ) → high < v → within low high v ≡ false
above_range low high v p = rw (lt-leb v high p) (and-false (leb low v))

-- from its lower end on, only the upper end is left to test
pub from_low : (low high v : ℕ) → low ≤ v → within low high v ≡ leb v high
from_low low high v p = rw (le-leb low v p) refl

-- ---- what a test that passed says
-- one of two passed
pub either : (a b : Bool) → a || b ≡ true → (a ≡ true) ⊎ (b ≡ true)
either true b h = inl refl
either false b h = inr h

-- both passed, and so the first
pub first : (a b : Bool) → a && b ≡ true → a ≡ true
first true b h = refl
first false b h = absurd (true≢false (sym h))

-- and the second
pub second : (a b : Bool) → a && b ≡ true → b ≡ true
second true b h = h
second false b h = absurd (true≢false (sym h))

-- a value in a range is no more than its upper end
pub at_most : (low high v : ℕ) → within low high v ≡ true → v ≤ high
at_most low high v e = leb-true v high (second (leb low v) (leb v high) e)

-- and no less than its lower end
pub at_least : (low high v : ℕ) → within low high v ≡ true → low ≤ v
at_least low high v e = leb-true low v (first (leb low v) (leb v high) e)
