-- How many bytes a number takes, written in its shortest form: five at most, and one at least.
use Prim.Native.Nat.{ℕ, zero, suc, ◌/◌, ◌≤◌, ◌<◌}
use native.Mathlib.Decide.{dec_lt}
use native.Mathlib.Omega.{arith}
use lib.ListN.{length}
use Rattle.number.specs.Groups.{radix, most_groups}
use Rattle.number.specs.Writing.{writing, written}
use Rattle.number.proofs.Writing.{writing_last, writing_more}

-- as many as groups are allowed, at most
most_of : (k v : ℕ) → length (writing k v) ≤ k
unfolding writing
most_of zero v = omega arith
most_of (suc k) v = by_size (dec_lt v radix) (most_of k (v / radix))
  where
    by_size : Dec (v < radix) → length (writing k (v / radix)) ≤ k → length (writing (suc k) v) ≤ suc k
    by_size (yes small) rest = rw (writing_last k v small) (omega arith)
    by_size (no large) rest = rw (writing_more k v (omega arith)) (omega (arith, rest))

pub five_bytes : (v : ℕ) → length (written v) ≤ most_groups
unfolding written
five_bytes v = most_of most_groups v

-- and one at least
pub some_byte_of : (k v : ℕ) → 0 < length (writing (suc k) v)
some_byte_of k v = by_size (dec_lt v radix)
  where
    by_size : Dec (v < radix) → 0 < length (writing (suc k) v)
    by_size (yes small) = rw (writing_last k v small) (omega arith)
    by_size (no large) = rw (writing_more k v (omega arith)) (omega arith)

pub some_byte : (v : ℕ) → 0 < length (written v)
unfolding written
some_byte v = some_byte_of 4 v
