-- What is found, taken apart: what a number that was read says of the bytes, and that such bytes are read as that number.
use Prim.Native.Nat.{ℕ, ◌+◌, ◌≤◌}
use mathlib.Core.Path.{◌≡◌, refl, sym, ap, ap₂, ◌∙◌}
use mathlib.Core.List.{List}
use mathlib.Core.Bool.{false, true≢false}
use native.Mathlib.Omega.{arith}
use lib.ListN.{length, drop}
use borrow.Author.Tests.{le-leb}
use Rattle.number.specs.Groups.{Gathering, gather, padded, value, most_groups, largest}
use Rattle.number.specs.Groups.Gathering.{whole, cut, long}
use Rattle.number.specs.Reading.{Found, from, formed, found_of, reading, read_at, ends, not_shortest, too_large}
use Rattle.number.specs.Reading.Found.{number, fault}
use Rattle.number.proofs.Forming.{FormedAs, formed_as}
use Rattle.number.proofs.Forming.FormedAs.{is_padded, is_large, is_number}
use Rattle.number.proofs.FrontGroups.{Fronts, fronts, gathers}

-- ---- what is found at the front of some bytes, and at a byte, from what is gathered there
pub front_is : (bytes : List ℕ) (g : Gathering) → gather most_groups bytes ≡ g → reading bytes ≡ found_of g
unfolding reading
front_is bytes g e = ap found_of e

pub gathered_is : (file : List ℕ) (at : ℕ) (g : Gathering) → gather most_groups (drop at file) ≡ g → read_at file at ≡ from at (found_of g)
unfolding read_at reading
gathered_is file at g e = ap (λ (x : Gathering). from at (found_of x)) e

-- ---- a number that was read: its groups are there in the shortest form, and its value is within the limit
pub record Formed (groups : List ℕ) (v n : ℕ) : Type 0 where
  pub shortest : padded groups ≡ false
  pub value_is : value groups ≡ v
  pub size_is : length groups ≡ n
  pub small : v ≤ largest

-- a fault is no number
pub never : {v n k : ℕ} → fault k ≡ number v n → ⊥
never e = true≢false (cc)

-- what groups that form a number say of it
formed_inv : (groups : List ℕ) (v n : ℕ) (a : Found) → FormedAs groups a → a ≡ number v n → Formed groups v n
formed_inv groups v n a (is_padded p) e = absurd (never e)
formed_inv groups v n a (is_large p h) e = absurd (never e)
formed_inv groups v n a (is_number p h) e =
    let value_is : value groups ≡ v = cc in
    record { shortest = p; value_is = value_is; size_is = cc; small = rw value_is at h }

-- the groups of a number at the front of some bytes, and what they form
pub record Reads (bytes : List ℕ) (v n : ℕ) : Type 0 where
  pub groups : List ℕ
  pub front : Fronts most_groups bytes groups
  pub formed_so : Formed groups v n

-- a number that was read there has them
pub reads : (bytes : List ℕ) (v n : ℕ) → reading bytes ≡ number v n → Reads bytes v n
unfolding reading
reads bytes v n e = found (gather most_groups bytes) refl e
  where
    found : (g : Gathering) → gather most_groups bytes ≡ g → found_of g ≡ number v n → Reads bytes v n
    found (whole groups) q f =
        record { groups = groups; front = fronts most_groups bytes groups q; formed_so = formed_inv groups v n (formed groups) (formed_as groups) f }
    found cut q f = absurd (never f)
    found long q f = absurd (never f)

-- and bytes with such groups are read as that number
pub front_reads : (bytes groups : List ℕ) (v n : ℕ) → Fronts most_groups bytes groups → Formed groups v n → reading bytes ≡ number v n
unfolding reading formed
front_reads bytes groups v n front f =
    ap found_of (gathers front) ∙ rw (f.shortest, le-leb (value groups) largest (rw f.value_is f.small)) (ap₂ number f.value_is f.size_is)

-- the byte, taken off again
pub at_front : (file : List ℕ) (at v n : ℕ) → read_at file at ≡ number v n → (m : ℕ) × (reading (drop at file) ≡ number v m) × (n ≡ at + m)
unfolding read_at
at_front file at v n e = found (reading (drop at file)) refl e
  where
    found : (a : Found) → reading (drop at file) ≡ a → from at a ≡ number v n → (m : ℕ) × (reading (drop at file) ≡ number v m) × (n ≡ at + m)
    found (number w m) q f = (m, q ∙ ap (λ (x : ℕ). number x m) (cc), cc)
    found (fault k) q f = absurd (never f)

-- ---- a fault is one of three
formed_fault : (groups : List ℕ) (k : ℕ) (a : Found) → FormedAs groups a → a ≡ fault k → (not_shortest ≤ k) × (k ≤ too_large)
formed_fault groups k a (is_padded p) e = let k_is : k ≡ not_shortest = cc in omega arith
formed_fault groups k a (is_large p h) e = let k_is : k ≡ too_large = cc in omega arith
formed_fault groups k a (is_number p h) e = absurd (never (sym e))

-- a fault of what was gathered, whole or not, is one of three
pub found_fault : (g : Gathering) (k : ℕ) → found_of g ≡ fault k → (ends ≤ k) × (k ≤ too_large)
found_fault (whole groups) k e = let b = formed_fault groups k (formed groups) (formed_as groups) e in omega arith
found_fault cut k e = let k_is : k ≡ ends = cc in omega arith
found_fault long k e = let k_is : k ≡ too_large = cc in omega arith

-- counted from a byte, a fault is the same
pub from_fault : (at : ℕ) (a : Found) (k : ℕ) → from at a ≡ fault k → a ≡ fault k
from_fault at (number v n) k e = absurd (never (sym e))
from_fault at (fault j) k e = e
