-- Plants join the set of a segment, by the or of the machine.
use Rattle.std.proofs.Common.{◌≡◌, ℕ, suc, ◌-◌, ◌*◌, ◌%◌, ◌^◌, ◌≤◌, ◌<◌, Bool, true, false, cond, eqb, List, length, get_or, set, bit_or, refl, ◌∙◌, arith}
use native.Mathlib.Nat.{one-mul}
use lib.Pow.{shl_exact}
use lib.Seq.{get_or-set_same, get_or-set_other}
use borrow.Author.Tests.{eqb-true, eqb-false}
use Rattle.records.specs.Plants.{most_plants}

-- the sets, with these members in that of the segment with a number
abbrev pub with_members : (sets : List ℕ) (next members : ℕ) → List ℕ
with_members sets next members = set sets (next - 1) (bit_or (get_or sets (next - 1) 0) members)

-- they are in that one, and the others stay
pub members_join :
    (sets : List ℕ) (next members : ℕ) → 0 < next → next ≤ length sets → (s : ℕ) →
    get_or (with_members sets next members) s 0 ≡ cond (eqb (suc s) next) (bit_or (get_or sets s 0) members) (get_or sets s 0)
members_join sets next members some fits s = by_test (eqb (suc s) next) refl
  where
    by_test :
        (t : Bool) → eqb (suc s) next ≡ t → get_or (with_members sets next members) s 0 ≡ cond t (bit_or (get_or sets s 0) members) (get_or sets s 0)
    by_test true e =
        let here : next - 1 ≡ s = omega (arith, eqb-true (suc s) next e) in
        rw here (get_or-set_same sets s (bit_or (get_or sets s 0) members) 0 (omega (arith, eqb-true (suc s) next e, fits)))
    by_test false e =
        get_or-set_other sets (next - 1) s (bit_or (get_or sets (next - 1) 0) members) 0
        (λ same. eqb-false (suc s) next e (omega (arith, same, some)))

-- a single plant is a bit, of which none is shifted out
pub bit : (p : ℕ) → p < most_plants → 1 * 2 ^ p % 2 ^ 32 ≡ 2 ^ p
bit p few = shl_exact {a = 1} 1 p 32 (omega arith) (omega arith) ∙ one-mul (2 ^ p)
