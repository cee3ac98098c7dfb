-- Tests index by index, as a loop puts them: some passed, and those of the other indices are left.
use Prim.Native.Nat.{ℕ, suc, ◌+◌, ◌-◌, ◌≤◌, ◌<◌}
use mathlib.Core.Path.{◌≡◌, refl, ap, ◌∙◌}
use mathlib.Core.Bool.{true, false, cond}
use native.Mathlib.Numerals.{add-one}
use native.Mathlib.Omega.{arith}
use Rattle.fields.specs.Answers.{accepts, refuses}
use Rattle.fields.specs.Tests.{Test, refusal_by, tested_by, listed}

module _ (test : ℕ → Test) (count : ℕ) where
  -- what all tests say is what those from an index on say
  pub record LeftToTest (p : ℕ) : Type 0 where
    pub reached : p ≤ count
    pub says : tested_by refuses (listed test 0 count) accepts ≡ tested_by refuses (listed test p (count - p)) accepts

  -- none is put yet
  pub none_tested : LeftToTest 0
  none_tested =
      let all : count ≡ count - 0 = omega arith in
      record { reached = omega arith; says = ap (λ (n : ℕ). tested_by refuses (listed test 0 n) accepts) all }

module _ {test : ℕ → Test} {count p : ℕ} (left : LeftToTest test count p) where
  -- the next one decides, or those behind it do
  next_decides :
      p < count →
      tested_by refuses (listed test 0 count) accepts
      ≡ cond (test p).fails (refuses (refusal_by (test p))) (tested_by refuses (listed test (suc p) (count - suc p)) accepts)
  unfolding tested_by listed
  next_decides more =
      let one : count - p ≡ suc (count - suc p) = omega arith in
      left.says ∙ ap (λ (n : ℕ). tested_by refuses (listed test p n) accepts) one

  -- it passes
  pub one_passed : p < count → (test p).fails ≡ false → LeftToTest test count (p + 1)
  one_passed more passes = rw (add-one p) (record { reached = omega arith; says = next_decides more ∙ rw passes refl })

  -- it fails
  pub one_fails : p < count → (test p).fails ≡ true → tested_by refuses (listed test 0 count) accepts ≡ refuses (refusal_by (test p))
  one_fails more fails = next_decides more ∙ rw fails refl

  -- all passed
  pub all_passed : count ≤ p → tested_by refuses (listed test 0 count) accepts ≡ accepts
  unfolding tested_by listed
  all_passed end =
      let none : count - p ≡ 0 = omega arith in
      left.says ∙ ap (λ (n : ℕ). tested_by refuses (listed test p n) accepts) none
