-- Rulings of tests in their order: a refusal is no acceptance and tells its notice, so the laws of tests hold of rulings.
use Prim.Native.Nat.{ℕ}
use mathlib.Core.Path.{◌≡◌, sym}
use mathlib.Core.Bool.{true≢false}
use mathlib.Core.List.{List}
use Rattle.fields.specs.Answers.{Notice}
use Rattle.fields.specs.Tests.{Test, FirstFails, NoneFails}
use Rattle.fields.proofs.Testing.{first_fails as first_of, none_fails as none_of}
use Rattle.accounts.specs.Order.{Ruling, refusal, accepted, tested}

-- a refusal is no acceptance
pub refusal_not_accepted : {notice : Notice} {plants segments : List ℕ} → refusal notice ≡ accepted plants segments → ⊥
refusal_not_accepted e = true≢false (cc)

-- if the ruling is a refusal, the first test that fails gives it
pub first_fails :
    (tests : List Test) (notice : Notice) (plants segments : List ℕ) → tested tests (accepted plants segments) ≡ refusal notice → FirstFails tests notice
first_fails tests notice plants segments =
    first_of refusal (λ one other same. cc) tests notice (accepted plants segments) (λ e. refusal_not_accepted (sym e))

-- if it is an acceptance, none fails
pub none_fails : (tests : List Test) (ruling : Ruling) (plants segments : List ℕ) → tested tests ruling ≡ accepted plants segments → NoneFails tests
none_fails tests ruling plants segments = none_of refusal tests ruling (accepted plants segments) (λ notice. refusal_not_accepted)
