-- What a segment's turn does to one plant: to what it brings, and to the set that it is in.
use Rattle.std.proofs.Common.{◌≡◌, ℕ, Bool, true, false, cond, ◌&&◌, ◌||◌, eqb, refl, sym, ◌∙◌}
use borrow.Author.Tests.{eqb-true, eqb-false, eq-eqb, ne_eqb}
use Rattle.accounts.specs.Flow.{Standing, passes, brings, sent_on}

-- the order of what is compared does not matter
pub eqb_sym : (m n : ℕ) → eqb m n ≡ eqb n m
eqb_sym m n = by_test (eqb m n) refl
  where
    by_test : (b : Bool) → eqb m n ≡ b → eqb m n ≡ eqb n m
    by_test true e = e ∙ sym (eq-eqb n m (sym (eqb-true m n e)))
    by_test false e = e ∙ sym (ne_eqb n m (λ same. eqb-false m n e (sym same)))

-- a test is what it chooses between true and false
itself : (b : Bool) → b ≡ cond b true false
itself true = refl
itself false = refl

-- what is false adds nothing to another test
either : (b c : Bool) → c ≡ cond b (c || false) c
either true true = refl
either true false = refl
either false c = refl

module _ (own next credit : ℕ) (standing : Standing) where
  -- where the turn leaves the plant
  abbrev sent : Standing
  sent = sent_on own next standing credit

  -- what it brings to another segment than this one, or has stored if the number is 0
  pub brings_on : (n : ℕ) → (n ≡ own → ⊥) → cond (passes own standing && eqb n next) credit (brings n standing) ≡ brings n sent
  brings_on n other = by_test (passes own standing) refl
    where
      elsewhere : standing.before ≡ own → brings n standing ≡ 0
      elsewhere here = rw (ne_eqb standing.before n (λ same. other (sym same ∙ here))) refl

      by_test :
          (b : Bool) → passes own standing ≡ b →
          cond (b && eqb n next) credit (brings n standing) ≡ brings n (cond b (record { before = next; amount = credit }) standing)
      by_test true e = rw (elsewhere (eqb-true standing.before own e), eqb_sym n next) refl
      by_test false e = refl

  -- whether it then stands before another segment than this one
  pub stands : (n : ℕ) → (n ≡ own → ⊥) → passes n sent ≡ cond (eqb n next) (passes n standing || passes own standing) (passes n standing)
  stands n other = by_test (passes own standing) refl
    where
      by_test :
          (b : Bool) → passes own standing ≡ b →
          passes n (cond b (record { before = next; amount = credit }) standing) ≡ cond (eqb n next) (passes n standing || b) (passes n standing)
      by_test true e =
          let off : passes n standing ≡ false = ne_eqb standing.before n (λ same. other (sym same ∙ eqb-true standing.before own e)) in
          rw off (eqb_sym next n ∙ itself (eqb n next))
      by_test false e = either (eqb n next) (passes n standing)
