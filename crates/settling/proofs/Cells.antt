-- What is filled plant by plant: each brings an amount to one segment, and nothing else to any.
use Rattle.std.proofs.Common.{◌≡◌, ℕ, ◌+◌, ◌≤◌, ◌<◌, ◌⊎◌, inl, inr, cond, eqb, refl, ap, ◌∙◌, arith}
use mathlib.Core.Logic.{◌≢◌}
use native.Mathlib.Nat.{not-suc-le-zero, eq-or-lt_of_le}
use borrow.Author.Tests.{eq-eqb, ne_eqb}
use Rattle.settling.specs.declared.flow.Books.{Books}
use Rattle.settling.specs.Books.{brought, Besides, Brought}

-- ---- what a loop over the plants fills: the plants below an index have what they should, the others what they had
pub record UpTo (p : ℕ) (should had has : ℕ → ℕ) : Type 0 where
  pub done : (q : ℕ) → q < p → has q ≡ should q
  pub left : (q : ℕ) → p ≤ q → has q ≡ had q

-- before the first plant nothing has changed
pub none_yet : {should had has : ℕ → ℕ} → ((q : ℕ) → has q ≡ had q) → UpTo 0 should had has
none_yet same = record { done = λ q h. absurd (not-suc-le-zero h); left = λ q h. same q }

module _ {p : ℕ} {should had has : ℕ → ℕ} (filled : UpTo p should had has) where
  -- one plant more has what it should, and the others have what they had
  one_more : (has' : ℕ → ℕ) → has' p ≡ should p → ((q : ℕ) → q ≢ p → has' q ≡ has q) → UpTo (p + 1) should had has'
  one_more has' here others = record {
    done = λ q h. by_order q (eq-or-lt_of_le (omega arith));
    left = λ q h. others q (λ e. omega arith) ∙ filled.left q (omega arith);
  }
    where
      by_order : (q : ℕ) → (q ≡ p) ⊎ (q < p) → has' q ≡ should q
      by_order q (inl e) = rw e here
      by_order q (inr h) = others q (λ e. omega arith) ∙ filled.done q h

  -- nothing changes if the next plant should have what it had
  pub one_kept : had p ≡ should p → UpTo (p + 1) should had has
  one_kept e = one_more has (filled.left p (omega arith) ∙ e) (λ q other. refl)

-- what a plant should bring to a segment, or have stored, is put there
pub brought_on :
    {p number amount : ℕ} {books books' : Books} → Brought p number amount books books' → (n : ℕ) {should had : ℕ → ℕ} →
    UpTo p should had (λ q. brought books q n) → cond (eqb n number) amount (had p) ≡ should p → UpTo (p + 1) should had (λ q. brought books' q n)
brought_on {p} {number} {amount} {books} put n filled e =
    one_more filled _
    (put.amounts p n ∙ rw (eq-eqb p p refl) (ap (cond (eqb n number) amount) (filled.left p (omega arith)) ∙ e))
    (λ q other. put.amounts q n ∙ rw (ne_eqb q p other) refl)

-- and what is besides stays the same from one to the next
pub besides_on : {books books' books'' : Books} → Besides books books' → Besides books' books'' → Besides books books''
besides_on first then = record { plants = then.plants ∙ first.plants; sets = then.sets ∙ first.sets; inflows = then.inflows ∙ first.inflows }
