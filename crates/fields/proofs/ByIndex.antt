-- A list of numbers by what is at its indices, so that a law over a record's numbers can spell them out.
use Rattle.std.proofs.Common.{◌≡◌, ℕ, zero, suc, List, [], ◌∷◌, length, get_or, refl, ap, ◌∙◌, ap₂}

-- what is at an index
abbrev pub number : List ℕ → ℕ → ℕ
number values i = get_or values i 0

-- the list with this at each of a count of indices
unfoldable pub spelt : (ℕ → ℕ) → ℕ → List ℕ
spelt at zero = []
spelt at (suc count) = at 0 ∷ spelt (λ (i : ℕ). at (suc i)) count

same_at : (values : List ℕ) (at : ℕ → ℕ) → ((i : ℕ) → number values i ≡ at i) → values ≡ spelt at (length values)
unfolding spelt
same_at [] at same = refl
same_at (value ∷ values) at same =
    ap₂ (λ (v : ℕ) (vs : List ℕ). v ∷ vs) (same 0) (same_at values (λ (i : ℕ). at (suc i)) (λ i. same (suc i)))

-- a list is made of what is at its own indices
pub spelt_out : (values : List ℕ) (count : ℕ) → length values ≡ count → values ≡ spelt (number values) count
spelt_out values count sized = same_at values (number values) (λ i. refl) ∙ ap (spelt (number values)) sized
