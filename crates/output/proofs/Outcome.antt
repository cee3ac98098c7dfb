-- No two outcomes meet the promise of a new text, or of putting text.
use Prim.Native.Nat.{ℕ}
use mathlib.Core.Path.{◌≡◌, sym, ◌∙◌}
use mathlib.Core.List.{List}
use Rattle.std.specs.Prelude.{Option}
use Rattle.output.specs.Put.{NoTextPromise, WholePromise, LeftPromise, Put}

pub one_no_text :
    (bytes : ℕ) {room₁ : List ℕ} {end₁ : ℕ} {room₂ : List ℕ} {end₂ : ℕ} →
    NoTextPromise bytes room₁ end₁ → NoTextPromise bytes room₂ end₂ → (room₁ ≡ room₂) × (end₁ ≡ end₂)
one_no_text bytes one other = (one.zeros ∙ sym other.zeros, one.none ∙ sym other.none)

pub one_whole : (end : ℕ) (room : List ℕ) (r s : Option (List ℕ)) → WholePromise end room r → WholePromise end room s → r ≡ s
one_whole end room r s p q = p ∙ sym q

pub one_left : (end : ℕ) (room : List ℕ) (r s : ℕ) → LeftPromise end room r → LeftPromise end room s → r ≡ s
one_left end room r s p q = p ∙ sym q

pub put_once :
    {text : List ℕ} {at : ℕ} {buffer : List ℕ} {end₁ : ℕ} {buffer₁ : List ℕ} {end₂ : ℕ} {buffer₂ : List ℕ} →
    Put text at buffer end₁ buffer₁ → Put text at buffer end₂ buffer₂ → (end₁ ≡ end₂) × (buffer₁ ≡ buffer₂)
put_once one other = (one.ends ∙ sym other.ends, one.stands ∙ sym other.stands)
