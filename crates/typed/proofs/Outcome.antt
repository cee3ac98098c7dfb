-- No two outcomes meet a promise of this crate.
use Prim.Native.Nat.{ℕ}
use mathlib.Core.Path.{◌≡◌, sym, ◌∙◌}
use mathlib.Core.List.{List}
use Rattle.std.specs.Prelude.{Result}
use Rattle.typed.specs.declared.reading.Stray.{Stray}
use Rattle.typed.specs.Promises.{ReadTextPromise, NumberStartPromise}

-- `read_text`: the answer and the list afterwards, of one text and one list before
pub one_text :
    (text list : List ℕ) (r s : Result ℕ Stray) (after after' : List ℕ) →
    ReadTextPromise text list r after → ReadTextPromise text list s after' → (r ≡ s) × (after ≡ after')
one_text text list r s after after' p q = (p.answer ∙ sym q.answer, p.written ∙ sym q.written)

-- `number_start`: the offset, of one text and one place
pub one_start : (text : List ℕ) (place r s : ℕ) → NumberStartPromise text place r → NumberStartPromise text place s → r ≡ s
one_start text place r s p q = p ∙ sym q
