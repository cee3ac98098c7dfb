-- No two outcomes meet the promise of number reading: what an answer says determines the answer.
use Prim.Native.Nat.{ℕ}
use mathlib.Core.Path.{◌≡◌, refl, sym, ap, ap₂, ◌∙◌}
use mathlib.Core.List.{List}
use mathlib.Core.Bool.{cond}
use lib.Dec.{eqb}
use Rattle.std.specs.Prelude.{Result, Ok, Err}
use Rattle.number.specs.declared.Number.{Number}
use Rattle.number.specs.declared.Fault.{Fault}
use Rattle.number.specs.declared.Fault.TheVariants.{Ends, NotShortest, TooLarge}
use Rattle.number.specs.declared.Report.{Report}
use Rattle.number.specs.Reading.{Found, ends, not_shortest}
use Rattle.number.specs.Reading.Found.{number, fault}
use Rattle.number.specs.Writing.{SizeOfPromise, WriteAtPromise}
use Rattle.number.specs.Finding.{finds, ReadAtPromise, NumberRefusalPromise, BytesAtPromise}

-- the answer that says it
finding : Found → Result Number Fault
finding (number v n) = Ok (record { value = v; next = n })
finding (fault k) = Err (cond (eqb k ends) Ends (cond (eqb k not_shortest) NotShortest TooLarge))

-- for what an answer says, it is that answer
found_back : (r : Result Number Fault) → finding (finds r) ≡ r
unfolding finding
found_back (Ok n) = refl
found_back (Err Ends) = refl
found_back (Err NotShortest) = refl
found_back (Err TooLarge) = refl

-- so two answers that say the same are the same
pub finds_once : (r s : Result Number Fault) → finds r ≡ finds s → r ≡ s
finds_once r s e = sym (found_back r) ∙ ap finding e ∙ found_back s

-- `read_at`: two reports that meet its promise, of one file at one byte, are the same
pub one_reading : (file : List ℕ) (at : ℕ) (r s : Report) → ReadAtPromise file at r → ReadAtPromise file at s → r ≡ s
one_reading file at r s p q =
    ap₂ (λ (n : Result Number Fault) (o : ℕ). record { number = n; offset = o })
    (finds_once r.number s.number (p.number ∙ sym q.number)) (p.offset ∙ sym q.offset)

-- `Report::refusal`: its promise gives the result itself
pub one_refusal : (found : Result Number Fault) (r s : ℕ) → NumberRefusalPromise found r → NumberRefusalPromise found s → r ≡ s
one_refusal found r s p q = p ∙ sym q

-- `bytes_at`: so does its promise
pub one_count : (file : List ℕ) (at : ℕ) (r s : ℕ) → BytesAtPromise file at r → BytesAtPromise file at s → r ≡ s
one_count file at r s p q = p ∙ sym q

-- `size_of`: so does its promise
pub one_size : (value r s : ℕ) → SizeOfPromise value r → SizeOfPromise value s → r ≡ s
one_size value r s p q = p ∙ sym q

-- `write_at`: two outcomes, of one value at one byte of one buffer, are the same, the count and the buffer
pub one_write :
    (value at : ℕ) (buffer : List ℕ) (r s : ℕ) (after after' : List ℕ) →
    WriteAtPromise value at buffer r after → WriteAtPromise value at buffer s after' → (r ≡ s) × (after ≡ after')
one_write value at buffer r s after after' p q = (p.counted ∙ sym q.counted, p.stands ∙ sym q.stands)
