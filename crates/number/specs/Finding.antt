-- What each case of the code's answer says, in the terms of `Reading`; and what the code promises.
use Rattle.std.specs.Prelude.{ℕ, ◌≡◌, List, Result, Ok, Err, length}
use Rattle.number.specs.declared.Number.{Number}
use Rattle.number.specs.declared.Fault.{Fault}
use Rattle.number.specs.declared.Fault.TheVariants.{Ends, NotShortest, TooLarge}
use Rattle.number.specs.declared.Report.{Report}
use Rattle.number.specs.Reading.{Found, read_at, offset_at, bytes_at, ends, not_shortest, too_large}
use Rattle.number.specs.Reading.Found.{number, fault}

-- A value with the byte behind it, or a fault with its number.
abbrev pub finds : Result Number Fault → Found
finds (Ok n) = number n.value n.next
finds (Err Ends) = fault ends
finds (Err NotShortest) = fault not_shortest
finds (Err TooLarge) = fault too_large

-- The number of refusal of what was found, and 0 for a value (rule 8.1).
abbrev pub refusal_of : Found → ℕ
refusal_of (number value next) = 0
refusal_of (fault refusal) = refusal

-- ---- what the public functions promise
-- `read_at`: it finds what is at the byte, and reports its offset (rules 1.1 to 1.7).
pub record ReadAtPromise (file : List ℕ) (at : ℕ) (r : Report) : Type 0 where
  pub number : finds r.number ≡ read_at file at
  pub offset : r.offset ≡ offset_at file at

-- `Report::refusal`: the number of the fault, and 0 for a value (rule 8.1).
abbrev pub NumberRefusalPromise : Result Number Fault → ℕ → Type 0
NumberRefusalPromise found r = r ≡ refusal_of (finds found)

-- `bytes_at`: how many bytes the number there has (rule 1.8).
abbrev pub BytesAtPromise : (file : List ℕ) (at : ℕ) → ℕ → Type 0
BytesAtPromise file at r = r ≡ length (bytes_at file at)
