-- Each number starts with a digit within the text; behind the last number there is no start.
use Prim.Native.Nat.{ℕ, zero, suc, ◌+◌, ◌≤◌, ◌<◌}
use mathlib.Core.Path.{◌≡◌, refl}
use mathlib.Core.Bool.{Bool, true, false, cond}
use mathlib.Core.List.{List, [], ◌∷◌, ◌++◌}
use native.Mathlib.Omega.{arith}
use lib.ListN.{length, get_or, get_or-eq_default}
use Rattle.typed.specs.Text.{State, between, within, remark, is_digit, after, numbers_in, starts_number, starts_from, starts_in}
use Rattle.typed.proofs.AsManyStarts.{as_many_starts}

-- a start in a text that stands at an offset
record DigitAt (text : List ℕ) (offset start : ℕ) : Type 0 where
  pub index : ℕ
  pub start_is : start ≡ offset + index
  pub inside : index < length text
  pub digit : is_digit (get_or text index 0) ≡ true

-- only a digit starts a number
starts_digit : (state : State) (byte : ℕ) → starts_number state byte ≡ true → is_digit byte ≡ true
unfolding starts_number
starts_digit between byte is = is
starts_digit (within value) byte is = absurd (let z : ◌≡◌ {A = ℕ} 0 1 = cc in omega arith)
starts_digit remark byte is = absurd (let z : ◌≡◌ {A = ℕ} 0 1 = cc in omega arith)

-- behind one byte more
one_further : {text : List ℕ} {offset start : ℕ} (byte : ℕ) → DigitAt text (suc offset) start → DigitAt (byte ∷ text) offset start
one_further byte there =
    record { index = suc there.index; start_is = omega (arith, there.start_is); inside = omega (arith, there.inside); digit = there.digit }

starts_from_lem :
    (state : State) (offset : ℕ) (text : List ℕ) (place none : ℕ) → place < length (starts_from state offset text) →
    DigitAt text offset (get_or (starts_from state offset text) place none)
unfolding starts_from
starts_from_lem state offset [] place none below = absurd (omega arith)
starts_from_lem state offset (byte ∷ text) place none below =
    by_start (starts_number state byte) refl place below (λ k. starts_from_lem (after state byte) (suc offset) text k none)
  where
    later : List ℕ
    later = starts_from (after state byte) (suc offset) text

    by_start :
        (t : Bool) → starts_number state byte ≡ t → (k : ℕ) → k < length (cond t (offset ∷ []) [] ++ later) →
        ((j : ℕ) → j < length later → DigitAt text (suc offset) (get_or later j none)) →
        DigitAt (byte ∷ text) offset (get_or (cond t (offset ∷ []) [] ++ later) k none)
    by_start true is zero below on = record { index = 0; start_is = omega arith; inside = omega arith; digit = starts_digit state byte is }
    by_start true is (suc k) below on = one_further byte (on k (omega (arith, below)))
    by_start false is k below on = one_further byte (on k below)

-- The offset of a number that is there is that of a digit (rule 16.4).
pub start_there :
    (text : List ℕ) (place : ℕ) → place < length (numbers_in text) →
    let start : ℕ = get_or (starts_in text) place (length text) in
    (start < length text) × (is_digit (get_or text start 0) ≡ true)
start_there text place below =
    let there = starts_from_lem between 0 text place (length text) (omega (arith, below, as_many_starts text)) in
    let is : get_or (starts_in text) place (length text) ≡ there.index = omega (arith, there.start_is) in
    rw is (there.inside, there.digit)

-- That of a number that is not there is the text's length (rule 16.4).
pub start_past : (text : List ℕ) (place : ℕ) → length (numbers_in text) ≤ place → get_or (starts_in text) place (length text) ≡ length text
start_past text place past = get_or-eq_default (starts_in text) (length text) (omega (arith, past, as_many_starts text))
