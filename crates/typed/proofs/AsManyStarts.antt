-- As many numbers start in a text as it has.
use Prim.Native.Nat.{ℕ, suc, ◌+◌, ◌≤◌}
use mathlib.Core.Path.{◌≡◌, refl}
use mathlib.Core.Bool.{Bool, true, false, cond}
use mathlib.Core.List.{List, [], ◌∷◌}
use native.Mathlib.Omega.{arith}
use lib.ListN.{length, length-append}
use Rattle.typed.specs.Text.{State, between, within, remark, is_digit, starts_remark, ends_line, after, opened, ending, ended_by, numbers_from, numbers_in, starts_number, starts_from, starts_in}

-- one byte: a number that was begun, or starts with it, ends with it or goes on behind it
pub byte_turn : (state : State) (byte offset : ℕ) →
    length (cond (starts_number state byte) (offset ∷ []) []) + length (ending state) ≡ length (ended_by state byte) + length (ending (after state byte))
unfolding after starts_number
byte_turn between byte offset = by_kind (is_digit byte) (starts_remark byte) refl refl
  where
    by_kind :
        (d r : Bool) → is_digit byte ≡ d → starts_remark byte ≡ r →
        length (cond (is_digit byte) (offset ∷ []) []) + 0 ≡ length (cond {A = List ℕ} (is_digit byte) [] []) + length (ending (opened 0 byte))
    by_kind true r is starts = rw is refl
    by_kind false true is starts = rw (is, starts) refl
    by_kind false false is starts = rw (is, starts) refl
byte_turn (within value) byte offset = by_kind (is_digit byte) (starts_remark byte) refl refl
  where
    by_kind :
        (d r : Bool) → is_digit byte ≡ d → starts_remark byte ≡ r →
        0 + 1 ≡ length (cond (is_digit byte) [] (value ∷ [])) + length (ending (opened value byte))
    by_kind true r is starts = rw is refl
    by_kind false true is starts = rw (is, starts) refl
    by_kind false false is starts = rw (is, starts) refl
byte_turn remark byte offset = by_kind (is_digit byte) (ends_line byte)
  where
    by_kind : (d l : Bool) → 0 + 0 ≡ length (cond {A = List ℕ} d [] []) + length (ending (cond l between remark))
    by_kind true true = refl
    by_kind true false = refl
    by_kind false true = refl
    by_kind false false = refl

-- no byte both starts a number and ends one
pub starts_or_ends : (state : State) (byte offset : ℕ) → length (cond (starts_number state byte) (offset ∷ []) []) + length (ended_by state byte) ≤ 1
unfolding starts_number
starts_or_ends between byte offset = by_digit (is_digit byte)
  where
    by_digit : (d : Bool) → length (cond d (offset ∷ []) []) + length (cond {A = List ℕ} d [] []) ≤ 1
    by_digit true = omega arith
    by_digit false = omega arith
starts_or_ends (within value) byte offset = by_digit (is_digit byte)
  where
    by_digit : (d : Bool) → 0 + length (cond d [] (value ∷ [])) ≤ 1
    by_digit true = omega arith
    by_digit false = omega arith
starts_or_ends remark byte offset = by_digit (is_digit byte)
  where
    by_digit : (d : Bool) → 0 + length (cond {A = List ℕ} d [] []) ≤ 1
    by_digit true = omega arith
    by_digit false = omega arith

-- from a state on, a number that was begun ends, too
starts_and_ends :
    (state : State) (offset : ℕ) (text : List ℕ) → length (starts_from state offset text) + length (ending state) ≡ length (numbers_from state text)
unfolding starts_from numbers_from
starts_and_ends state offset [] = omega arith
starts_and_ends state offset (byte ∷ text) =
    let starts : List ℕ = cond (starts_number state byte) (offset ∷ []) [] in
    omega (
      arith,
      length-append starts (starts_from (after state byte) (suc offset) text),
      length-append (ended_by state byte) (numbers_from (after state byte) text),
      byte_turn state byte offset,
      starts_and_ends (after state byte) (suc offset) text,
    )

-- As many offsets of first digits as numbers (rules 16.2 and 16.4).
pub as_many_starts : (text : List ℕ) → length (starts_in text) ≡ length (numbers_in text)
as_many_starts text = omega (arith, starts_and_ends between 0 text)
