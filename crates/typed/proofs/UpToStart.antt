-- The loop that looks for the start of a number: one law for each way through a turn, and for its end.
use Prim.Native.Nat.{ℕ, suc, ◌+◌, ◌≤◌, ◌<◌}
use mathlib.Core.Path.{◌≡◌, refl, ◌∙◌}
use mathlib.Core.Bool.{true, false}
use mathlib.Core.List.{List}
use native.Mathlib.Omega.{arith}
use lib.ListN.{length, get_or, drop, drop_of_length-le}
use Rattle.typed.specs.Text.{State, between, after, starts_number, starts_from, starts_in}
use Rattle.typed.proofs.NextByte.{next_byte}

-- so far some numbers started, and `before` more come before the one at a place
pub record StartAhead (text : List ℕ) (place : ℕ) (state : State) (before i : ℕ) : Type 0 where
  pub inside : i ≤ length text
  pub start_is : get_or (starts_in text) place (length text) ≡ get_or (starts_from state i (drop i text)) before (length text)

-- before the first turn
pub none_started : (text : List ℕ) (place : ℕ) → StartAhead text place between place 0
none_started text place = record { inside = omega arith; start_is = refl }

module _ {text : List ℕ} {place : ℕ} {state : State} {before i : ℕ} (so_far : StartAhead text place state before i) where
  -- the number's start
  abbrev start : ℕ
  start = get_or (starts_in text) place (length text)

  module _ (more : i < length text) where
    on : suc i ≡ i + 1
    on = omega arith

    -- a number starts with the next byte, and it is the one
    pub starts_here : starts_number state (get_or text i 0) ≡ true → before ≡ 0 → start ≡ i
    unfolding starts_from
    starts_here is last = so_far.start_is ∙ rw (next_byte text i more, is, last) refl

    -- another one starts
    pub starts_later :
        starts_number state (get_or text i 0) ≡ true → (fewer : ℕ) → before ≡ suc fewer →
        StartAhead text place (after state (get_or text i 0)) fewer (i + 1)
    unfolding starts_from
    starts_later is fewer one = record { inside = omega arith; start_is = so_far.start_is ∙ rw (next_byte text i more, is, one, on) refl }

    -- none starts
    pub starts_none : starts_number state (get_or text i 0) ≡ false → StartAhead text place (after state (get_or text i 0)) before (i + 1)
    unfolding starts_from
    starts_none is = record { inside = omega arith; start_is = so_far.start_is ∙ rw (next_byte text i more, is, on) refl }

  -- no byte is left
  pub starts_nowhere : length text ≤ i → start ≡ length text
  unfolding starts_from
  starts_nowhere all = so_far.start_is ∙ rw (drop_of_length-le text all) refl
