-- The loop that looks for a stray byte: one law for each way through a turn.
use Prim.Native.Nat.{ℕ, ◌+◌, ◌≤◌, ◌<◌}
use mathlib.Core.Path.{◌≡◌, ◌∙◌}
use mathlib.Core.Bool.{true, false}
use mathlib.Core.List.{List}
use native.Mathlib.Omega.{arith}
use lib.ListN.{length, get_or, drop}
use Rattle.typed.specs.Text.{State, between, after, is_stray, before_stray, first_stray}
use Rattle.typed.proofs.NextByte.{next_byte}

-- so far no byte was stray
pub record NoneStray (text : List ℕ) (state : State) (i : ℕ) : Type 0 where
  pub inside : i ≤ length text
  pub stray_is : first_stray text ≡ i + before_stray state (drop i text)

-- before the first turn
pub none_stray : (text : List ℕ) → NoneStray text between 0
none_stray text = record { inside = omega arith; stray_is = omega arith }

module _ {text : List ℕ} {state : State} {i : ℕ} (so_far : NoneStray text state i) where
  module _ (more : i < length text) where
    -- the next byte is stray
    pub stray_here : is_stray state (get_or text i 0) ≡ true → first_stray text ≡ i
    unfolding before_stray
    stray_here is = so_far.stray_is ∙ rw (next_byte text i more, is) (omega arith)

    -- it is not
    pub stray_later : is_stray state (get_or text i 0) ≡ false → NoneStray text (after state (get_or text i 0)) (i + 1)
    unfolding before_stray
    stray_later is = record { inside = omega arith; stray_is = so_far.stray_is ∙ rw (next_byte text i more, is) (omega arith) }
