-- The numbers of a text are those of its lines: what stands in one line does not matter in the next.
use Prim.Native.Nat.{ℕ}
use Prim.Native.Char.{code}
use mathlib.Core.Path.{◌≡◌, refl, ap, sym, ◌∙◌}
use mathlib.Core.List.{List, [], ◌∷◌, ◌++◌, append_assoc}
use Rattle.typed.specs.Text.{State, between, within, remark, after, ending, ended_by, numbers_from, numbers_in}

-- a byte behind which nothing is begun, whatever was, and which ends a number
record Ends (byte : ℕ) : Type 0 where
  pub behind : (state : State) → after state byte ≡ between
  pub ended : (state : State) → ended_by state byte ≡ ending state

return_ends : Ends (code "\r")
unfolding after
return_ends = record { behind = behind; ended = λ state. refl }
  where
    behind : (state : State) → after state (code "\r") ≡ between
    behind between = refl
    behind (within value) = refl
    behind remark = refl

feed_ends : Ends (code "\n")
unfolding after
feed_ends = record { behind = behind; ended = λ state. refl }
  where
    behind : (state : State) → after state (code "\n") ≡ between
    behind between = refl
    behind (within value) = refl
    behind remark = refl

-- the text behind it is read by itself
behind_end : (end : ℕ) → Ends end → (state : State) (line text : List ℕ) → numbers_from state (line ++ end ∷ text) ≡ numbers_from state line ++ numbers_in text
unfolding numbers_from
behind_end end ends state [] text = rw (ends.behind state, ends.ended state) refl
behind_end end ends state (byte ∷ line) text =
    ap (λ (l : List ℕ). ended_by state byte ++ l) (behind_end end ends (after state byte) line text)
    ∙ sym (append_assoc (ended_by state byte) (numbers_from (after state byte) line) (numbers_in text))

-- Behind a carriage return, and behind a line feed, the numbers are those of the text that follows (rules 16.1 and 16.2).
pub behind_return : (line text : List ℕ) → numbers_in (line ++ code "\r" ∷ text) ≡ numbers_in line ++ numbers_in text
behind_return line text = behind_end (code "\r") return_ends between line text

pub behind_feed : (line text : List ℕ) → numbers_in (line ++ code "\n" ∷ text) ≡ numbers_in line ++ numbers_in text
behind_feed line text = behind_end (code "\n") feed_ends between line text
