-- How many numbers a text can have: each takes a digit and, but for the last, a byte that ends it.
use Prim.Native.Nat.{ℕ, ◌+◌, ◌*◌, ◌≤◌}
use mathlib.Core.List.{List, [], ◌∷◌}
use native.Mathlib.Omega.{arith}
use lib.ListN.{length, length-append}
use Rattle.typed.proofs.AsManyStarts.{byte_turn, starts_or_ends}
use Rattle.typed.specs.Text.{State, between, within, remark, after, ending, ended_by, numbers_from, numbers_in}

-- a number that was begun has had one of its two bytes
few_from : (state : State) (text : List ℕ) → 2 * length (numbers_from state text) ≤ length text + 1 + length (ending state)
unfolding numbers_from
few_from between [] = omega arith
few_from (within value) [] = omega arith
few_from remark [] = omega arith
few_from state (byte ∷ text) =
    omega (
      arith,
      length-append (ended_by state byte) (numbers_from (after state byte) text),
      byte_turn state byte 0,
      starts_or_ends state byte 0,
      few_from (after state byte) text,
    )

-- A text of n bytes has at most (n + 1) / 2 numbers (rule 16.2).
pub few_numbers : (text : List ℕ) → 2 * length (numbers_in text) ≤ length text + 1
few_numbers text = omega (arith, few_from between text)
