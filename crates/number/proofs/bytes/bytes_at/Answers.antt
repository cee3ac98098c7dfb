-- `number::bytes::bytes_at` meets its contract: up to the first byte after which none follows, or all that a number may have. Assumes nothing.
use mathlib.Core.Path.{sym, ap, ◌∙◌}
use native.Mathlib.Omega.{arith}
use mathlib.Core.List.{List}
use Prim.Native.Nat.{ℕ}
use lib.ListN.{length}
use Rattle.std.specs.Prelude.{position}
use Rattle.number.specs.Inside.{is_last}
use Rattle.number.proofs.OwnBytes.{past_own, most_taken, up_to_last, all_of_them}
use Rattle.number.proofs.bytes.bytes_at.Goals as goal

pub returns-in_default : goal.returns-in_default
returns-in_default c = let past = c.in_default.ensures.lookup in sym (past_own c.args.file.now c.args.at (omega (arith, past)))

pub returns-in-Some-last_in : goal.returns-in-Some-last_in
returns-in-Some-last_in c =
    let most_is = most_taken c.args.file.now c.args.at _ _ c.in-Some.ensures.lookup.0.2 c.min.ensures in
    sym (up_to_last c.args.file.now c.args.at _ (sym (ap (position is_last) most_is) ∙ sym c.in-Some-last_in.ensures))

pub returns-in-None : goal.returns-in-None
returns-in-None c =
    let most_is = most_taken c.args.file.now c.args.at _ _ c.in-Some.ensures.lookup.0.2 c.min.ensures in
    ap (λ (l : List ℕ). length l) most_is ∙ sym (all_of_them c.args.file.now c.args.at (sym (ap (position is_last) most_is) ∙ sym c.in-None.ensures))
