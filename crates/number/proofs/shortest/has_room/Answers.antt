-- `number::shortest::has_room` meets its contract: no number has more bytes than the most groups. Assumes nothing.
use Prim.Native.Nat.{ℕ, ◌+◌, ◌-◌}
use mathlib.Core.Path.{sym, ap, ◌∙◌}
use native.Mathlib.Omega.{arith}
use lib.Dec.{leb}
use lib.ListN.{length}
use borrow.Author.Tests.{le-leb, lt-leb}
use Rattle.number.specs.Writing.{written}
use Rattle.number.proofs.WrittenSizes.{five_bytes}
use Rattle.number.proofs.WrittenOut.{fits_behind}
use Rattle.number.proofs.shortest.has_room.Goals as goal

pub returns-then-bytes-at : goal.returns-then-bytes-at
returns-then-bytes-at c =
    let a = c.args in
    sym (lt-leb (a.at + length (written a.value)) a.bytes (omega arith))

pub returns-then-left-ge-GROUPS : goal.returns-then-left-ge-GROUPS
returns-then-left-ge-GROUPS c =
    let a = c.args in
    le-leb _ _ c.if-left-ge-GROUPS.true ∙ sym (le-leb (a.at + length (written a.value)) a.bytes (omega (arith, five_bytes a.value)))

pub returns-else-left-ge-GROUPS : goal.returns-else-left-ge-GROUPS
returns-else-left-ge-GROUPS c =
    let a = c.args in
    ap (λ (n : ℕ). leb n (a.bytes - a.at)) c.size_of.ensures ∙ fits_behind a.at (length (written a.value)) a.bytes (omega arith)
