-- `number::shortest::write_at` meets its contract: the whole form is written, or nothing. Assumes nothing.
use Prim.Native.Nat.{◌+◌, ◌≤◌}
use mathlib.Core.Path.{sym, ◌∙◌}
use lib.ListN.{length}
use borrow.Author.Tests.{leb-true, leb-false}
use Rattle.number.specs.Writing.{written}
use Rattle.number.proofs.WrittenOut.{no_room, whole_out}
use Rattle.number.proofs.shortest.write_at.Goals as goal

pub returns-then-not-has_room : goal.returns-then-not-has_room
returns-then-not-has_room c =
    let a = c.args in
    let told = c.has_room in
    no_room a.value a.at a.buffer.now (leb-false (a.at + length (written a.value)) (length a.buffer.now) (sym told.ensures ∙ c.if-not-has_room.true))

pub write_groups-requires : goal.write_groups-requires
write_groups-requires c =
    let a = c.args in
    let told = c.has_room in
    leb-true (a.at + length (written a.value)) (length a.buffer.now) (sym told.ensures ∙ c.if-not-has_room.false)

pub returns : goal.returns
returns c =
    let a = c.args in
    let told = c.has_room in
    let room : a.at + length (written a.value) ≤ length a.buffer.now =
    leb-true (a.at + length (written a.value)) (length a.buffer.now) (sym told.ensures ∙ c.if-not-has_room.false) in
    let wrote = c.write_groups.ensures in
    whole_out a.value a.at a.buffer.now room _ _ wrote.value wrote.buffer_after
