-- `writing::bytes::write_numbers` meets its contract: a number is written a turn, behind those before it. Assumes nothing.
use Rattle.std.proofs.Common.{arith, ◌≤◌}
use Rattle.writing.proofs.ListSpots.{listed_length}
use Rattle.writing.proofs.FileWritten.{none_filled, one_filled, all_filled}
use Rattle.writing.proofs.bytes.write_numbers.Goals as goal

pub loop-n-init : goal.loop-n-init
loop-n-init c = none_filled _ _

pub loop-n-preserved : goal.loop-n-preserved
loop-n-preserved c =
    let l = c.loop-n in
    one_filled _ _ l.invariant (omega (arith, listed_length c.args.numbers.now, c.room-n-end.ensures)) c.requires
    _ _ _ c.plain_at.ensures c.write_at-at.ensures

pub returns : goal.returns
returns c = all_filled _ _ c.loop-n.invariant (omega (arith, listed_length c.args.numbers.now, c.room-n-end.ensures)) c.requires
