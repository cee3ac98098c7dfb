-- `number::shortest::write_groups` meets its contract: a group is written a turn. Assumes nothing.
use Rattle.number.proofs.WrittenOut.{WrittenOut}
use Rattle.number.proofs.shortest.write_groups.Given as goal

abbrev pub invariant-loop-n : goal.invariant-loop-n
invariant-loop-n l = WrittenOut l.initial.buffer l.at l.value l.buffer l.left l.n
