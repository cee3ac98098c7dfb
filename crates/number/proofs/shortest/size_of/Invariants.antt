-- `number::shortest::size_of` meets its contract: a group is counted a turn, and n - 1 are before the n-th. Assumes nothing.
use Prim.Native.Nat.{◌-◌}
use Rattle.number.proofs.WrittenOut.{Counted}
use Rattle.number.proofs.shortest.size_of.Given as goal

abbrev pub invariant-loop-n : goal.invariant-loop-n
invariant-loop-n l = Counted l.value l.rest (l.n - 1)
