-- `number::groups::Groups::value` meets its contract. The invariant, `Forms`: the value so far, and the value of the groups from i on at
-- their weight, are the value of the whole. So nothing formed is larger than that, and nothing wraps. Assumes nothing.
use Prim.Native.Nat.{◌<◌}
use Rattle.number.proofs.Values.{Forms}
use Rattle.number.proofs.groups.Groups.value.Given as goal

abbrev pub invariant-loop-i : goal.invariant-loop-i
invariant-loop-i l = Forms l.self l.value l.weight l.i × (l.i < l.self-inside.count)
