-- `number::groups::Groups::gather` meets its contract. The invariant, `Gathers`: the groups that came, before what is still to come, are what is
-- gathered of the whole. Each way out cites the law of its case. Assumes nothing.
use Rattle.number.proofs.Gathering.{Gathers}
use Rattle.number.proofs.groups.Groups.gather.Given as goal

abbrev pub invariant-loop-n : goal.invariant-loop-n
invariant-loop-n l = Gathers l.bytes l.group-items l.n
