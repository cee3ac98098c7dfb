-- `settling::flow::Books::start` meets its contract: its loop puts one plant after another to its start. Assumes nothing.
use Rattle.settling.proofs.Starting.{AtStart}
use Rattle.settling.proofs.flow.Books.start.Given as goal

abbrev pub invariant-loop-p : goal.invariant-loop-p
invariant-loop-p l = AtStart l.plants l.p l.self
