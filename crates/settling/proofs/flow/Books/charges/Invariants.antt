-- `settling::flow::Books::charges` meets its contract: after each turn they are the charges of the segments passed, each at most the segment's emission. Assumes nothing.
use Rattle.std.proofs.Common.{◌≡◌, ◌*◌, ◌≤◌}
use Rattle.number.specs.Groups.{largest}
use Rattle.settling.specs.Inside.{charges_by}
use Rattle.settling.proofs.flow.Books.charges.Given as goal

abbrev pub invariant-loop-s : goal.invariant-loop-s
invariant-loop-s l = (l.charges ≡ charges_by l.self l.p l.emissions l.s) × (l.charges ≤ l.s * largest)
