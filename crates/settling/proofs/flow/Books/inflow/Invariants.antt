-- `settling::flow::Books::inflow` meets its contract: what the plants so far bring, and what the others bring, is the inflow. Assumes nothing.
use Rattle.std.proofs.Common.{◌≡◌, ◌+◌, ◌*◌, ◌^◌, ◌≤◌, drop}
use Rattle.fields.specs.Lists.{sum}
use Rattle.settling.specs.Books.{column}
use Rattle.settling.proofs.flow.Books.inflow.Given as goal

abbrev pub invariant-loop-row : goal.invariant-loop-row
invariant-loop-row l = (l.inflow + sum (drop l.row-index (column l.self l.s)) ≡ sum (column l.self l.s)) × (l.inflow ≤ l.row-index * 2 ^ 32)
