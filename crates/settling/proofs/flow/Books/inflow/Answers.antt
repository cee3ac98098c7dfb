-- `settling::flow::Books::inflow` meets its contract: what the plants so far bring, and what the others bring, is the inflow. Assumes nothing.
use Rattle.std.proofs.Common.{◌≡◌, [], drop, add-one, arith}
use Rattle.fields.specs.Lists.{sum}
use Rattle.settling.specs.Books.{column}
use Rattle.settling.proofs.Columns.{column_next, column_end}
use Rattle.settling.proofs.flow.Books.inflow.Goals as goal

pub loop-row-preserved : goal.loop-row-preserved
unfolding sum
loop-row-preserved c =
    let books = c.args.self.now in
    let l = c.loop-row in
    (rw (add-one l.row-index) (omega (arith, rw (column_next books c.args.s l.row-index (omega arith)) at l.invariant.0)), omega arith)

pub returns : goal.returns
unfolding sum
returns c =
    let books = c.args.self.now in
    let l = c.loop-row in
    let none_left : drop l.row-index (column books c.args.s) ≡ [] = column_end books c.args.s l.row-index (omega arith) in
    omega (arith, rw none_left at l.invariant.0)
