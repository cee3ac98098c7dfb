-- `settling::settling::settle_period` meets its contract: the plants start, the segments are worked in turn, and the accounts are those of the
-- books. Assumes nothing.
use Rattle.settling.proofs.BooksAtTurn.{AtTurn}
use Rattle.settling.proofs.settling.settle_period.Given as goal

abbrev pub invariant-loop-s : goal.invariant-loop-s
invariant-loop-s l = AtTurn l.gathered l.s l.books
