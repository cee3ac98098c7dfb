-- `plain::fill_row` meets its contract: so far n numbers of the row are written. Assumes nothing.
use Rattle.plain.proofs.NumbersInBytes.{RowWritten}
use Rattle.plain.proofs.fill_row.Given as goal

abbrev pub invariant-loop-n : goal.invariant-loop-n
invariant-loop-n l = RowWritten l.initial.table l.at l.row l.table l.n
