-- `period::rows::write_rows` meets its contract: its loop writes rows of one length, whose laws hold for any such rows. Assumes nothing.
use Rattle.std.proofs.Common.{length}
use Rattle.period.proofs.RowsWritten.{Writing, first_rows}
use Rattle.period.proofs.rows.write_rows.Given as goal

abbrev pub invariant-loop-i : goal.invariant-loop-i
invariant-loop-i g l = Writing g.row.N (first_rows g.A.Row.numbers l.accounts) (length l.accounts) l.initial.table l.table l.i
