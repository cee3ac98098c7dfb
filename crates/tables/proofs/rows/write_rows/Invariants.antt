-- `tables::rows::write_rows` meets its contract: its loop writes the bytes of one row after another. Assumes nothing.
use Rattle.std.proofs.Common.{◌*◌, length}
use Rattle.period.proofs.RowsWritten.{Writing}
use Rattle.plain.specs.Bytes.{number_bytes}
use Rattle.tables.proofs.RowsInBytes.{first_bytes}
use Rattle.tables.proofs.rows.write_rows.Given as goal

abbrev pub invariant-loop-i : goal.invariant-loop-i
invariant-loop-i g l = Writing (number_bytes * g.row.N) (first_bytes g.A.Row.numbers l.account-items) (length l.account-items) l.initial.table l.table l.i
