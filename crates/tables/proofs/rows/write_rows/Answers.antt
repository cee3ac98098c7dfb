-- `tables::rows::write_rows` meets its contract: its loop writes the bytes of one row after another. Assumes nothing.
use Rattle.std.proofs.Common.{◌≡◌, min, length, rules, arith}
use Rattle.std.proofs.lemmas.List.{length-take, take_min}
use Rattle.tables.specs.Rows.{rows_there}
use Rattle.tables.proofs.RowsInBytes.{bytes_start, bytes_on, bytes_end}
use Rattle.tables.proofs.rows.write_rows.Goals as goal

-- Which rows there are, and where each begins, is shown by `grind`, which goes into both branches of an `if`: an edit that is wrong of one kind alone
-- is refused for that.
pub loop-i-init : goal.loop-i-init
loop-i-init g c =
    let so_many : c.min-rows.result ≡ min (rows_there g.row.N c.args.table.now) (length c.args.accounts.now) = grind arith in
    bytes_start g.A.Row.numbers _ g.row.N (omega (arith, length-take c.min-rows.result c.args.accounts.now, so_many))

pub loop-i-preserved : goal.loop-i-preserved
loop-i-preserved g c =
    let long : length c.row.result ≡ g.row.N = search rules in
    bytes_on g.A.Row.numbers _ g.row.N c.loop-i.invariant c.loop-i-test.true _ c.account-item.is c.row.ensures long _ (grind arith) _ c.write_row.ensures

pub returns : goal.returns
returns g c =
    let so_many : c.min-rows.result ≡ min (rows_there g.row.N c.args.table.now) (length c.args.accounts.now) = grind arith in
    rw (← take_min, ← so_many) (bytes_end g.A.Row.numbers _ g.row.N c.loop-i.invariant c.loop-i-test.false)
