-- `period::rows::write_rows` meets its contract: its loop writes rows of one length, whose laws hold for any such rows. Assumes nothing.
use Rattle.std.proofs.Common.{◌≡◌, length, refl, ◌∙◌, rules}
use mathlib.Core.List.{flat_map}
use Rattle.period.proofs.RowsWritten.{writing_start, row_written, rows_end}
use Rattle.period.proofs.rows.write_rows.Goals as goal

pub loop-i-init : goal.loop-i-init
unfolding flat_map
loop-i-init g c = writing_start g.row.N _ _ _ c.requires refl

pub loop-i-preserved : goal.loop-i-preserved
loop-i-preserved g c =
    let long : length c.copy_from_slice.new.self ≡ g.row.N = search rules in
    row_written g.A.Row.numbers c.args.accounts.now c.loop-i.invariant c.loop-i-test.true _ c.index-accounts-i.is (c.copy_from_slice.ensures.after ∙ c.row.ensures) long

pub returns : goal.returns
returns g c = rows_end g.A.Row.numbers c.args.accounts.now c.loop-i.invariant c.loop-i-test.false
