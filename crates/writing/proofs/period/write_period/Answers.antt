-- `writing::period::write_period` meets its contract: the list is tested as its file is read, and then written. Assumes nothing.
use Rattle.std.proofs.Common.{◌≡◌, Err, rules}
use Rattle.records.specs.Periods.{period, period_file}
use Rattle.writing.proofs.FileWritten.{refused_so, tested_so}
use Rattle.writing.proofs.period.write_period.Goals as goal

pub returns-in_err-bytes : goal.returns-in_err-bytes
unfolding period_file
returns-in_err-bytes c =
    let is : c.from_residual.result ≡ Err c.in_err-bytes.field-0.0 = search rules in
    rw is (refused_so period _ _ c.in_err-bytes.ensures)

pub returns : goal.returns
unfolding period_file
returns c = tested_so period _ _ c.in_ok-bytes.ensures c.write_file.ensures
