-- `writing::period::test_records` meets its contract: its loop passes one record after another and keeps none. Assumes nothing.
use Rattle.std.proofs.Common.{suc, ◌≡◌, Err, rules, arith}
use Rattle.fields.specs.Spots.{taking_at}
use Rattle.fields.specs.Written.{file_of}
use Rattle.fields.proofs.Stages.{reads_due, one_passed, one_refused, none_left}
use Rattle.plain.specs.Bytes.{table_numbers}
use Rattle.writing.specs.Inside.{by_number}
use Rattle.writing.proofs.period.test_records.Goals as goal

pub returns-in_err-next : goal.returns-in_err-next
returns-in_err-next g c =
    let l = c.loop-n in
    let refusal = c.in_err-next.field-0.0 in
    let is : c.from_residual.result ≡ Err refusal = search rules in
    let file = file_of (table_numbers c.args.numbers.now) in
    let due = reads_due (by_number g.R.Record.reader c.args.counts) (taking_at file) l.at (suc l.n) c.in_err-next.ensures (omega arith) in
    rw is (one_refused l.invariant.passed.1 (omega arith) refusal due)

pub loop-n-preserved : goal.loop-n-preserved
loop-n-preserved g c =
    let l = c.loop-n in
    let came = c.in_ok-next.ensures in
    let file = file_of (table_numbers c.args.numbers.now) in
    let due = reads_due (by_number g.R.Record.reader c.args.counts) (taking_at file) l.at (suc l.n) came.1 (omega arith) in
    record { here = came.0; passed = (_, one_passed l.invariant.passed.1 (omega arith) _ c.in_ok-next.next due) }

pub returns : goal.returns
returns g c =
    let so_far = c.loop-n.invariant in
    (so_far.here, (so_far.passed.0, none_left so_far.passed.1 (omega arith)))
