-- `reading::record::fill_records` meets its contract: its loop keeps record after record, each by its own number. Assumes nothing.
use Rattle.std.proofs.Common.{suc, ◌≡◌, ◌<◌, ◌≤◌, length, Err, rules, arith, sym, ap, ◌∙◌, add-one, take_all, take-suc-set}
use Rattle.fields.specs.Spots.{taking_at}
use Rattle.fields.specs.Reaching.{whole}
use Rattle.fields.proofs.Stages.{reads_due, one_passed, one_refused, none_left}
use Rattle.reading.specs.Found.{numbered}
use Rattle.reading.proofs.record.fill_records.Goals as goal

pub returns-in_err-read : goal.returns-in_err-read
returns-in_err-read g c =
    let l = c.loop-index in
    let refusal = c.in_err-read.field-0.0 in
    let is : c.from_residual.result ≡ Err refusal = search rules in
    let due = reads_due (numbered g.R.Record.reader c.args.counts) (taking_at c.args.file.now) l.at (suc l.index) (sym c.in_err-read.ensures) (omega arith) in
    rw is (one_refused l.invariant (omega arith) refusal due)

pub loop-index-preserved : goal.loop-index-preserved
loop-index-preserved g c =
    let l = c.loop-index in
    let one = c.in_ok-read in
    let inside : l.index < length l.records = omega arith in
    let due = reads_due (numbered g.R.Record.reader c.args.counts) (taking_at c.args.file.now) l.at (suc l.index) (sym one.ensures) (omega arith) in
    rw (add-one, take-suc-set l.records l.index one.read inside, ← add-one) (one_passed l.invariant (omega arith) one.read one.next due)

pub returns : goal.returns
returns g c =
    let l = c.loop-index in
    let all : length l.records ≤ l.index = omega arith in
    none_left l.invariant (omega arith) ∙ ap (λ kept. whole kept l.at) (take_all l.index l.records all)
