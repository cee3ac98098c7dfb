-- `writing::record::test_record` meets its contract: its loop takes the numbers of one record from the list's file, whose laws hold for any kind. Assumes nothing.
use Rattle.std.proofs.Common.{◌≡◌, ℕ, List, Err, ◌<◌, rules, arith, sym, ap, ◌∙◌, length-take-le, take-take}
use Rattle.std.proofs.Math.Seq.{take-set-lt}
use Rattle.fields.specs.declared.reason.Reason.{Reason}
use Rattle.fields.specs.Reasons.{number_of}
use Rattle.fields.specs.Answers.{notice}
use Rattle.fields.specs.Readers.{allows_next, onward}
use Rattle.fields.specs.Reaching.{stopped, stopped_by}
use Rattle.fields.specs.Written.{file_of}
use Rattle.fields.proofs.Takes.{within_limit}
use Rattle.fields.proofs.OneRecord.{none_taken, next_faulty, next_wrong, next_taken, all_taken}
use Rattle.plain.specs.Bytes.{table_numbers}
use Rattle.writing.proofs.record.test_record.Goals as goal

pub loop-f-init : goal.loop-f-init
loop-f-init g c = record {
  here = c.requires;
  taken = none_taken _ _ _ g.R.Record.FIELDS _ (length-take-le g.R.Record.FIELDS _ g.met.R.Record.few);
}

pub returns-in_err-value : goal.returns-in_err-value
returns-in_err-value g c =
    let l = c.loop-f in
    let more : l.f < g.R.Record.FIELDS = omega (arith, c.FIELDS-f-end.ensures) in
    let refusal = c.in_err-value.field-0.0 in
    let is : c.from_residual.result ≡ Err refusal = search rules in
    rw is
    (next_faulty l.invariant.taken g.R.Record.reasons (g.met.R.Record.wants c.args.by) g.met.R.Record.counted more refusal
    (sym c.in_err-value.ensures.is))

pub returns-then-not-allows : goal.returns-then-not-allows
returns-then-not-allows g c =
    let l = c.loop-f in
    let more : l.f < g.R.Record.FIELDS = omega (arith, c.FIELDS-f-end.ensures) in
    let v = c.in_ok-value in
    let front = take-take l.f g.R.Record.FIELDS l.values (omega arith) in
    let as_tested = ap (λ (earlier : List ℕ). allows_next (onward (g.R.Record.reader c.args.by) earlier) v.value) front in
    let wrong = as_tested ∙ sym c.allows.ensures ∙ c.if-not-allows.true in
    next_wrong l.invariant.taken g.R.Record.reasons (g.met.R.Record.wants c.args.by) g.met.R.Record.counted more v.value v.next
    (sym v.ensures.is) wrong
    ∙ ap (λ (r : Reason). stopped (notice (number_of r) l.at.place l.at.byte)) (sym c.reason.ensures)
    ∙ sym (ap stopped_by c.refusal.ensures)

pub loop-f-preserved : goal.loop-f-preserved
loop-f-preserved g c =
    let l = c.loop-f in
    let more : l.f < g.R.Record.FIELDS = omega (arith, c.FIELDS-f-end.ensures) in
    let v = c.in_ok-value in
    let front = take-take l.f g.R.Record.FIELDS l.values (omega arith) in
    let as_tested = ap (λ (earlier : List ℕ). allows_next (onward (g.R.Record.reader c.args.by) earlier) v.value) front in
    let allowed = as_tested ∙ sym c.allows.ensures ∙ c.if-not-allows.false in
    record {
      here = v.ensures.next_at;
      taken =
          rw (take-set-lt g.R.Record.FIELDS l.values l.f v.value more)
          (next_taken l.invariant.taken g.R.Record.reasons (g.met.R.Record.wants c.args.by) g.met.R.Record.counted more v.value v.next
          (sym v.ensures.is) (within_limit (file_of (table_numbers c.args.numbers.now)) l.at v.value v.next (sym v.ensures.is)) allowed);
    }

pub returns : goal.returns
returns g c =
    let l = c.loop-f in
    (l.invariant.here, all_taken l.invariant.taken _ (omega (arith, c.FIELDS-f-end.ensures)) c.made.ensures)
