-- `reading::record::read_record` meets its contract: its loop takes the numbers of one record, whose laws hold for any kind. Assumes nothing.
use Rattle.std.proofs.Common.{◌≡◌, Ok, Err, ◌<◌, rules, arith, sym, ap, ◌∙◌, length-take-le, take-take}
use Rattle.std.proofs.Math.Seq.{take-set-lt}
use Rattle.fields.specs.declared.reason.Reason.{Reason}
use Rattle.fields.specs.Reasons.{number_of}
use Rattle.fields.specs.Answers.{notice}
use Rattle.fields.specs.Reaching.{stopped, stopped_by}
use Rattle.fields.specs.Spots.{taking_at}
use Rattle.fields.proofs.Takes.{taken_is, within_limit}
use Rattle.fields.proofs.OneRecord.{none_taken, next_faulty, next_wrong, next_taken, all_taken}
use Rattle.reading.specs.Found.{record_found}
use Rattle.reading.proofs.record.read_record.Goals as goal

pub loop-f-init : goal.loop-f-init
loop-f-init g c =
    let a = c.args in
    none_taken (g.R.Record.reader a.by) (taking_at a.file.now) a.start g.R.Record.FIELDS _ (length-take-le g.R.Record.FIELDS _ g.met.R.Record.few)

pub returns-in_err-value : goal.returns-in_err-value
returns-in_err-value g c =
    let a = c.args in
    let l = c.loop-f in
    let more : l.f < g.R.Record.FIELDS = omega (arith, c.FIELDS-f-end.ensures) in
    let refusal = c.in_err-value.field-0.0 in
    let is : c.from_residual.result ≡ Err refusal = search rules in
    ap record_found is
    ∙ sym (next_faulty l.invariant g.R.Record.reasons (g.met.R.Record.wants a.by) g.met.R.Record.counted more refusal
    (taken_is {taken = taking_at a.file.now l.at} (Err refusal) c.take.ensures c.in_err-value.was))

pub returns-then-not-allows : goal.returns-then-not-allows
returns-then-not-allows g c =
    let a = c.args in
    let l = c.loop-f in
    let more : l.f < g.R.Record.FIELDS = omega (arith, c.FIELDS-f-end.ensures) in
    let v = c.in_ok-value in
    let front = take-take l.f g.R.Record.FIELDS l.values (omega arith) in
    let wrong = rw (← front) at (sym c.allows.ensures ∙ c.if-not-allows.true) in
    ap stopped_by c.refusal.ensures
    ∙ ap (λ (r : Reason). stopped (notice (number_of r) l.at.place l.at.byte)) c.reason.ensures
    ∙ sym (next_wrong l.invariant g.R.Record.reasons (g.met.R.Record.wants a.by) g.met.R.Record.counted more v.value v.next
    (taken_is {taken = taking_at a.file.now l.at} (Ok (v.value, v.next)) c.take.ensures v.was) wrong)

pub loop-f-preserved : goal.loop-f-preserved
loop-f-preserved g c =
    let a = c.args in
    let l = c.loop-f in
    let more : l.f < g.R.Record.FIELDS = omega (arith, c.FIELDS-f-end.ensures) in
    let v = c.in_ok-value in
    let front = take-take l.f g.R.Record.FIELDS l.values (omega arith) in
    let allowed = rw (← front) at (sym c.allows.ensures ∙ c.if-not-allows.false) in
    let there = taken_is {taken = taking_at a.file.now l.at} (Ok (v.value, v.next)) c.take.ensures v.was in
    rw (take-set-lt g.R.Record.FIELDS l.values l.f v.value more)
    (next_taken l.invariant g.R.Record.reasons (g.met.R.Record.wants a.by) g.met.R.Record.counted more v.value v.next
    there (within_limit a.file.now l.at v.value v.next there) allowed)

pub returns : goal.returns
returns g c =
    let l = c.loop-f in
    sym (all_taken l.invariant _ (omega (arith, c.FIELDS-f-end.ensures)) c.made.ensures)
