-- `reading::whole::pass_records` meets its contract: its loop passes record after record, each by its own number, and keeps none. Assumes nothing.
use Rattle.std.proofs.Common.{◌≡◌, suc, ◌+◌, ◌-◌, [], ◌∷◌, ◌++◌, Err, rules, arith, sym}
use Rattle.fields.proofs.Stages.{one_passed, one_refused, none_left}
use Rattle.reading.proofs.whole.pass_records.Goals as goal

pub returns-in_err-next : goal.returns-in_err-next
returns-in_err-next g c =
    let l = c.loop-own in
    let refusal = c.in_err-next.field-0.0 in
    let is : c.from_residual.result ≡ Err refusal = search rules in
    let own : suc (l.own - 1) ≡ l.own = omega arith in
    rw is (one_refused l.invariant.1 (omega arith) refusal (rw own (sym c.in_err-next.ensures)))

pub loop-own-preserved : goal.loop-own-preserved
loop-own-preserved g c =
    let l = c.loop-own in
    let one = c.in_ok-next in
    let own : suc (l.own - 1) ≡ l.own = omega arith in
    let behind : l.own + 1 - 1 ≡ l.own - 1 + 1 = omega arith in
    (l.invariant.0 ++ (one.field-0-0 ∷ []), rw behind (one_passed l.invariant.1 (omega arith) one.field-0-0 one.next (rw own (sym one.ensures))))

-- behind the last record
pub returns-in_ok-next : goal.returns-in_ok-next
returns-in_ok-next g c =
    let l = c.loop-own in
    let one = c.in_ok-next in
    let own : suc (l.own - 1) ≡ l.own = omega arith in (
      l.invariant.0 ++ (one.field-0-0 ∷ []),
      none_left (one_passed l.invariant.1 (omega arith) one.field-0-0 one.next (rw own (sym one.ensures))) (omega arith),
    )

-- there is none
pub returns : goal.returns
returns g c =
    let so_far = c.loop-own.invariant in
    (so_far.0, none_left so_far.1 (omega arith))
