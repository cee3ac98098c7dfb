-- `settling::settling::settle_period` meets its contract: the plants start, the segments are worked in turn, and the accounts are those of the
-- books. Assumes nothing.
use Rattle.std.proofs.Common.{◌≡◌, Err, refl, sym, add-one, arith, rules}
use Rattle.fields.proofs.Answers.{refused_not_accepted}
use Rattle.settling.proofs.BooksAtTurn.{at_start}
use Rattle.settling.proofs.TurnWorked.{turn_worked}
use Rattle.settling.proofs.SettledPeriod.{plants_start, due_within, turned_refused, accountable, all_settled}
use Rattle.settling.proofs.settling.settle_period.Goals as goal

pub start-requires-clause-each : goal.start-requires-clause-each
start-requires-clause-each c = plants_start c.requires

pub loop-s-init : goal.loop-s-init
loop-s-init c = at_start c.requires c.start.ensures

pub work-requires-clause-segment : goal.work-requires-clause-segment
work-requires-clause-segment c = due_within c.requires c.loop-s.s (omega (arith, c.requires.segments_counted))

pub returns-in_err-work : goal.returns-in_err-work
returns-in_err-work c =
    let refusal = c.in_err-work.field-0.0 in
    let is : c.from_residual.result ≡ Err refusal = search rules in
    rw is
    (record {
      settles = turned_refused c.requires c.loop-s.invariant (omega (arith, c.requires.segments_counted)) refusal c.in_err-work.ensures;
      kept = λ why e. refl;
    })

pub loop-s-preserved : goal.loop-s-preserved
loop-s-preserved c =
    let worked = c.in_ok-work.ensures in
    rw add-one (turn_worked c.requires c.loop-s.invariant (omega (arith, c.requires.segments_counted)) worked.1 worked.0)

pub plant_accounts-settled-requires-clause-accountable : goal.plant_accounts-settled-requires-clause-accountable
plant_accounts-settled-requires-clause-accountable c =
    let all : c.loop-s.s ≡ c.args.gathered.now.counts.segments = omega (arith, c.requires.segments_counted) in
    accountable c.requires (rw all at c.loop-s.invariant)

pub returns : goal.returns
returns c =
    let all : c.loop-s.s ≡ c.args.gathered.now.counts.segments = omega (arith, c.requires.segments_counted) in
    record {
      settles = all_settled c.requires (rw all at c.loop-s.invariant) _ _ c.plant_accounts-settled.ensures c.segment_accounts-settled.ensures;
      kept = λ why e. absurd (refused_not_accepted (sym e));
    }
