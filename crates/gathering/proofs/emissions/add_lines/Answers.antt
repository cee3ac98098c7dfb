-- `gathering::emissions::add_lines` meets its contract: each turn of its loop reads one line and adds it, by the laws of the owners' totals. Assumes nothing.
use Rattle.std.proofs.Common.{◌≡◌, ◌+◌, ◌-◌, Err, rules, arith, sym, refl}
use Rattle.gathering.proofs.OwnerTotals.{line_fits, line_owner}
use Rattle.gathering.proofs.LinesAdded.{AddingUp, none_added_lem, one_added}
use Rattle.gathering.proofs.LinesEnded.{line_out, end_out, limit_out, lines_added}
use Rattle.gathering.proofs.emissions.add_lines.Goals.{Left-loop-own, else-loop-own-test, then-loop-own-test+in_ok-line+else-own-own-end}
use Rattle.gathering.proofs.emissions.add_lines.Goals as goal

pub loop-own-init : goal.loop-own-init
loop-own-init c = none_added_lem _ _ _ _ c.requires.none_added c.requires.byte_value

pub returns-in_err-line : goal.returns-in_err-line
returns-in_err-line c =
    let l = c.loop-own in
    let refusal = c.in_err-line.field-0.0 in
    let is : c.from_residual.result ≡ Err refusal = search rules in
    rw is (line_out l.invariant (omega arith) refusal (sym c.in_err-line.ensures))

pub add-total-requires : goal.add-total-requires
add-total-requires c = line_fits _ _ _ _ _ c.requires.counts_within (sym c.in_ok-line.ensures)

pub loop-own-preserved : goal.loop-own-preserved
loop-own-preserved c =
    let l = c.loop-own in
    let one = c.in_ok-line in
    let own : l.own + 1 - 1 ≡ l.own = omega arith in
    let fits = line_fits _ _ _ _ _ c.requires.counts_within (sym one.ensures) in
    rw own (one_added l.invariant (omega arith) one.line one.next (sym one.ensures) _ (line_owner fits refl) l.own (omega arith) _ c.add-total.ensures.with_line
    _ c.add-total.ensures.total _ c.first_over-over.ensures)

-- behind the last line, or if there is none
all_read : (c : Left-loop-own) → AddingUp c.args.file.now c.args.start c.args.counts c.loop-own-test.totals c.loop-own-test.over c.loop-own-test.at c.args.counts.lines
all_read c =
    let l = c.loop-own in
    elim c.loop-own-test.branch [
      | else-loop-own-test w ↦
          let all : l.own - 1 ≡ c.args.counts.lines = omega (arith, l.invariant.read_so_far.within) in
          rw (w.totals-is, w.over-is, w.at-is) (rw all at l.invariant)
      | then-loop-own-test+in_ok-line+else-own-own-end w ↦
          let one = w.in_ok-line in
          let all : l.own ≡ c.args.counts.lines = omega arith in
          let fits = line_fits _ _ _ _ _ c.requires.counts_within (sym one.ensures) in
          rw (w.totals-is, w.over-is, w.at-is) (one_added l.invariant (omega arith) one.line one.next (sym one.ensures) _ (line_owner fits refl) c.args.counts.lines (omega arith)
          _ w.add-total.ensures.with_line _ w.add-total.ensures.total _ (rw all at w.first_over-over.ensures))
    ]

pub returns-in_err-nothing_after : goal.returns-in_err-nothing_after
returns-in_err-nothing_after c =
    let refusal = c.in_err-nothing_after.field-0.0 in
    let is : c.from_residual-in_err-nothing_after.result ≡ Err refusal = search rules in
    rw is (end_out (all_read (goal.at.returns-in_err-nothing_after c).Left-loop-own) (omega arith) refusal c.in_err-nothing_after.ensures)

pub returns-in-None : goal.returns-in-None
returns-in-None c = lines_added (all_read (goal.at.returns-in-None c).Left-loop-own) (omega arith) c.in_ok-nothing_after.ensures c.in-None.is

pub returns-in-Some : goal.returns-in-Some
returns-in-Some c =
    rw c.refusal.ensures
    (limit_out (all_read (goal.at.returns-in-Some c).Left-loop-own) (omega arith) c.in_ok-nothing_after.ensures c.in-Some.first c.in-Some.is)
