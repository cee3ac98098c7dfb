-- `reading::whole::verdict` meets its contract: the header decides, then the plants, the segments, the lines and the end. Assumes nothing.
use Rattle.std.proofs.Common.{◌≡◌, ℕ, List, Err, rules, arith, sym, ap, ◌∙◌}
use Rattle.fields.specs.declared.answer.Refusal.{Refusal}
use Rattle.fields.specs.Answers.{Answer, said}
use Rattle.fields.specs.Readers.{each}
use Rattle.fields.specs.Spots.{taking_at}
use Rattle.fields.specs.Reaching.{refused_by}
use Rattle.fields.proofs.Stages.{reads_due}
use Rattle.records.specs.Periods.{period_file, period_verdict}
use Rattle.records.proofs.Parts.{refusal_says, header_stopped, plants_stopped, segments_stopped, lines_stopped, end_says}
use Rattle.reading.proofs.whole.verdict.Goals as goal

-- an answer that passes a refusal on
passed_on : (file : List ℕ) (answer : Answer) (refusal : Refusal) → answer ≡ Err refusal → period_file file ≡ refused_by refusal → said answer ≡ period_verdict file
passed_on file answer refusal is e = ap said is ∙ refusal_says file refusal e

pub returns-in_err-counts : goal.returns-in_err-counts
returns-in_err-counts c =
    let file = c.args.file.now in
    let none = c.in_err-counts in
    passed_on file c.from_residual.result none.field-0.0 (search rules) (header_stopped file (omega arith) _ (sym none.ensures))

pub returns-in_err-first_segment : goal.returns-in_err-first_segment
returns-in_err-first_segment c =
    let file = c.args.file.now in
    let h = c.in_ok-counts in
    let none = c.in_err-first_segment in
    passed_on file c.from_residual-in_err-first_segment.result none.field-0.0 (search rules)
    (plants_stopped file (omega arith) h.counts h.first_plant (sym h.ensures) _ none.ensures)

pub returns-in_err-first_line : goal.returns-in_err-first_line
returns-in_err-first_line c =
    let file = c.args.file.now in
    let h = c.in_ok-counts in
    let p = c.in_ok-first_segment in
    let none = c.in_err-first_line in
    passed_on file c.from_residual-in_err-first_line.result none.field-0.0 (search rules)
    (segments_stopped file (omega arith) h.counts h.first_plant (sym h.ensures) p.ensures.0 p.first_segment p.ensures.1 _ none.ensures)

pub returns-in_err-end : goal.returns-in_err-end
returns-in_err-end c =
    let file = c.args.file.now in
    let h = c.in_ok-counts in
    let p = c.in_ok-first_segment in
    let s = c.in_ok-first_line in
    let none = c.in_err-end in
    passed_on file c.from_residual-in_err-end.result none.field-0.0 (search rules)
    (lines_stopped file (omega arith) h.counts h.first_plant (sym h.ensures) p.ensures.0 p.first_segment p.ensures.1
    s.ensures.0 s.first_line s.ensures.1 _ (reads_due (each _ 1) (taking_at file) s.first_line h.counts.lines none.ensures (omega arith)))

pub returns : goal.returns
returns c =
    let file = c.args.file.now in
    let h = c.in_ok-counts in
    let p = c.in_ok-first_segment in
    let s = c.in_ok-first_line in
    let l = c.in_ok-end in
    c.nothing_after.ensures
    ∙ end_says file (omega arith) h.counts h.first_plant (sym h.ensures) p.ensures.0 p.first_segment p.ensures.1
    s.ensures.0 s.first_line s.ensures.1 l.ensures.0 l.end (reads_due (each _ 1) (taking_at file) s.first_line h.counts.lines l.ensures.1 (omega arith))
