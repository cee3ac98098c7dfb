-- `output::lines::put_line` meets its contract: each turn puts one number more. Assumes nothing.
use mathlib.Core.List.{flat_map}
use Rattle.output.specs.Lines.{spaced, text_line}
use Rattle.output.proofs.Putting.{put_nothing, put_then}
use Rattle.output.proofs.LineByLine.{one_more, all_put}
use Rattle.output.proofs.lines.put_line.Goals as goal

pub loop-number-init : goal.loop-number-init
unfolding flat_map
loop-number-init c = put_nothing c.put_words-end.ensures

pub loop-number-preserved : goal.loop-number-preserved
loop-number-preserved c =
    let l = c.loop-number in
    one_more spaced c.args.numbers.now l.number-index c.loop-number-test.true l.invariant c.put_spaced-end.ensures

pub returns : goal.returns
unfolding text_line
returns c =
    let l = c.loop-number in
    let numbers = all_put spaced c.args.numbers.now l.number-index c.loop-number-test.false l.invariant in
    put_then (put_then c.put_words-end.ensures numbers) c.put_byte.ensures
