-- `output::lines::put_rows` meets its contract: each turn puts one row more. Assumes nothing.
use Rattle.std.proofs.Common.{◌≡◌}
use Rattle.output.proofs.LineByLine.{RowsPut}
use Rattle.output.proofs.lines.put_rows.Given as goal

abbrev pub invariant-loop-index : goal.invariant-loop-index
invariant-loop-index l =
    let left = l.index-iterator in
    (left.iter.size ≡ l.width) × RowsPut l.letter l.width l.table l.initial.end l.initial.buffer left.iter.rest.now left.count l.end l.buffer
