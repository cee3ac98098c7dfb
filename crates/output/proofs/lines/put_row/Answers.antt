-- `output::lines::put_row` meets its contract: letter, own number and the row's numbers are one line. Assumes nothing.
use Rattle.output.proofs.Putting.{put_then}
use Rattle.output.proofs.LineByLine.{row_line}
use Rattle.output.proofs.lines.put_row.Goals as goal

pub returns : goal.returns
returns c = rw (← row_line) (put_then (put_then c.put_words-at.ensures c.put_spaced-at.ensures) c.put_line.ensures)
