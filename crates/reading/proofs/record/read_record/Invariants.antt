-- `reading::record::read_record` meets its contract: its loop takes the numbers of one record, whose laws hold for any kind. Assumes nothing.
use Rattle.std.proofs.Common.{take}
use Rattle.fields.specs.Spots.{taking_at}
use Rattle.fields.proofs.OneRecord.{Numbers}
use Rattle.reading.proofs.record.read_record.Given as goal

abbrev pub invariant-loop-f : goal.invariant-loop-f
invariant-loop-f g l =
    Numbers (g.R.Record.reader l.by) (taking_at l.file) l.initial.at g.R.Record.FIELDS (take g.R.Record.FIELDS l.values) l.at l.f
