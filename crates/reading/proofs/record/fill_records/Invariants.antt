-- `reading::record::fill_records` meets its contract: its loop keeps record after record, each by its own number. Assumes nothing.
use Rattle.std.proofs.Common.{length, take}
use Rattle.fields.specs.Spots.{taking_at}
use Rattle.fields.proofs.Stages.{Passed}
use Rattle.reading.specs.Found.{numbered}
use Rattle.reading.proofs.record.fill_records.Given as goal

-- those in front are the records that have passed
abbrev pub invariant-loop-index : goal.invariant-loop-index
invariant-loop-index g l =
    Passed (numbered g.R.Record.reader l.counts) (taking_at l.file) l.initial.at (length l.initial.records) (take l.index l.records) l.at l.index
