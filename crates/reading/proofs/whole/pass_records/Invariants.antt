-- `reading::whole::pass_records` meets its contract: its loop passes record after record, each by its own number, and keeps none. Assumes nothing.
use Rattle.std.proofs.Common.{◌-◌, List}
use Rattle.fields.specs.Spots.{taking_at}
use Rattle.fields.proofs.Stages.{Passed}
use Rattle.reading.specs.Found.{numbered}
use Rattle.reading.proofs.whole.pass_records.Given as goal

-- some records have passed, whichever they were
abbrev pub invariant-loop-own : goal.invariant-loop-own
invariant-loop-own g l =
    (done : List g.row.R.Denot) × Passed (numbered g.R.Record.reader l.counts) (taking_at l.file) l.initial.at l.count done l.at (l.own - 1)
