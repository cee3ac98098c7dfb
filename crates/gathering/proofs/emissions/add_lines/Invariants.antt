-- `gathering::emissions::add_lines` meets its contract: each turn of its loop reads one line and adds it, by the laws of the owners' totals. Assumes nothing.
use Rattle.std.proofs.Common.{◌-◌}
use Rattle.gathering.proofs.LinesAdded.{AddingUp}
use Rattle.gathering.proofs.emissions.add_lines.Given as goal

abbrev pub invariant-loop-own : goal.invariant-loop-own
invariant-loop-own l = AddingUp l.file l.initial.at l.counts l.totals l.over l.at (l.own - 1)
