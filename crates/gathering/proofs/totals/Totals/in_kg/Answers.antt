-- `gathering::totals::Totals::in_kg` meets its contract: before each turn the owners' totals so far stand in kg. Assumes nothing.
use Rattle.std.proofs.Common.{arith}
use Rattle.records.specs.Segments.{most_segments}
use Rattle.gathering.proofs.Listing.{filling_start, filling_on}
use Rattle.gathering.proofs.totals.Totals.in_kg.Goals as goal

pub loop-o-init : goal.loop-o-init
loop-o-init c = filling_start 0 most_segments _

pub loop-o-preserved : goal.loop-o-preserved
loop-o-preserved c =
    let l = c.loop-o in
    filling_on 0 most_segments _ l.kg l.o _ l.invariant (omega arith) c.less_captured.ensures
