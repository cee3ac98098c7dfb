-- `gathering::totals::Totals::in_kg` meets its contract: before each turn the owners' totals so far stand in kg. Assumes nothing.
use Rattle.std.proofs.Common.{ℕ, ◌+◌, get_or}
use Rattle.records.specs.Segments.{most_segments}
use Rattle.accounts.specs.Emissions.{less_captured}
use Rattle.gathering.proofs.Listing.{Filling}
use Rattle.gathering.proofs.totals.Totals.in_kg.Given as goal

abbrev pub invariant-loop-o : goal.invariant-loop-o
invariant-loop-o l =
    Filling 0 most_segments (λ (q : ℕ). less_captured (get_or l.self.added (l.first + q) 0) (get_or l.self.captured (l.first + q) 0)) l.kg l.o
