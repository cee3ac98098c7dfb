-- `gathering::totals::Totals::test_captured` meets its contract: before each turn the plants so far passed, and the tests of the others are left. Assumes nothing.
use Rattle.gathering.specs.OwnerTotals.{fuel_test_by}
use Rattle.gathering.proofs.TestsByIndex.{LeftToTest}
use Rattle.gathering.proofs.totals.Totals.test_captured.Given as goal

abbrev pub invariant-loop-p : goal.invariant-loop-p
invariant-loop-p l = LeftToTest (fuel_test_by l.bytes l.self) l.count l.p
