-- What a file gives before any segment has its turn.
pub mod Gathered
-- What private functions promise: the owners' totals, and the rest.
pub mod OwnerTotals
pub mod Inside
