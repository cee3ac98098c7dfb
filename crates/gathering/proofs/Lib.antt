-- What is listed index by index, and tests put so; records kept column by column.
pub mod Listing
mod TestsByIndex
mod Keeping
-- The owners' totals, and the loop that adds up the lines.
mod OwnerTotals
mod LinesAdded
mod LinesEnded
mod OwnersEmit
-- The file, part by part.
mod Answering
-- What a file is that is accepted; no two outcomes meet the promise of the call.
pub mod Accepting
pub mod Outcome
