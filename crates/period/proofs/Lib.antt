-- The rows, written one after another, which the C entry does too.
pub mod RowsWritten
mod RowsOfAccounts
-- What is refused, and why; and the whole call.
pub mod Refusing
pub mod Answering
-- No two outcomes meet the promise of the call; what an accepting call leaves in the lent tables.
pub mod Outcome
pub mod LentTables
