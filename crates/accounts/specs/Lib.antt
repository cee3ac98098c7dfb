-- The definitions of the accounts and of the answer to a file, lowest first.

-- the accounts
pub mod Sums
pub mod Emissions
pub mod Flow
pub mod Accounts
pub mod Rows
-- the answer to a file
pub mod Order
pub mod Quantified
-- what the theorems speak of
pub mod AllTests
pub mod Accepted
pub mod OffsetDue
pub mod RowsAndColumns
pub mod Shares
pub mod Routes
pub mod Changes
pub mod OffFuel
