-- The definitions of the period file, lowest first.

-- the records: their limits, and the tests of their fields
pub mod Plants
pub mod Segments
pub mod Classes
pub mod Lines
-- the file: its header and records, read from the front; the numbers that it has
pub mod Headers
pub mod Periods
pub mod Places
pub mod Numbers
pub mod Within
pub mod Held
-- the code's limits and tests in these terms
pub mod Limits
pub mod FieldTests
pub mod Kinds
