-- Rows in a table of bytes.
pub mod RowsInBytes
-- A table of bytes, read as numbers.
pub mod ReadBack
-- No two outcomes meet a promise.
pub mod Outcome
