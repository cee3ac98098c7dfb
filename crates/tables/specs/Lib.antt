-- The rows that are written into a table of bytes.
pub mod Rows
