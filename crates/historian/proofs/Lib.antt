-- What the entry leaves in the tables.
mod Tables
-- No two outcomes meet a promise.
pub mod Outcome
-- The tables of the C caller, read as numbers.
pub mod LentBytes
-- What a C caller finds of a sheet.
pub mod SheetFigures
-- What a C caller's list is refused for, and what its file can be.
pub mod WrittenLists
