-- Spots of a list, and of its file.
pub mod ListSpots
-- A sheet by its parts.
pub mod SheetParts
-- The bytes, one number after another.
pub mod FileWritten
-- What is written, read back, and what is read, written again.
pub mod WrittenPeriods
-- No two outcomes meet a promise.
pub mod Outcome
