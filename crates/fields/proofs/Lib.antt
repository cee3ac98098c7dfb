-- Laws of sums and of ranges.
pub mod Sums
pub mod Ranges
-- A refusal is no acceptance.
pub mod Answers
-- How a reader goes over a file, field by field.
pub mod FieldByField
pub mod EndOfFile
-- What the code takes, from a spot on: for one field, the numbers of one record, and records one after another.
pub mod Takes
pub mod Reaching
pub mod OneField
pub mod ByIndex
pub mod OneRecord
pub mod Stages
-- What is known along the reading of a file.
pub mod Along
pub mod Consumed
pub mod Offsets
pub mod Fronts
pub mod OverTheRest
-- What is written, read again.
pub mod WrittenFiles
-- Tests in their order, and those that a reader asks of a file.
pub mod Testing
pub mod Asking
-- No two outcomes meet a promise.
pub mod Outcome
