-- The tests of fields, the rule of the class table, and the fields of each record by their index.
mod FieldRanges
mod Table
pub mod Classes
pub mod HeaderFields
pub mod RecordFields
-- What was read of a file from a spot on, by its limits; and a period by its parts.
pub mod RecordsWithin
pub mod Parts
-- What is known along the reading of a period: what a file that was read holds, and how long it is.
pub mod PeriodAlong
pub mod Within
pub mod Longest
pub mod Starts
pub mod ExtraBytes
pub mod NumbersConsumed
-- No two outcomes meet a promise.
pub mod Outcome
