-- What a caller of a step uses.
pub mod Steps
-- The numbers that reading takes: they are the period's, and a walk over the file gives them.
pub mod AcceptedNumbers
mod Endings
mod WalkOverConsumed
pub mod WalkOverFile
pub mod CutFile
-- The field that is named at a place.
pub mod FieldsNamed
pub mod RefusedFields
-- No two outcomes meet a promise.
pub mod Outcome
-- The worked period.
pub mod Examples
