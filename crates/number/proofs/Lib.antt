-- The laws of number reading. The layers above cite Laws, Counting, Writing and Outcome; the others serve these and the functions' proofs.
pub mod Laws
pub mod Counting
-- The bytes that belong to a number.
pub mod OwnBytes
pub mod Writing
pub mod WrittenSizes
pub mod WrittenOut
pub mod Outcome
pub mod Examples
mod Gathering
mod FrontGroups
mod Values
mod Forming
mod Findings
