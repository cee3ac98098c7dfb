-- Plain numbers in bytes: written, and read back.
pub mod EightBytes
pub mod NumbersInBytes
-- No two outcomes meet a promise.
pub mod Outcome
