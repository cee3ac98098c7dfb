-- No two outcomes meet a promise.
pub mod Outcome
