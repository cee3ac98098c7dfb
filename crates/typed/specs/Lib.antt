-- Typed text, byte by byte.
pub mod Text
-- What the public functions promise of it, and what the private ones say to each other.
pub mod Promises
pub mod Inside
