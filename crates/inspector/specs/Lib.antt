-- The reader and its step; a walk.
pub mod Reader
pub mod Walk
-- Which field a number is, and what the theorems say of it.
pub mod FieldsAt
pub mod FieldsTold
