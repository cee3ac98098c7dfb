-- What a file gives before any table is looked at.
pub mod Settled
-- What private functions promise: the books while the segments are worked, and the rest.
pub mod Books
pub mod Inside
