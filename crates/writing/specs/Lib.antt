-- The promises of writing, and what the private functions say to each other.
pub mod Written
pub mod Inside
