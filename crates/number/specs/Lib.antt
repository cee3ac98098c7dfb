-- What a reader must believe of number reading: Groups, Reading, Finding, Counting and Writing. Inside is for the private functions alone.
pub mod Groups
pub mod Reading
pub mod Finding
pub mod Counting
pub mod Writing
pub mod Inside
