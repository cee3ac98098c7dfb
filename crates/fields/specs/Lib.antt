-- The definitions for files of numbers, lowest first.

-- the reasons to refuse, and what an answer says
pub mod Reasons
pub mod Answers
-- the file: its numbers, read from its front, field by field
pub mod Ranges
pub mod Readers
pub mod Wanting
pub mod Files
-- its tests, each at its place and offset
pub mod Tests
-- a spot in it, what is taken there, and what a reader gives from there on
pub mod Spots
pub mod Reaching
-- lists of records
pub mod Lists
-- a file that is written from a list of numbers
pub mod Written
