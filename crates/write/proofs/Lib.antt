-- What the program prints.

-- every accepted period's file has room
pub mod FileFits
-- for texts of any length
pub mod AnyFile
-- texts, from bytes to what is printed
pub mod Examples
