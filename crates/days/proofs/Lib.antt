-- What the program prints.

-- there is room for it
pub mod TextRoom
-- for sheets of any length
pub mod AnyFile
-- sheets, from bytes to text
pub mod Examples
