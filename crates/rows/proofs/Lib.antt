-- What the program prints.

-- the text of the answer, by what the call left in its tables
mod AnswerText
-- there is room for it
pub mod TextRoom
-- for files of any length
pub mod AnyFile
-- the worked period, from bytes to text
pub mod Examples
