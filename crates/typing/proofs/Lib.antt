-- What comes of a text, and what is printed for it.

-- a stray byte of a text is the first, and within it
pub mod TextListed
-- there is room for the numbers
pub mod Rooms
-- what is printed stands in the buffer
pub mod TextHeld
-- texts of any length
pub mod AnyText
-- no two outcomes meet a promise
pub mod Outcome
