-- The laws of printed text, lowest first.

-- numbers in decimal: as the kit makes them, read back, and how long
pub mod Decimals
-- text in a buffer: one piece after another, and the whole
pub mod Putting
-- lines and rows
pub mod LineByLine
-- how much room they take
pub mod Room
-- no two outcomes meet a promise
pub mod Outcome
