-- The definitions of what is printed, lowest first.

-- quoted text as bytes, a number in decimal, and bytes in hexadecimal
pub mod Words
pub mod Decimal
pub mod Hexadecimal
-- lines of words and numbers, the R line and the rows of a table
pub mod Lines
-- text in a buffer, a `Text`'s room or a lent one: what the functions promise
pub mod Put
-- what is answered when it is handed over
pub mod HandedOver
