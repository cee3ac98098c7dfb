-- A digit's byte, and the next byte of a text.
pub mod Digits
pub mod NextByte
-- The bytes of a text, one after another: up to the first stray one and up to a number's start; and numbers in a list.
pub mod UpToStray
pub mod UpToStart
pub mod Listing
-- As many numbers start as there are, each with a digit.
pub mod AsManyStarts
pub mod StartsAtDigits
-- The numbers listed one after another.
pub mod NumberByNumber
-- How many these can be.
pub mod FewNumbers
-- A number is its decimal value, unless it is over the limit; so each fits 64 bits, and is read back from the list.
pub mod WithinLimit
pub mod ReadBack
-- The numbers of a text are those of its lines.
pub mod LineByLine
-- No two outcomes meet a promise.
pub mod Outcome
-- Texts worked out by hand.
pub mod Examples
