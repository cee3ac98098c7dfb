-- What callers use after reading.
pub mod BytesRead
