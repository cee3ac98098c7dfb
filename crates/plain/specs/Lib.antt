-- Plain numbers in bytes.
pub mod Bytes
