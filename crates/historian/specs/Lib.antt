-- The promises of the three calls from C.
pub mod Tables
pub mod Sheets
pub mod Lists
