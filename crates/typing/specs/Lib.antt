-- What the programs print, and what the shared functions promise.
pub mod Printed
pub mod Promises
