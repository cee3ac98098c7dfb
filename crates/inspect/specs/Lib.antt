-- What the program prints.
pub mod Page
