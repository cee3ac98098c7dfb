-- What reading standard input promises.
pub mod Received
