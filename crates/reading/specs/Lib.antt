-- What the code found, in the terms of the definitions of the period file.
pub mod Found
pub mod Inside
