-- The rows by their accounts, the room in the tables, and what the call answers by the definitions of `accounts`.
pub mod Written
