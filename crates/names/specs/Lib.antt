-- The words for fields.
pub mod FieldWords
