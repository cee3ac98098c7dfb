-- Laws of the words for fields.
pub mod FieldNames
