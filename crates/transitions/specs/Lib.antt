-- Patterns of columns, and where the transitions of a state lead.
pub mod Patterns
