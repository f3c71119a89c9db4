-- The first words of a table: read off the last step of each, and which of them stand first.
pub mod Spell
pub mod First
