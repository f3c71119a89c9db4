-- Which words are a table.
pub mod Checked
