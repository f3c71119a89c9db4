-- What is printed: words as rows of marks under a ruler, words as numbers, bytes in hex digits, messages beside their lines.
pub mod Hex
pub mod Columns
pub mod Ends
pub mod Ruler
pub mod Marks
pub mod Beside
