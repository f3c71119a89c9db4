-- What stands in a picture: which rectangles are coloured, and where they lie.
pub mod Rows
pub mod Places
pub mod Drawn
pub mod Escapes
