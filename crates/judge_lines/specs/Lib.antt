-- What the line tool prints.
pub mod Answers
