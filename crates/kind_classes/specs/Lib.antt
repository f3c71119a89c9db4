-- How many classes claims without parts have.
pub mod EqualSets
pub mod Counted
