-- How names are given to what a claim binds.
pub mod Called
