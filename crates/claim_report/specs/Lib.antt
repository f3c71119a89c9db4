-- What is printed of an answer; the smallest automaton of a claim.
pub mod Told
pub mod Subjects
pub mod Named
pub mod Placed
pub mod Reported
pub mod Drawn
