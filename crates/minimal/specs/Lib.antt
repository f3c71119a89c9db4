-- What an automaton is read as, and that it is the smallest of a claim.
pub mod View
pub mod Minimal
