-- What the states of a diagram say of an automaton.
pub mod Drawn
