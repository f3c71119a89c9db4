-- Formulas about places and finite sets of places: the sets, what formulas mean, and the names that are free in them.
pub mod Sets
pub mod Meaning
pub mod Names
