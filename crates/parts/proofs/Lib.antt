-- The parts of a formula are smaller than it is.
pub mod PartsLaws
