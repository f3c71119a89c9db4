-- The parts of a formula, as they stand in a text and as formulas over numbers.
pub mod Parts
