-- What formulas say of rows, that it can be told, and what follows for what a step keeps.
pub mod SaysLaws
pub mod KeptLaws
pub mod BreachesLaws
