-- A claim that is kept together with the fewest claims of a list, and what one row tells of many choices of these.
pub mod Choices
pub mod Search
pub mod Pruning
pub mod Laws
