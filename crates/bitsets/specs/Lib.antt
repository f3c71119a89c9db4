-- Sets of classes as rows of bits, and how a row is found again among those before it.
pub mod Bitrows
pub mod Intern
