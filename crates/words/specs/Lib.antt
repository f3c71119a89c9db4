-- Words of columns, their order, their languages: what the crates above build on.
pub mod Words
pub mod Bits
pub mod Order
pub mod Languages
pub mod Runs
