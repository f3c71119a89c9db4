-- What is said of row claims, and how they become claims about sets.
pub mod Put
pub mod Made
pub mod Finding
pub mod Says
