-- What is said of ring claims, and how they become row claims.
pub mod Put
pub mod Made
pub mod Says
