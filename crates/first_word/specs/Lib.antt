-- What is found of a claim.
pub mod Finding
