-- Which sets are written as places, and what a formula says of a claim.
pub mod Forced
pub mod Saying
pub mod Lying
