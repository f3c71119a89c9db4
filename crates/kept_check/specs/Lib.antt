-- What an answer on a claim says, that something is kept.
pub mod Parts
pub mod Found
pub mod Told
