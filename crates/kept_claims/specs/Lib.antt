-- Claims that something is kept by the steps of a rule, and the claims that tell it.
pub mod Kept
pub mod Breach
