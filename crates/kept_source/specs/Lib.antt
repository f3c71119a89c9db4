-- What is answered of a rule file and the name of something that it claims to be kept.
pub mod Faults
pub mod Named
pub mod Strengthened
