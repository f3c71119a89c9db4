-- Rust's types of rules, what they are in the theory, what is asked of its rows, and the claims that tell it.
pub mod Changed
pub mod Local
pub mod Numbers
pub mod Sound
pub mod Property
