-- The claim that is made of a formula: the numbers that names' sets take, the claim, and what is proved of it.
pub mod Numbers
pub mod OnePlace
pub mod Translation
pub mod Settles
