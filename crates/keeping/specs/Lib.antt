-- What a step keeps, the rows that show that it does not, and the claims that tell of them.
pub mod Kept
pub mod Breaches
pub mod Laws
