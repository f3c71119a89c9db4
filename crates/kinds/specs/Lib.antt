-- Claims without parts: what each kind says of sets, its machine, and the one form in which other
-- crates know them; their bytes.
pub mod Relations
pub mod Counts
pub mod Meaning
pub mod Machines
pub mod Residuals
pub mod Counters
pub mod Atoms
