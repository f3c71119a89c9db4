-- What the contracts of printing cite.
pub mod Writing
