-- What the contracts of a text's tokens cite.
pub mod Gaps
pub mod Spelling
pub mod Covering
pub mod Words
pub mod Scan
pub mod Spaced
