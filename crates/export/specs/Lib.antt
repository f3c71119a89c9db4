-- The calls for other languages: an answer as numbers.
pub mod Verdict
pub mod RowVerdict
pub mod RingVerdict
pub mod KeptVerdict
pub mod StrongerVerdict
