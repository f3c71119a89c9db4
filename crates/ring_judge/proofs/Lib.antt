-- How ring claims are put as row claims, and from what is said of rows to what is said of rings.
pub mod PutLaws
pub mod MadeLaws
pub mod RingLaws
