-- Lemmas on what a file claims to be kept.
pub mod NamedLaws
