-- Lemmas on printing.
pub mod SignsLaws
pub mod WritingLaws
pub mod TreesLaws
