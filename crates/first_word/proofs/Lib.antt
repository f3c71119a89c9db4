-- A first word is short, so that bytes that are a claim get an answer.
pub mod ShortLaws
pub mod FoundLaws
