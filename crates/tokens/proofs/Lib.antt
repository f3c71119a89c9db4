-- Lemmas on the tokens of a text.
pub mod GapsLaws
pub mod SpellingLaws
pub mod CoveringLaws
pub mod TableLaws
pub mod TokensLaws
pub mod ScanLaws
pub mod SpacedLaws
