-- Lemmas on the calls for other languages.
pub mod KeptVerdictLaws
pub mod StrongerVerdictLaws
