pub mod EqualSetsLaws
pub mod CountedLaws
