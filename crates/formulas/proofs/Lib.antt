pub mod SetsLaws
pub mod NamesLaws
