-- Lemmas on the tokens and the tree of a rule file.
pub mod GapsLaws
pub mod CoveringLaws
pub mod WrittenLaws
pub mod NamesLaws
pub mod KindsLaws
pub mod SectionsLaws
