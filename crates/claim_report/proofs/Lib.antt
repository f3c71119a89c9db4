-- The names that a text declares.
pub mod DeclaredLaws
pub mod PlacedLaws
