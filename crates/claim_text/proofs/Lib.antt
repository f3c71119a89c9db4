-- A word that is longer than every name is new.
pub mod CalledLaws
