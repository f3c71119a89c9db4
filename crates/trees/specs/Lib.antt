-- What the contracts of a text's tree cite.
pub mod Position
pub mod Tree
