-- Tables over the columns of those sets alone that a part mentions.
pub mod Columns
pub mod Mentioned
pub mod Wide
pub mod Laws
