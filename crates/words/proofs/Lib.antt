pub mod BitsLaws
pub mod OrderLaws
