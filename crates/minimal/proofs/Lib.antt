pub mod MadeLaws
pub mod OrderLaws
pub mod TableLaws
pub mod WidenLaws
