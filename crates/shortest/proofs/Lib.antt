pub mod SpellLaws
pub mod StepsLaws
pub mod FirstLaws
