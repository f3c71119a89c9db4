pub mod BitrowsLaws
pub mod InternLaws
