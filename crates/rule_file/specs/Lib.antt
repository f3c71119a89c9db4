-- What the contracts of rule files cite.
pub mod Gaps
pub mod Covering
pub mod Written
pub mod Claims
pub mod Kinds
pub mod Sections
