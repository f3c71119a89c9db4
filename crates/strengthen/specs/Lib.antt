-- What is asked of claims that help to keep a claim, and what is found of them.
pub mod Listed
pub mod Told
pub mod Follow
pub mod Marks
pub mod Known
pub mod Count
pub mod Before
