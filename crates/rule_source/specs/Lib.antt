-- Which modules patterns fit; how the modules lie; the names of bits and sets; what patterns ask, formulas say and lines do; the given rows; what a file claims, what it claims to be kept, and what may help to keep it.
pub mod Clash
pub mod Layouts
pub mod Names
pub mod Patterns
pub mod Formulas
pub mod Effects
pub mod Given
pub mod Claimed
pub mod Asking
pub mod Kept
pub mod Helpers
pub mod Reading
