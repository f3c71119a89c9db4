-- That what is made of a claim means it: sets that are places, binders, claims without parts, formulas put together.
pub mod StandingLaws
pub mod BindersLaws
pub mod PointsLaws
pub mod CountingLaws
pub mod TellingLaws
pub mod LyingLaws
