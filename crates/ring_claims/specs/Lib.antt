-- Ring claims: claims about rows that go round.
pub mod Meaning
pub mod Reading
pub mod Bytes
pub mod Laws
-- reading them: the sign that bytes begin with, the ring claim that bytes begin with
pub mod Signs
pub mod Fronts
-- ring claims as trees, and what is made of them
pub mod Trees
pub mod Encoded
