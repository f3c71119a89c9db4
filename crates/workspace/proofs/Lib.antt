-- The floor: that it is one number, and never above what the first byte would ask for; and what is
-- read from bytes for it.
pub mod FloorLaws
pub mod PartLaws
