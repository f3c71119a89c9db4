-- What working out a part says, and the memory that it takes.
pub mod Stands
pub mod HandOn
pub mod Widen
pub mod WorkOut
