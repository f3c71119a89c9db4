-- What is kept together holds at every time; what one row tells of many choices; how the choices are gone through.
pub mod KeptWithLaws
pub mod PruningLaws
pub mod SearchLaws
