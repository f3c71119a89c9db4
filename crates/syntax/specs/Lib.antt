-- What the contracts of the readable form's text cite.
pub mod Plain
pub mod Parsing
pub mod Grammar
pub mod Rows
pub mod Views
pub mod Items
pub mod Printed
pub mod Reads
