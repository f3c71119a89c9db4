-- How rows and reports go on; what is found of some statements; which choices of helpers are told.
pub mod ShownRowsLaws
pub mod ReportedLaws
pub mod NarrowingLaws
pub mod HelpedLaws
