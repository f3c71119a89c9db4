-- How row claims are put as claims about sets, and from what is answered of these to what is said of rows.
pub mod PutLaws
pub mod CallLaws
pub mod MadeLaws
pub mod RowLaws
pub mod FindingLaws
pub mod ModulesLaws
pub mod JudgedLaws
