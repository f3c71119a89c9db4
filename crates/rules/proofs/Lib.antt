-- Laws of what rules are in the theory's words.
pub mod RuleLaws
pub mod RowLaws
pub mod StepLaws
pub mod FreshLaws
pub mod ChangedLaws
pub mod FormulaLaws
