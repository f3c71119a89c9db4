-- Each kind's machine is right of its claim, and so each claim without parts has the one form; what
-- it means depends on its sets alone; bytes begin with at most one.
pub mod ResidualLaws
pub mod CounterLaws
pub mod Forms
pub mod MeaningLaws
pub mod AtomLaws
