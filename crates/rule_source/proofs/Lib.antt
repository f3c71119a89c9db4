-- What literals exclude and give; the numbers of names; formulas behind their sets; lines of the table; given rows; names of what may help.
pub mod ClashLaws
pub mod NamesLaws
pub mod FormulasLaws
pub mod EffectsLaws
pub mod GivenLaws
pub mod HelpersLaws
