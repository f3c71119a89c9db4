-- A claim without parts as an automaton; its table.
pub mod States
pub mod AtomTable
