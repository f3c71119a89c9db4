-- A claim without parts: its machine as an automaton over words of the columns of some sets, each
-- read as the least column of all sets that has it.
use Rattle.kinds.specs.Machines.{Machine}
use Rattle.selection.specs.Selections.{count, spread}
use Rattle.selection.specs.declared.selection.Selection.{Selection}
use Rattle.worklist.specs.Search.{Automaton}

abbrev pub reading : {S : Type 0} → Selection → Machine S → Automaton S
reading sets m = record { sets = count sets; start = m.start; step = λ q j. m.step q (spread sets j); accepts = m.ends }
