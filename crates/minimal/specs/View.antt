-- An automaton as it is read: its states, where they lead, which of them accept.
use Rattle.std.specs.Prelude.{ℕ, ◌^◌, Bool, false, length, slice_index_or}
use Rattle.tables.specs.Cells.{entry}
use Rattle.minimal.specs.declared.automaton.Automaton.{Automaton}

abbrev pub states : Automaton → ℕ
states t = length t.accepting.items

-- the state to which column a leads from state q
abbrev pub leads : Automaton → ℕ → ℕ → ℕ
leads t = entry t.rows.items (2 ^ t.sets)

abbrev pub accepts : Automaton → ℕ → Bool
accepts t q = slice_index_or t.accepting.items q false
