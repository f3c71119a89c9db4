-- A selection: the bits of its mask say which of the sets it has.
use Rattle.std.specs.Prelude.{ℕ, Bool}
use Rattle.words.specs.Words.{bit}
use Rattle.narrowing.specs.Columns.{size, extract, deposit}
use Rattle.selection.specs.declared.selection.Selection.{Selection}

-- whether it has set x
abbrev pub chosen : Selection → ℕ → Bool
chosen s x = bit x s.mask

-- how many sets it has
abbrev pub count : Selection → ℕ
count s = size s.of (chosen s)

-- the column of its sets alone
abbrev pub narrow : Selection → ℕ → ℕ
narrow s a = extract s.of (chosen s) a

-- the least column of all sets that has this column of its own
abbrev pub spread : Selection → ℕ → ℕ
spread s j = deposit s.of (chosen s) j
