use Rattle.std.proofs.Common.{◌≡◌}
use Rattle.selection.specs.Selections.{spread}
use Rattle.selection.proofs.SpellLaws.{upto}
use Rattle.selection.proofs.spell.spell.Given as goal

-- the columns before i are spelled, the others as they were
abbrev pub invariant-loop-i : goal.invariant-loop-i
invariant-loop-i l = l.word ≡ upto (spread l.fn.sets) l.i l.initial.word
