use Rattle.std.proofs.Common.{◌≡◌, List, drop}
use Rattle.tokens.specs.Words.{Word}
use Rattle.syntax.specs.Plain.{names, names_more}
use Rattle.syntax.specs.Views.{names_of}
use Rattle.printing.specs.Writing.{text_with}
use Rattle.printing.proofs.print.put_names.Given as goal

abbrev pub invariant-loop-name : goal.invariant-loop-name
invariant-loop-name l = (rest : List Word) → text_with l.writer (names_more (names_of (drop l.name-index l.further)) rest) ≡ text_with l.fn.writer (names (names_of l.names) rest)
