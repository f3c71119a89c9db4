use Rattle.std.proofs.Common.{◌≡◌, List, drop}
use Rattle.tokens.specs.Words.{Word}
use Rattle.syntax.specs.Items.{parameters, parameters_more, view_parameters}
use Rattle.printing.specs.Writing.{text_with}
use Rattle.printing.proofs.print.put_parameters.Given as goal

abbrev pub invariant-loop-parameter : goal.invariant-loop-parameter
invariant-loop-parameter l = (rest : List Word) → text_with l.writer (parameters_more (view_parameters (drop l.parameter-index l.further)) rest) ≡ text_with l.fn.writer (parameters (view_parameters l.parameters) rest)
