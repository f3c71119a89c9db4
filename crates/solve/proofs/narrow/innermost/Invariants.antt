use Rattle.parts.specs.Parts.{Within, piece_of}
use Rattle.parts.proofs.PartsLaws.{weight}
use Rattle.solve.specs.Narrowing.{IsLarge}
use Rattle.solve.proofs.narrow.innermost.Given as goal

abbrev pub invariant-loop-inner : goal.invariant-loop-inner
invariant-loop-inner l = record { within : Within (piece_of l.fn.whole) (piece_of l.part); large : IsLarge l.n l.part.formula.now }

abbrev pub decreases-loop-inner : goal.decreases-loop-inner
decreases-loop-inner l = weight (piece_of l.part)
