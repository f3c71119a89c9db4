use Rattle.parts.specs.Parts.{piece_of, itself, inside}
use Rattle.parts.proofs.PartsLaws.{parts_smaller}
use Rattle.solve.proofs.narrow.innermost.Goals as goal

pub loop-inner-init : goal.loop-inner-init
loop-inner-init c = record { within = itself; large = c.requires }

pub loop-inner-smaller : goal.loop-inner-smaller
loop-inner-smaller c =
    let found = rw c.in-Some.is at c.in_ok-inner.ensures in
    parts_smaller (piece_of c.loop-inner.part) (piece_of c.in-Some.inner) found.0

pub loop-inner-preserved : goal.loop-inner-preserved
loop-inner-preserved c =
    let found = rw c.in-Some.is at c.in_ok-inner.ensures in
    record { within = inside c.loop-inner.invariant.within found.0; large = found.1 }
