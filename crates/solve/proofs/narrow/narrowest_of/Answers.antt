use Rattle.std.proofs.Common.{refl}
use Rattle.parts.specs.Parts.{piece_of}
use Rattle.solve.proofs.narrow.narrowest_of.Goals as goal

pub returns-in_ok-innermost-in-Some : goal.returns-in_ok-innermost-in-Some
returns-in_ok-innermost-in-Some c =
    let found = rw c.in-Some.is at c.in_ok-whole.ensures in
    let named = c.in_ok-innermost-in-Some.ensures in
    (piece_of c.in-Some.whole, piece_of c.in_ok-innermost-in-Some.field-0, found.0, named.0, named.1, refl)
