-- How tight what stands left of an operator has to bind.
use Rattle.std.proofs.Common.{◌≡◌, ◌+◌, ◌≢◌, refl, arith}
use Rattle.trees.specs.declared.tree.Binary.{Binary}
use Rattle.trees.specs.declared.tree.Binary.TheVariants as binary
use Rattle.syntax.specs.Parsing.{level_of, right_of}
use Rattle.syntax.specs.Printed.{left_of}

-- where what stands right binds as tight as the operator, it is tighter by one, and else as tight
pub same_right : (b : Binary) → right_of b ≡ level_of b → left_of b ≡ level_of b + 1
same_right binary.Iff h = refl
same_right binary.Implies h = refl
same_right binary.In h = absurd (omega (arith, h))
same_right binary.NotIn h = absurd (omega (arith, h))
same_right binary.Sub h = absurd (omega (arith, h))
same_right binary.Equal h = absurd (omega (arith, h))
same_right binary.Differs h = absurd (omega (arith, h))
same_right binary.Less h = absurd (omega (arith, h))
same_right binary.AtMost h = absurd (omega (arith, h))
same_right binary.Greater h = absurd (omega (arith, h))
same_right binary.AtLeast h = absurd (omega (arith, h))
same_right binary.Union h = absurd (omega (arith, h))
same_right binary.Inter h = absurd (omega (arith, h))
same_right binary.Without h = absurd (omega (arith, h))
same_right binary.Plus h = absurd (omega (arith, h))
same_right binary.Minus h = absurd (omega (arith, h))
same_right binary.Or h = absurd (omega (arith, h))
same_right binary.And h = absurd (omega (arith, h))

pub other_right : (b : Binary) → right_of b ≢ level_of b → left_of b ≡ level_of b
other_right binary.Iff h = absurd (h refl)
other_right binary.Implies h = absurd (h refl)
other_right binary.In h = refl
other_right binary.NotIn h = refl
other_right binary.Sub h = refl
other_right binary.Equal h = refl
other_right binary.Differs h = refl
other_right binary.Less h = refl
other_right binary.AtMost h = refl
other_right binary.Greater h = refl
other_right binary.AtLeast h = refl
other_right binary.Union h = refl
other_right binary.Inter h = refl
other_right binary.Without h = refl
other_right binary.Plus h = refl
other_right binary.Minus h = refl
other_right binary.Or h = refl
other_right binary.And h = refl
