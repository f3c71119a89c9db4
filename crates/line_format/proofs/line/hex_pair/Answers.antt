use Rattle.std.proofs.Common.{refl}
use Rattle.line_format.specs.Line.{pair}
use Rattle.line_format.proofs.line.hex_pair.Goals as goal

pub returns-in_err-high : goal.returns-in_err-high
returns-in_err-high c = rw c.from_residual.ensures (λ v p. elim p [ pair h l a b e ↦ c.in_err-high.ensures h a ])

pub returns-in_err-low : goal.returns-in_err-low
returns-in_err-low c = rw c.from_residual-in_err-low.ensures (λ v p. elim p [ pair h l a b e ↦ c.in_err-low.ensures l b ])

pub returns : goal.returns
returns c = pair c.in_ok-high.high c.in_ok-low.low c.in_ok-high.ensures c.in_ok-low.ensures refl
