-- Every claim without parts has a right machine. Which one is shut: whoever asks for it here knows
-- of it what a form says.
use Rattle.kinds.specs.Counters.{counter}
use Rattle.kinds.specs.Machines.{Form}
use Rattle.kinds.specs.Meaning.{OfAtom}
use Rattle.kinds.specs.Residuals.{number, residuals}
use Rattle.kinds.specs.declared.atom.Atom.{Atom}
use Rattle.kinds.specs.declared.atom.Atom.TheVariants.{Related, Counted}
use Rattle.kinds.proofs.CounterLaws.{counter_right}
use Rattle.kinds.proofs.ResidualLaws.{residual_right, residual_told}

pub form : (a : Atom) → Form (OfAtom a)
form (Related r) = record { State = _; number = number; machine = residuals r; told = residual_told; right = residual_right r }
form (Counted m) = record { State = _; number = λ q. q; machine = counter m; told = λ p q e. e; right = counter_right m }
