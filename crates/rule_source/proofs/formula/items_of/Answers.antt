use Rattle.std.proofs.Common.{List, ℕ, subst}
use Rattle.syntax.specs.Reads.{IsReadAs}
use Rattle.rule_source.proofs.formula.items_of.Goals as goal

pub returns-in-Ok : goal.returns-in-Ok
returns-in-Ok c = subst (λ (t : List ℕ). IsReadAs t c.in-Ok.items.items) c.as_bytes.ensures.value c.in-Ok.ensures.reads
