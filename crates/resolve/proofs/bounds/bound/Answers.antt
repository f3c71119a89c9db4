use Rattle.std.proofs.Common.{IfOk, ◌↔◌, subst, sym}
use Rattle.formulas.specs.Meaning.{Env, Meaning}
use Rattle.resolve.specs.Scopes.{Bound}
use Rattle.resolve.proofs.bounds.bound.Goals as goal

pub returns-in_ok-set-in-Set : goal.returns-in_ok-set-in-Set
returns-in_ok-set-in-Set c =
    subst (λ sort. IfOk c.sub.result (λ f. (e : Env) → Meaning f.value e ↔ Bound sort c.args.number c.args.row e)) (sym c.in-Set.is)
    (rw (c.in_ok-set-in-Set.ensures.ok, c.in_ok-row.ensures.ok) at c.sub.ensures)
