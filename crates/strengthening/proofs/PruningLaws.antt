-- What one row tells of many choices.
use Rattle.std.proofs.Common.{ℕ, List, [], ◌∷◌, sym, subst, inl, inr}
use Rattle.words.specs.Words.{Word}
use Rattle.formulas.specs.declared.formula.Formula.{Formula}
use Rattle.formulas.specs.Names.{Among}
use Rattle.rows.specs.Rows.{step}
use Rattle.keeping.specs.Kept.{OfRow}
use Rattle.strengthening.specs.Choices.{AllHold}
use Rattle.strengthening.specs.Pruning.{StartRefutes, StepRefutes}

pub one_holds : (b : ℕ) (ds : List Formula) (d : Formula) (w : Word) → AllHold b ds w → Among d ds → OfRow b d w
one_holds b [] d w h m = absurd m
one_holds b (e ∷ ds) d w h (inl p) = subst (λ x. OfRow b x w) (sym p) h.0
one_holds b (e ∷ ds) d w h (inr m) = one_holds b ds d w h.1 m

pub start_refutes : StartRefutes
start_refutes s b R start ds d w h begins m n kept = n (one_holds b ds d w (kept.starts w h begins) m)

pub step_refutes : StepRefutes
step_refutes s b R start ds d w h all m n kept = n (one_holds b ds d (step s b R w) (kept.stays w h all) m)
