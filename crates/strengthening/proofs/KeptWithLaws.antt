-- There is at most one answer, and a claim that is kept with others holds at every time.
use Rattle.std.proofs.Common.{ℕ, zero, suc, ◌∷◌, sym, subst, inl, inr}
use Rattle.words.specs.Words.{Columns}
use Rattle.words.proofs.OrderLaws.{less_total}
use Rattle.formulas.specs.declared.formula.Formula.{Formula}
use Rattle.rows.proofs.StepLaws.{step_columns}
use Rattle.keeping.proofs.KeptLaws.{after_columns}
use Rattle.strengthening.specs.Choices.{AllHold, chosen, Fewest}
use Rattle.strengthening.specs.Laws.{OneFewest, HelpedAlways}

pub one_fewest : OneFewest
one_fewest s b R start c qs is js f g = elim (less_total is js) [
  | inl l ↦ absurd (g.first is f.choice l f.kept)
  | inr r ↦ elim r [ inl e ↦ e | inr l ↦ absurd (f.first js g.choice l g.kept) ]
]

pub helped_always : HelpedAlways
helped_always s b R start c qs is kept rows run h begins t = (go t).1.0
  where
    go : (t : ℕ) → Columns b (rows t) × AllHold b (c ∷ chosen qs is) (rows t)
    go zero = (h, kept.starts (rows 0) h begins)
    go (suc t) =
        let (columns, holds) = go t in
        let e = sym (run t) in
        (subst (Columns b) e (after_columns s b R (rows t)), subst (AllHold b (c ∷ chosen qs is)) e (kept.stays (rows t) columns holds))
