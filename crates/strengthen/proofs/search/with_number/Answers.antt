use Rattle.std.proofs.Common.{◌≡◌, List, ℕ, [], ◌∷◌, ◌++◌, ap, sym, subst, ◌∙◌}
use Rattle.strengthen.specs.Listed.{Below}
use Rattle.strengthen.proofs.ListedLaws.{below_push}
use Rattle.strengthen.proofs.search.with_number.Goals as goal

pub returns-clause-below : goal.returns-clause-below
returns-clause-below c = λ n h l.
    (let e : c.push.new.self.items ≡ c.args.choice.now ++ (c.args.i ∷ []) = c.in_ok-push.ensures.items ∙ ap (λ xs. xs ++ (c.args.i ∷ [])) c.in_ok-longer.ensures.items in
    subst (Below n) (sym e) (below_push n c.args.choice.now c.args.i h l))
