use Rattle.std.proofs.Common.{arith, ◌++◌, ◌∷◌, [], List, ap, ◌∙◌}
use Rattle.trees.specs.declared.tree.Name.{Name}
use Rattle.tokens.specs.Words.{words}
use Rattle.syntax.specs.Views.{names_of}
use Rattle.syntax.proofs.NamesLaws.{names_of_more, first_name, next_name}
use Rattle.syntax.proofs.source.names.Goals as goal

pub loop-behind-init : goal.loop-behind-init
loop-behind-init c =
    record {
      steps = (
        c.args.source.now.count,
        omega (arith, c.requires.known, c.in_ok-first.ensures.less),
        first_name c.args.source.now.count (words c.args.source.now.text.now c.args.tokens.now) (words c.args.source.now.text.now c.in_ok-first.rest.now) _ _ c.in_ok-first.ensures.gives
            (ap names_of c.in_ok-push.ensures.items ∙ ap (λ (xs : List Name). names_of (xs ++ c.in_ok-first.first ∷ [])) c.new-all.ensures.items),
      );
      less = omega (arith, c.in_ok-first.ensures.less);
    }

pub loop-behind-preserved : goal.loop-behind-preserved
loop-behind-preserved c =
    let old = c.loop-behind.invariant.steps in
    let text = c.args.source.now.text.now in
    let next = next_name old.0 (names_of c.loop-behind.all.items) _ (words text c.loop-behind.rest.now) (words text c.in-Some.behind.now) (words text c.in_ok-further.more.now) _ (omega (arith, old.1, c.in-Some.ensures.less)) c.in-Some.ensures.begins c.in-Some.ensures.rest c.in_ok-further.ensures.gives (ap names_of c.in_ok-push-2.ensures.items ∙ names_of_more c.loop-behind.all.items c.in_ok-further.further) in
    record {
      steps = (next.0, omega (arith, next.1, old.1, c.in-Some.ensures.less, c.in_ok-further.ensures.less), old.2 ∙ next.2);
      less = omega (arith, c.loop-behind.invariant.less, c.in-Some.ensures.less, c.in_ok-further.ensures.less);
    }
