use Rattle.std.proofs.Common.{arith, ◌≡◌, ◌++◌, ◌∷◌, [], List, ap, sym, ◌∙◌}
use Rattle.std.proofs.lemmas.Result.{err_from_is_err_and}
use Rattle.trees.specs.declared.tree.Parameter.{Parameter}
use Rattle.tokens.specs.Words.{words}
use Rattle.syntax.specs.Items.{more_parameters, view_parameter, view_parameters}
use Rattle.syntax.proofs.ExpressionLaws.{fails_on}
use Rattle.syntax.proofs.ItemsLaws.{parameters_push, next_parameter, parameter_fails}
use Rattle.syntax.proofs.items.further.Goals as goal

pub loop-behind-init : goal.loop-behind-init
loop-behind-init c =
    let one : view_parameters c.push.new.self.items ≡ view_parameter c.args.first ∷ [] = ap view_parameters c.in_ok-push.ensures.items ∙ ap (λ (ps : List Parameter). view_parameters (ps ++ c.args.first ∷ [])) c.new-all.ensures.items in
    record {
      steps = (c.args.source.now.count, omega (arith, c.requires.known), ap (λ ps. more_parameters c.args.source.now.count c.args.first.sort ps (words c.args.source.now.text.now c.args.tokens.now)) (sym one));
      less = omega arith;
    }

pub returns-in_err-word-clause-gives : goal.returns-in_err-word-clause-gives
returns-in_err-word-clause-gives c =
    let r = err_from_is_err_and c.from_residual-in_err-word.result c.from_residual-in_err-word.ensures.1 in
    let old = c.loop-behind.invariant.steps in
    let text = c.args.source.now.text.now in
    rw (r.1, r.2) (fails_on c.in_err-word.field-0.0 _ _ c.in_err-word.ensures.gives
    (λ s h. old.2 ∙ parameter_fails old.0 c.loop-behind.sort (view_parameters c.loop-behind.all.items) (words text c.loop-behind.rest.now) (words text c.in-Some.behind.now) (words text c.sort_or-other.result.1.now) s (omega (arith, old.1, c.in-Some.ensures.less)) c.in-Some.ensures.begins c.in-Some.ensures.rest c.sort_or-other.ensures.rest h))

pub loop-behind-preserved : goal.loop-behind-preserved
loop-behind-preserved c =
    let old = c.loop-behind.invariant.steps in
    let text = c.args.source.now.text.now in
    let longer = ap view_parameters c.in_ok-push-2.ensures.items ∙ parameters_push c.loop-behind.all.items _ in
    let next = next_parameter old.0 c.loop-behind.sort c.sort_or-other.result.0 (view_parameters c.loop-behind.all.items) (view_parameters c.push-in-Some.new.self.items) (words text c.loop-behind.rest.now) (words text c.in-Some.behind.now) (words text c.sort_or-other.result.1.now) (words text c.in_ok-word.more.now) _
    (omega (arith, old.1, c.in-Some.ensures.less)) c.in-Some.ensures.begins c.in-Some.ensures.rest c.sort_or-other.ensures.sort c.sort_or-other.ensures.rest c.in_ok-word.ensures.gives longer in
    record {
      steps = (next.0, omega (arith, next.1, old.1, c.in-Some.ensures.less, c.sort_or-other.ensures.less, c.in_ok-word.ensures.less), old.2 ∙ next.2);
      less = omega (arith, c.loop-behind.invariant.less, c.in-Some.ensures.less, c.sort_or-other.ensures.less, c.in_ok-word.ensures.less);
    }
