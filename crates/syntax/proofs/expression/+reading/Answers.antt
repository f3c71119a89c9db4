use Rattle.std.proofs.Common.{arith, ◌≡◌, ◌++◌, ◌∷◌, [], List, ap, sym, ◌∙◌, ◌-◌}
use Rattle.std.proofs.lemmas.Result.{err_from_is_err_and}
use Rattle.trees.specs.Tree.{Expr}
use Rattle.syntax.specs.Plain.{more, none}
use Rattle.syntax.specs.Parsing.{parse, up_to, depths, push}
use Rattle.tokens.specs.Words.{words}
use Rattle.syntax.specs.Views.{view, view_all}
use Rattle.syntax.proofs.ExpressionLaws.{fails_on, opened, opened_fails, next_operator, first_item, next_item, view_push, depths_push, item_fails, no_item, closed, closed_fails}
use Rattle.syntax.proofs.expression.+reading.Goals as goal

pub expression-returns-in_err-left-clause-gives : goal.expression-returns-in_err-left-clause-gives
expression-returns-in_err-left-clause-gives t c =
    let p = err_from_is_err_and c.from_residual.result c.from_residual.ensures.1 in
    let n = c.args.source.now.count in
    let ws = words c.args.source.now.text.now c.args.tokens.now in
    rw (p.1, p.2) (fails_on c.in_err-left.field-0.0 _ _ c.in_err-left.ensures.gives (λ s h. opened_fails n c.args.calls c.args.lowest ws s (omega (arith, c.if-calls-eq0.false)) h))

pub expression-loop-binary-init : goal.expression-loop-binary-init
expression-loop-binary-init t c =
    let n = c.args.source.now.count in
    let text = c.args.source.now.text.now in
    record {
      steps = (n, omega (arith, c.requires.known, c.in_ok-left.ensures.less), opened n c.args.calls c.args.lowest (words text c.args.tokens.now) (view c.in_ok-left.left.expr.value.kind) (words text c.in_ok-left.rest.now) (omega (arith, c.if-calls-eq0.false)) c.in_ok-left.ensures.gives);
      deep = c.in_ok-left.ensures.depth;
      less = c.in_ok-left.ensures.less;
    }

pub expression-loop-binary-preserved : goal.expression-loop-binary-preserved
expression-loop-binary-preserved t c =
    let old = c.loop-binary.invariant.steps in
    let text = c.args.source.now.text.now in
    let next = next_operator (parse c.args.source.now.count (c.args.calls - 1)) old.0 c.args.lowest c.tightness_of.result.right c.in-Some.binary (view c.loop-binary.left.expr.value.kind) (view c.in_ok-right.right.expr.value.kind) (view c.in_ok-left-2.left.expr.value.kind) (words text c.loop-binary.rest.now) (words text c.in-Some.behind.now) (words text c.in_ok-right.more.now)
    (omega (arith, old.1, c.in-Some.ensures.less)) c.in-Some.ensures.operator c.in-Some.ensures.rest c.tightness_of.ensures.right c.in_ok-right.ensures.gives c.in_ok-left-2.ensures.gives in
    record {
      steps = (next.0, omega (arith, next.1, old.1, c.in-Some.ensures.less, c.in_ok-right.ensures.less), old.2 ∙ next.2);
      deep = c.in_ok-left-2.ensures.depth;
      less = omega (arith, c.loop-binary.invariant.less, c.in-Some.ensures.less, c.in_ok-right.ensures.less);
    }

pub list-loop-behind-init : goal.list-loop-behind-init
list-loop-behind-init t c =
    let n = c.args.source.now.count in
    let text = c.args.source.now.text.now in
    let one : view_all c.push.new.self.items ≡ more (view c.in_ok-first.first.expr.value.kind) none = ap view_all c.in_ok-push.ensures.items ∙ ap (λ (xs : List Expr). view_all (xs ++ c.into_inner.result ∷ [])) c.new-all.ensures.items ∙ ap (λ (x : Expr). more (view x.kind) none) c.into_inner.ensures in
    record {
      steps = (n, omega (arith, c.requires.known, c.in_ok-first.ensures.less), first_item (parse n c.args.calls) n c.args.close (words text c.args.tokens.now) (words text c.in_ok-first.rest.now) (view c.in_ok-first.first.expr.value.kind) (view_all c.push.new.self.items) c.in_ok-first.ensures.gives one);
      deep = c.in_ok-first.ensures.depth ∙ sym (ap depths one ∙ omega arith);
      less = c.in_ok-first.ensures.less;
    }

pub list-loop-behind-preserved : goal.list-loop-behind-preserved
list-loop-behind-preserved t c =
    let old = c.loop-behind.invariant.steps in
    let text = c.args.source.now.text.now in
    let p = parse c.args.source.now.count c.args.calls in
    let longer : view_all c.push-in-Some.new.self.items ≡ push (view_all c.loop-behind.all.items) (view c.in_ok-further.further.expr.value.kind) = ap view_all c.in_ok-push-2.ensures.items ∙ view_push c.loop-behind.all.items c.into_inner-in-Some.result ∙ ap (λ (x : Expr). push (view_all c.loop-behind.all.items) (view x.kind)) c.into_inner-in-Some.ensures in
    let next = next_item p old.0 (view_all c.loop-behind.all.items) (view_all c.push-in-Some.new.self.items) (words text c.loop-behind.rest.now) (words text c.in-Some.behind.now) (words text c.in_ok-further.more.now) (view c.in_ok-further.further.expr.value.kind)
    (omega (arith, old.1, c.in-Some.ensures.less)) c.in-Some.ensures.begins c.in-Some.ensures.rest c.in_ok-further.ensures.gives longer in
    let deep = depths_push (view_all c.loop-behind.all.items) (view c.in_ok-further.further.expr.value.kind) in
    let same = ap depths longer in
    record {
      steps = (next.0, omega (arith, next.1, old.1, c.in-Some.ensures.less, c.in_ok-further.ensures.less), old.2 ∙ ap (up_to c.args.close) next.2);
      deep = grind (arith, deep, same, c.loop-behind.invariant.deep, c.in_ok-further.ensures.depth, c.max-depth.ensures);
      less = omega (arith, c.loop-behind.invariant.less, c.in-Some.ensures.less, c.in_ok-further.ensures.less);
    }

pub list-returns-in_err-further-clause-gives : goal.list-returns-in_err-further-clause-gives
list-returns-in_err-further-clause-gives t c =
    let r = err_from_is_err_and c.from_residual-in_err-further.result c.from_residual-in_err-further.ensures.1 in
    let old = c.loop-behind.invariant.steps in
    let text = c.args.source.now.text.now in
    let p = parse c.args.source.now.count c.args.calls in
    rw (r.1, r.2) (fails_on c.in_err-further.field-0.0 _ _ c.in_err-further.ensures.gives
    (λ s h. old.2 ∙ ap (up_to c.args.close) (item_fails p old.0 (view_all c.loop-behind.all.items) (words text c.loop-behind.rest.now) (words text c.in-Some.behind.now) s (omega (arith, old.1, c.in-Some.ensures.less)) c.in-Some.ensures.begins c.in-Some.ensures.rest h)))

pub list-returns-in_err-end-clause-gives : goal.list-returns-in_err-end-clause-gives
list-returns-in_err-end-clause-gives t c =
    let r = err_from_is_err_and c.from_residual-in_err-end.result c.from_residual-in_err-end.ensures.1 in
    let old = c.loop-behind.invariant.steps in
    let text = c.args.source.now.text.now in
    let p = parse c.args.source.now.count c.args.calls in
    let acc = view_all c.loop-behind.all.items in
    let ws = words text c.loop-behind.rest.now in
    rw (r.1, r.2) (fails_on c.in_err-end.field-0.0 _ _ c.in_err-end.ensures.gives
    (λ s h. old.2 ∙ ap (up_to c.args.close) (no_item p old.0 acc ws c.in_default.ensures.begins) ∙ closed_fails c.args.close acc ws s h))

pub list-returns-clause-gives : goal.list-returns-clause-gives
list-returns-clause-gives t c =
    let old = c.loop-behind.invariant.steps in
    let text = c.args.source.now.text.now in
    let p = parse c.args.source.now.count c.args.calls in
    let acc = view_all c.loop-behind.all.items in
    let ws = words text c.loop-behind.rest.now in
    old.2 ∙ ap (up_to c.args.close) (no_item p old.0 acc ws c.in_default.ensures.begins) ∙ closed c.args.close acc ws (words text c.in_ok-end.rest.now) c.in_ok-end.ensures.gives
