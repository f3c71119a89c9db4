use Rattle.std.proofs.Common.{arith, rules, ap, ◌∙◌, ◌<◌, length}
use Rattle.std.proofs.lemmas.Result.{err_from_is_err_and}
use Rattle.syntax.specs.Parsing.{parse}
use Rattle.tokens.specs.Words.{words}
use Rattle.syntax.specs.Items.{view_items}
use Rattle.syntax.proofs.ExpressionLaws.{fails_on}
use Rattle.syntax.proofs.ItemsLaws.{items_push, first_read, next_read, read_fails}
use Rattle.syntax.proofs.items.items.Goals as goal

pub loop-rest-init : goal.loop-rest-init
loop-rest-init c =
    let text = c.args.source.now.text.now in
    record {
      steps = (c.args.source.now.count, omega (arith, c.requires.known, c.in_ok-rest.ensures.less), first_read c.args.source.now.count c.args.source.now.open (words text c.args.tokens.now) (words text c.in_ok-rest.rest.now) (view_items c.new-all.result.items) c.in_ok-rest.ensures.gives (ap view_items c.new-all.ensures.items));
      less = c.in_ok-rest.ensures.less;
    }

pub returns-in_err-read : goal.returns-in_err-read
returns-in_err-read c =
    let r = err_from_is_err_and c.from_residual-in_err-read.result c.from_residual-in_err-read.ensures.1 in
    let old = c.loop-rest.invariant.steps in
    let n = c.args.source.now.count in
    let text = c.args.source.now.text.now in
    let some : 0 < length c.loop-rest.rest.now = search rules in
    rw (r.1, r.2) (fails_on c.in_err-read.field-0.0 _ _ c.in_err-read.ensures.gives
    (λ s h. old.2 ∙ read_fails (parse n c.args.source.now.open) n old.0 (view_items c.loop-rest.all.items) text c.loop-rest.rest.now s old.1 some h))

pub loop-rest-preserved : goal.loop-rest-preserved
loop-rest-preserved c =
    let old = c.loop-rest.invariant.steps in
    let n = c.args.source.now.count in
    let text = c.args.source.now.text.now in
    let some : 0 < length c.loop-rest.rest.now = search rules in
    let longer = ap view_items c.in_ok-push.ensures.items ∙ items_push c.loop-rest.all.items c.in_ok-read.read in
    let next = next_read (parse n c.args.source.now.open) n old.0 (view_items c.loop-rest.all.items) (view_items c.push.new.self.items) text c.loop-rest.rest.now (words text c.in_ok-read.more.now) _ old.1 some c.in_ok-read.ensures.gives longer in
    record {
      steps = (next.0, omega (arith, next.1, old.1, c.in_ok-read.ensures.less), old.2 ∙ next.2);
      less = omega (arith, c.loop-rest.invariant.less, c.in_ok-read.ensures.less);
    }
