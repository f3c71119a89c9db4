use Rattle.std.proofs.Common.{◌∙◌, ap, add-one}
use Rattle.resolve.specs.Spaces.{previous}
use Rattle.resolve.proofs.terms.Resolver.back_round.Goals as goal

pub loop-i-preserved : goal.loop-i-preserved
loop-i-preserved c = λ e. rw (add-one c.loop-i.i) (c.in_ok-moved.ensures e ∙ ap (previous (e.groups c.args.ring)) (c.loop-i.invariant e))
