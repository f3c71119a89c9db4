use Rattle.std.proofs.Common.{refl, ◌∙◌, arith}
use Rattle.splitting.proofs.SplitLaws.{waiting_alone, waiting_end}
use Rattle.splitting.proofs.split.split_all.Goals as goal

pub loop-done-init : goal.loop-done-init
loop-done-init c = record { waiting = c.requires.waiting; room = c.requires.touched; same_part = refl }

pub loop-done-preserved : goal.loop-done-preserved
loop-done-preserved c = record { waiting = c.split_by.ensures.waiting; room = c.split_by.ensures.room; same_part = c.split_by.ensures.same_part ∙ c.loop-done.invariant.same_part }

pub returns : goal.returns
returns c = let w = c.loop-done.invariant.waiting in record {
  stable = waiting_end (λ q a h l. c.args.lists.table.table.below q a h (omega (arith, c.args.lists.table.wide))) w (omega arith);
  below = λ q h. omega (arith, w.arranged.parts.below q h, w.arranged.few);
  same_part = c.loop-done.invariant.same_part;
}

pub returns-then-parting-lists : goal.returns-then-parting-lists
returns-then-parting-lists c = let w = c.loop-done.invariant.waiting in record {
  stable = waiting_alone w c.if-parting-lists.true;
  below = λ q h. omega (arith, w.arranged.parts.below q h, w.arranged.few);
  same_part = c.loop-done.invariant.same_part;
}
