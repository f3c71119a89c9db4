use Rattle.std.proofs.Common.{refl, ◌∙◌, arith}
use Rattle.splitting.proofs.SplitLaws.{split_none, split_more, split_skip, waiting_next}
use Rattle.splitting.proofs.split.split_by.Goals as goal
use Rattle.splitting.proofs.split.split_by.Goals.{then-not-is_marked, else-not-is_marked}

pub loop-a-init : goal.loop-a-init
loop-a-init c = record { split = split_none c.requires.waiting c.requires.part; room = c.requires.touched; same_part = refl }

pub invariant_of-column-clause-listed : goal.invariant_of-column-clause-listed
invariant_of-column-clause-listed c = c.args.lists.listed c.loop-a.a (omega arith) (c.is_marked.ensures.left c.if-not-is_marked.true)

pub loop-a-preserved : goal.loop-a-preserved
loop-a-preserved c =
    let t = c.args.lists.table.table in
    let i = c.loop-a.invariant in
    elim c.if-not-is_marked.branch [
      | then-not-is_marked w ↦ rw (w.places-is, w.parting-is, w.marks-is) (let s = w.split_column.ensures in record {
        split = split_more (λ q h. t.below q c.loop-a.a h (omega arith)) c.list_members-size.ensures i.split s.cleft;
        room = s.room;
        same_part = s.same_part ∙ i.same_part;
      })
      | else-not-is_marked w ↦ rw (w.places-is, w.parting-is, w.marks-is) (record {
        split = split_skip (c.requires.repeats c.loop-a.a (omega arith) (c.is_marked.ensures.marked w.if-not-is_marked.false)) i.split;
        room = i.room;
        same_part = i.same_part;
      })
    ]

pub returns-clause-waiting : goal.returns-clause-waiting
returns-clause-waiting c = waiting_next (λ q a h l. c.args.lists.table.table.below q a h (omega (arith, c.args.lists.table.wide))) (omega (arith, c.args.lists.table.wide)) c.requires.waiting c.loop-a.invariant.split
