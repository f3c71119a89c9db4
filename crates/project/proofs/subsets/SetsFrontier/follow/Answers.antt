use Rattle.std.proofs.Common.{◌≡◌, ℕ, Bool, false, ap, ◌∙◌, arith}
use Rattle.live.specs.Dead.{lives}
use Rattle.tables.specs.Cells.{entry}
use Rattle.words.specs.Bits.{put_bit}
use Rattle.words.proofs.BitsLaws.{put_bit_below}
use Rattle.project.specs.Subsets.{step_of}
use Rattle.project.specs.declared.projection.Projection.{Projection}
use Rattle.project.proofs.MemoryLaws.{next_interned, followed_again, followed_fresh}
use Rattle.project.proofs.SubsetsLaws.{put_is, step_copied}
use Rattle.project.proofs.subsets.SetsFrontier.follow.Goals as goal

-- the column without bit x leads where the column does
pub without : (p : Projection) (X : ℕ → Bool) (a b : ℕ) → b ≡ put_bit p.x.0 false a → step_of p X b ≡ step_of p X a
without p X a b e = ap (step_of p X) e ∙ step_copied p.t.table.classes (entry p.t.table.rows.now p.t.table.width) (lives p.t.table.classes p.dead) p.x.0 X a

pub next_set-requires-clause-column : goal.next_set-requires-clause-column
next_set-requires-clause-column c =
    let p = c.args.self.now.part in
    let e = put_is p.x.0 c.args.a c.without_bit.result false c.without_bit.ensures.here c.without_bit.ensures.others in
    let b = put_bit_below p.t.sets p.x.0 false c.args.a p.bound c.requires.ready.column in
    omega (arith, p.t.wide)

pub intern-requires-clause-interned : goal.intern-requires-clause-interned
intern-requires-clause-interned c = let f = c.args.self.now in next_interned f.part f.most c.args.i c.without_bit.result c.requires.ready.holds c.next_set.new.sets c.next_set.ensures.made c.next_set.ensures.kept

pub returns-in-Some : goal.returns-in-Some
returns-in-Some c =
    let f = c.args.self.now in
    let e = put_is f.part.x.0 c.args.a c.without_bit.result false c.without_bit.ensures.here c.without_bit.ensures.others in
    followed_again f.part f.most c.args.i c.args.a c.requires.ready.holds c.next_set.new.sets (c.next_set.ensures.made ∙ without f.part _ c.args.a c.without_bit.result e) c.next_set.ensures.kept c.intern.new.heads c.intern.new.links c.intern.new.buckets c.in-Some.j c.in-Some.ensures

pub returns-in-None : goal.returns-in-None
returns-in-None c =
    let f = c.args.self.now in
    let e = put_is f.part.x.0 c.args.a c.without_bit.result false c.without_bit.ensures.here c.without_bit.ensures.others in
    followed_fresh f.part f.most c.args.i c.args.a c.requires.ready.holds c.next_set.new.sets (c.next_set.ensures.made ∙ without f.part _ c.args.a c.without_bit.result e) c.next_set.ensures.kept c.intern.new.heads c.intern.new.links c.intern.new.buckets c.in-None.ensures
