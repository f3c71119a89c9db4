use Rattle.std.proofs.Common.{true, false, arith}
use Rattle.words.proofs.BitsLaws.{put_bit_below}
use Rattle.tables.specs.Cells.{entry}
use Rattle.bitsets.specs.Bitrows.{member}
use Rattle.live.specs.Dead.{lives}
use Rattle.project.proofs.SubsetsLaws.{put_is, put_same, step_made}
use Rattle.project.proofs.subsets.next_set.Goals as goal

pub follow-requires-clause-second : goal.follow-requires-clause-second
follow-requires-clause-second c =
    let p = c.args.p.now in
    let e = put_is p.x.0 c.args.a c.with_bit-b.result true c.with_bit-b.ensures.here c.with_bit-b.ensures.others in
    let b = put_bit_below p.t.sets p.x.0 true c.args.a p.bound (omega (arith, p.t.wide, c.requires.column)) in
    omega (arith, p.t.wide)

pub returns-clause-made : goal.returns-clause-made
returns-clause-made c =
    let p = c.args.p.now in
    let x = p.x.0 in
    let a = c.args.a in
    let b = c.with_bit-b.result in
    step_made p.t.table.classes (entry p.t.table.rows.now p.t.table.width) (lives p.t.table.classes p.dead) x (member c.args.sets.now p.w c.args.i) (member c.follow.new.sets p.w c.args.n) a b
    c.requires.inside (put_same x a false c.requires.without) (put_is x a b true c.with_bit-b.ensures.here c.with_bit-b.ensures.others) c.follow.ensures.made
