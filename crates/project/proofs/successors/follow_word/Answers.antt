use Rattle.std.proofs.Common.{ℕ, ◌+◌, ◌/◌, List, sym, subst, arith, rules}
use Rattle.tables.specs.Cells.{entry}
use Rattle.bitsets.specs.Bitrows.{has}
use Rattle.live.specs.Dead.{lives}
use Rattle.project.specs.Successors.{Leads}
use Rattle.bitsets.proofs.BitrowsLaws.{bits_below_now, bits_below_later}
use Rattle.project.proofs.SuccessorsLaws.{Ahead, ahead_put, ahead_skip, ahead_end}
use Rattle.project.proofs.successors.follow_word.Goals as goal
use Rattle.project.proofs.successors.follow_word.Goals.{then-left-eq1, else-left-eq1}

pub overflow_cast-q : goal.overflow_cast-q
overflow_cast-q c = let h = bits_below_now c.args.p.now.t.table.classes c.loop-left.q c.loop-left.left c.loop-left.invariant.0 c.if-left-eq1.true in search rules

pub follow_class-requires : goal.follow_class-requires
follow_class-requires c = let h = bits_below_now c.args.p.now.t.table.classes c.loop-left.q c.loop-left.left c.loop-left.invariant.0 c.if-left-eq1.true in search rules

pub loop-left-preserved : goal.loop-left-preserved
loop-left-preserved c =
    let L : ℕ → ℕ → Type 0 = Leads (entry c.args.p.now.t.table.rows.now c.args.p.now.t.table.width) (lives c.args.p.now.t.table.classes c.args.p.now.dead) c.args.a c.args.b in
    let X = has c.args.row.now in
    let from = c.args.from in
    let word = c.args.word in
    let p = c.loop-left.q in
    let left = c.loop-left.left in
    let h : Ahead L X from word (has c.loop-left.row) p left = c.loop-left.invariant.2 in
    let P : List ℕ → Type 0 = λ row. Ahead L X from word (has row) (p + 1) (left / 2) in (
      bits_below_later c.args.p.now.t.table.classes p left c.loop-left.invariant.0,
      omega arith,
      elim c.if-left-eq1.branch [
        | then-left-eq1 w ↦ subst P (sym w.row-is) (ahead_put L X from word (has c.loop-left.row) p left h _ w.if-left-eq1.true w.follow_class.ensures)
        | else-left-eq1 w ↦ subst P (sym w.row-is) (ahead_skip L X from word (has c.loop-left.row) p left h w.if-left-eq1.false)
      ],
    )

pub returns : goal.returns
returns c =
    let L : ℕ → ℕ → Type 0 = Leads (entry c.args.p.now.t.table.rows.now c.args.p.now.t.table.width) (lives c.args.p.now.t.table.classes c.args.p.now.dead) c.args.a c.args.b in
    ahead_end L (has c.args.row.now) c.args.from c.args.word (has c.loop-left.row) c.loop-left.q c.loop-left.left c.loop-left.invariant.2 c.loop-left-test.false
