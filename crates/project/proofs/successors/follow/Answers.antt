use Rattle.std.proofs.Common.{◌≡◌, ℕ, ◌+◌, ◌-◌, ◌*◌, ◌<◌, List, sym, ◌∙◌, subst, arith}
use borrow.Rule.Slice.PartMut.{put_mid}
use Rattle.tables.specs.Cells.{entry}
use Rattle.tables.proofs.CellsLaws.{row_fits}
use Rattle.bitsets.specs.Bitrows.{row_at, has, member, Below}
use Rattle.live.specs.Dead.{lives}
use Rattle.project.specs.Successors.{Leads, Successors}
use Rattle.bitsets.proofs.BitrowsLaws.{part_length, row_put_before}
use Rattle.project.proofs.SuccessorsLaws.{Followed, followed_start, followed_bits, followed_word, followed_end}
use Rattle.project.proofs.successors.follow.Goals as goal

pub loop-z-init : goal.loop-z-init
loop-z-init c =
    let l = part_length c.args.sets.now c.args.p.now.w c.args.to c.requires.room in
    followed_start _ c.args.p.now.w c.args.i c.args.to c.args.sets.now c.clear.new.row c.requires.room (omega arith) c.clear.ensures

pub follow_word-requires-clause-inside : goal.follow_word-requires-clause-inside
follow_word-requires-clause-inside c =
    let s = c.args.sets.now in
    let w = c.args.p.now.w in
    let i = c.args.i in
    let to = c.args.to in
    let n = c.args.p.now.t.table.classes in
    let k = part_length s w to c.requires.room in
    let e = row_put_before s w to c.clear.new.row c.requires.room (omega arith) i c.requires.order in
    let P : List ℕ → Type 0 = λ x. Below n (has x) in
    let b : P (row_at (put_mid (to * w) (to * w + w - to * w) s c.clear.new.row) w i) = subst P (sym e) c.requires.inside in
    let l = part_length c.loop-z.sets w to (omega arith) in
    followed_bits _ w i to c.requires.order _ c.loop-z.sets c.loop-z.z c.loop-z.invariant (omega arith) c.loop-z-test.true n (omega arith) b

pub loop-z-preserved : goal.loop-z-preserved
loop-z-preserved c =
    let l = part_length c.loop-z.sets c.args.p.now.w c.args.to (omega arith) in
    followed_word _ c.args.p.now.w c.args.i c.args.to c.requires.order _ c.loop-z.sets c.loop-z.z c.loop-z.invariant (omega arith) c.loop-z-test.true c.follow_word.new.row (omega arith) (omega arith) c.follow_word.ensures

pub returns : goal.returns
returns c =
    let s = c.args.sets.now in
    let w = c.args.p.now.w in
    let i = c.args.i in
    let to = c.args.to in
    let row = c.clear.new.row in
    let L : ℕ → ℕ → Type 0 = Leads (entry c.args.p.now.t.table.rows.now c.args.p.now.t.table.width) (lives c.args.p.now.t.table.classes c.args.p.now.dead) c.args.a c.args.b in
    let old = put_mid (to * w) (to * w + w - to * w) s row in
    let k = part_length s w to c.requires.room in
    let before : (j : ℕ) → j < to → row_at old w j ≡ row_at s w j = λ j o. row_put_before s w to row c.requires.room (omega arith) j o in
    let z : c.loop-z.z ≡ w = omega arith in
    let f = row_fits i to w c.requires.order in
    let t = followed_end L w i to old c.loop-z.sets (subst (Followed L w i to old c.loop-z.sets) z c.loop-z.invariant) (omega arith) in
    let P : List ℕ → Type 0 = λ x. Successors (entry c.args.p.now.t.table.rows.now c.args.p.now.t.table.width) (lives c.args.p.now.t.table.classes c.args.p.now.dead) c.args.a c.args.b (has x) (member c.loop-z.sets w to) in
    record { made = subst P (before i c.requires.order) t; kept = λ j o. c.loop-z.invariant.0 j o ∙ before j o }
