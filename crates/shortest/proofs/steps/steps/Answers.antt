use Rattle.std.proofs.Common.{◌≡◌, ℕ, ◌^◌, ◌<◌, ◌∙◌, sym, subst, arith}
use Rattle.std.proofs.lemmas.List.{length-set}
use Rattle.tables.specs.declared.cells.WordTable.{WordTable}
use Rattle.tables.specs.View.{moves}
use Rattle.shortest.proofs.StepsLaws.{Noting, noting_row, noting_old, noting_new, noting_words, noting_all}
use Rattle.shortest.proofs.steps.steps.Goals as goal
use Rattle.shortest.proofs.steps.steps.Goals.{then-to-count, else-to-count}

closed : (t : WordTable) (q a : ℕ) → q < t.table.classes → a < 2 ^ t.sets → moves t.table q a < t.table.classes
closed t q a h g = t.table.below q a h (omega (arith, t.wide))

pub loop-a-preserved : goal.loop-a-preserved
loop-a-preserved c =
    let t = c.args.t in
    let s = c.loop-a in
    let (h, fp, fv, x) = s.invariant in
    let inside : s.a < 2 ^ t.sets = omega (arith, t.wide) in
    let to = c.next-to.ensures.value in
    elim c.if-to-count.branch [
      | then-to-count w ↦ rw (w.prev-is, w.via-is, w.count-is) (
        omega arith,
        length-set s.prev s.count c.loop-i.i ∙ fp,
        length-set s.via s.count s.a ∙ fv,
        noting_new (closed t) x h inside (sym to ∙ w.if-to-count.true) (omega arith) (omega arith),
      )
      | else-to-count w ↦ rw (w.prev-is, w.via-is, w.count-is) (h, fp, fv, noting_old (closed t) x h inside (λ e. w.if-to-count.false (to ∙ e)))
    ]

pub loop-i-preserved : goal.loop-i-preserved
loop-i-preserved c =
    let t = c.args.t in
    let s = c.loop-a in
    let (h, fp, fv, x) = s.invariant in
    let all : s.a ≡ 2 ^ t.sets = omega (arith, t.wide) in
    (omega arith, fp, fv, noting_row (subst (Noting t.sets t.table.classes (moves t.table) s.count s.prev s.via c.loop-i.i) all x))

pub returns-else-count-last-clause-words : goal.returns-else-count-last-clause-words
returns-else-count-last-clause-words c = noting_words c.loop-i.invariant.3

pub returns-after-loop-i-clause-noted : goal.returns-after-loop-i-clause-noted
returns-after-loop-i-clause-noted c o h = let all = noting_all (closed c.args.t) c.loop-i.invariant.3 (omega arith) o in omega arith

pub returns-after-loop-i-clause-words : goal.returns-after-loop-i-clause-words
returns-after-loop-i-clause-words c = noting_words c.loop-i.invariant.3
