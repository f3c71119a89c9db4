use Rattle.std.proofs.Common.{◌≡◌, ◌-◌, ◌<◌, ℕ, suc, true, false, length, slice_index_or, List, [], ◌∷◌, ◌++◌, ap, sym, subst, ◌∙◌, arith}
use native.Mathlib.Decide.{dec_lt}
use Rattle.formulas.specs.Names.{Among}
use Rattle.rows.proofs.Bools.{bool_apart}
use Rattle.strengthen.specs.Listed.{Below}
use Rattle.strengthen.proofs.ListedLaws.{any_default, below_push, among_left, among_last}
use Rattle.strengthen.proofs.known.left_numbers.Goals.{then-left-j+in_ok-push, else-left-j}
use Rattle.strengthen.proofs.known.left_numbers.Goals as goal

pub loop-j-preserved : goal.loop-j-preserved
loop-j-preserved c = elim c.if-left-j.branch [
  | then-left-j+in_ok-push w ↦ (
      let e : c.if-left-j.numbers.items ≡ c.loop-j.numbers.items ++ ((c.loop-j.j - 1) ∷ []) = ap (λ v. v.items) w.numbers-is ∙ w.in_ok-push.ensures.items in
      record {
        below = λ n h. subst (Below n) (sym e) (below_push n c.loop-j.numbers.items (c.loop-j.j - 1) (c.loop-j.invariant.below n h) (let l = c.loop-j-test.true in let k = c.loop-j.auto.j in omega arith));
        all = λ i h l. subst (λ xs. Among i xs) (sym e) (elim (dec_lt (suc i) c.loop-j.j) [
          | yes s ↦ among_left c.loop-j.numbers.items (c.loop-j.j - 1) i (c.loop-j.invariant.all i s l)
          | no s ↦ (let f : c.loop-j.j - 1 ≡ i = omega arith in subst (λ z. Among i (c.loop-j.numbers.items ++ (z ∷ []))) (sym f) (among_last c.loop-j.numbers.items i))
        ]);
      }
      )
  | else-left-j w ↦ (
      let e : c.if-left-j.numbers.items ≡ c.loop-j.numbers.items = ap (λ v. v.items) w.numbers-is in
      record {
        below = λ n h. subst (Below n) (sym e) (c.loop-j.invariant.below n h);
        all = λ i h l. subst (λ xs. Among i xs) (sym e) (elim (dec_lt (suc i) c.loop-j.j) [
          | yes s ↦ c.loop-j.invariant.all i s l
          | no s ↦ (let f : suc i ≡ c.loop-j.j = omega arith in let d : slice_index_or c.args.left.now c.loop-j.j false ≡ true = subst (λ z. slice_index_or c.args.left.now z false ≡ true) f (any_default c.args.left.now (suc i) false true (let q = c.loop-j-test.true in omega arith) ∙ l) in absurd (bool_apart d w.if-left-j.false))
        ]);
      }
      )
]
