use Rattle.std.proofs.Common.{◌≡◌, inl, inr, refl, ◌-◌, suc, ◌∷◌, map, length, take, drop, ◌∙◌, sym, ap, arith, rules, subst, ◌↔◌, add-one}
use Rattle.formulas.specs.Meaning.{Env, Meaning}
use Rattle.resolve.specs.Says.{Context, Value, value, holds, quantified, bind, bind_all}
use Rattle.resolve.specs.Scopes.{context, row_of, signature, Settled, Steady, IsBelow, OverAll}
use Rattle.resolve.proofs.Iff.{iff_trans, iff_sym, if_ok}
use Rattle.resolve.proofs.ScopesLaws.{settled, steady_more, row_below, along, quantified_says}
use Rattle.resolve.proofs.ValuesLaws.{head_rest}
use Rattle.resolve.proofs.RowsLaws.{call_says}
use Rattle.trees.specs.Tree.{Expr}
use Rattle.resolve.specs.declared.fault.Class.TheVariants.{Formula}
use Rattle.resolve.proofs.FaultsLaws.{one_passed, two_tail, two_passed, bound_more, bound_tail, call_argument, call_more, call_unknown, call_count, call_tail, none_known}
use Rattle.resolve.proofs.terms.Resolver.+statements.Goals as goal

pub bound-bound-requires : goal.bound-bound-requires
bound-bound-requires t c =
    let n = c.args.level in
    let e : c.in-Some.next ≡ suc n = omega (arith, c.in-Some.ensures) in
    (search rules, (subst (λ m. Settled m c.in_ok-term.term) (sym e) (subst (λ m. Settled m c.in_ok-term.term) (add-one n) c.in_ok-term.ensures.settled), subst (λ m. Steady m c.args.scope.now) (sym e) (steady_more n c.args.scope.now c.requires)))

pub bound-returns-clause-says : goal.bound-returns-clause-says
bound-returns-clause-says t c = λ e.
    let s = c.args.scope.now in
    let xs = c.args.names.now in
    let x = c.first-item.result in
    let rest = take (length xs - 1) (drop 1 xs) in
    let F : Context → Type 0 = λ z. holds c.args.body.now.kind z in
    let parts = head_rest xs x (omega (arith, c.in-len1-up.len_at_least)) c.first-item.is in
    let inner = λ (f : Env). subst (λ v. Meaning c.in_ok-formula.formula.value f ↔ quantified c.args.quantifier c.args.sort rest F (bind x v (context s f))) (c.in_ok-term.ensures.means f) (c.in_ok-formula.ensures.says f) in
    let says = quantified_says c.args.quantifier c.args.sort c.args.level s x rest F (λ f. Meaning c.in_ok-formula.formula.value f) c.requires inner e in
    let over = subst (λ row. Meaning c.in_ok-over.field-0.value e ↔ OverAll c.args.quantifier c.args.sort c.args.level row (λ f. Meaning c.in_ok-formula.formula.value f) e) c.row_of.ensures (c.in_ok-over.ensures e) in
    iff_trans over (subst (λ l. OverAll c.args.quantifier c.args.sort c.args.level (row_of s) (λ f. Meaning c.in_ok-formula.formula.value f) e ↔ quantified c.args.quantifier c.args.sort l F (context s e)) (sym parts) says)

pub bound-over-requires : goal.bound-over-requires
bound-over-requires t c = subst (λ row. IsBelow c.args.level row) (sym c.row_of.ensures) (row_below c.args.level c.args.scope.now c.requires)

pub expanded-expanded-requires : goal.expanded-expanded-requires
expanded-expanded-requires t c =
    (search rules, ((settled c.args.level c.args.around.now c.argument-item.result.kind c.in_ok-term.term c.requires.outside c.in_ok-term.ensures.says, c.requires.inside), c.requires.outside))

pub expanded-returns-clause-says : goal.expanded-returns-clause-says
expanded-returns-clause-says t c =
    let ps = c.args.parameters.now in
    let xs = c.args.arguments.now in
    let p = c.parameter-item.result in
    let a = c.argument-item.result in
    let qs = take (length ps - 1) (drop 1 ps) in
    let ys = take (length xs - 1) (drop 1 xs) in
    let first = head_rest ps p (omega (arith, c.in-len1-up.len_at_least)) c.parameter-item.is in
    let second = head_rest xs a (omega (arith, c.in-len1-up-arguments.len_at_least)) c.argument-item.is in
    if_ok c.expanded.result _ _ (λ f h e.
    let s = context c.args.scope.now e in
    let g : Expr → Value = λ x. value x.kind (context c.args.around.now e) in
    let same = ap (λ l. bind_all l (map g xs) s) first ∙ ap (λ l. bind_all (p ∷ qs) (map g l) s) second ∙ ap (λ v. bind_all qs (map g ys) (bind p.name v s)) (c.in_ok-term.ensures.says e) in
    iff_trans (h e) (along (λ z. holds c.args.body.now.kind z) _ _ (sym same))) c.expanded.ensures.says

pub formula-expanded-requires : goal.formula-expanded-requires
formula-expanded-requires t c = (search rules, (c.in-Some.ensures.steady c.args.level c.requires, c.requires))

pub formula-returns-in-Bound-clause-says : goal.formula-returns-in-Bound-clause-says
formula-returns-in-Bound-clause-says t c =
    let at = c.in-Bound in
    if_ok c.bound.result _ _ (λ f h e.
    let s = context c.args.scope.now e in
    let k = h e in
    rw (at.is, ← c.deref-in-Bound.ensures.value, ← c.deref-in-Bound-2.ensures) k) c.bound.ensures.says

pub formula-returns-else-wanted-len-clause-says : goal.formula-returns-else-wanted-len-clause-says
formula-returns-else-wanted-len-clause-says t c =
    let at = c.in-Call in
    let known = c.in-Some.known in
    if_ok c.expanded.result _ _ (λ f h e.
    let s = context c.args.scope.now e in
    let around = context known.scope.now e in
    let g : Expr → Value = λ x. value x.kind s in
    let same = ap (λ l. bind_all l (map g c.deref-in-Call-2.result.now) around) c.deref-in-Call.ensures.value
    ∙ ap (λ l. bind_all known.predicate.now.parameters.items (map g l) around) c.deref-in-Call-2.ensures.value in
    let said = iff_trans (call_says at.name at.arguments s) (c.in-Some.ensures.says e (map g at.arguments.items)) in
    subst (λ x. Meaning f.value e ↔ holds x s) (sym at.is)
    (iff_trans (h e) (iff_trans (along (λ z. holds known.predicate.now.body.kind z) _ _ same) (iff_sym said)))) c.expanded.ensures.says

pub formula-returns-in_err-a-in-Not-clause-faults : goal.formula-returns-in_err-a-in-Not-clause-faults
formula-returns-in_err-a-in-Not-clause-faults t c =
    let d1 : c.deref.result.now ≡ c.in-Unary.a.value = c.deref.ensures in
    one_passed c.from_residual-in_err-a-in-Not.result (signature c.args.scope.now) c.args.expr.now Formula c.deref.result.now _ c.from_residual-in_err-a-in-Not.ensures.1 c.in_err-a-in-Not.ensures.faults (rw (c.in-Unary.is, c.in-Not.is, d1) (inl refl))

pub formula-returns-in_err-a-in-And-clause-faults : goal.formula-returns-in_err-a-in-And-clause-faults
formula-returns-in_err-a-in-And-clause-faults t c =
    let d1 : c.deref-in-And.result.now ≡ c.in-Binary.a.value = c.deref-in-And.ensures in
    one_passed c.from_residual-in_err-a-in-And.result (signature c.args.scope.now) c.args.expr.now Formula c.deref-in-And.result.now _ c.from_residual-in_err-a-in-And.ensures.1 c.in_err-a-in-And.ensures.faults (rw (c.in-Binary.is, c.in-And.is, d1) (inl refl))

pub formula-returns-in_err-b-in-And-clause-faults : goal.formula-returns-in_err-b-in-And-clause-faults
formula-returns-in_err-b-in-And-clause-faults t c =
    let d2 : c.deref-in-And-2.result.now ≡ c.in-Binary.b.value = c.deref-in-And-2.ensures in
    one_passed c.from_residual-in_err-b-in-And.result (signature c.args.scope.now) c.args.expr.now Formula c.deref-in-And-2.result.now _ c.from_residual-in_err-b-in-And.ensures.1 c.in_err-b-in-And.ensures.faults (rw (c.in-Binary.is, c.in-And.is, d2) (inr (inl refl)))

pub formula-returns-in_err-a-in-Or-clause-faults : goal.formula-returns-in_err-a-in-Or-clause-faults
formula-returns-in_err-a-in-Or-clause-faults t c =
    let d1 : c.deref-in-Or.result.now ≡ c.in-Binary.a.value = c.deref-in-Or.ensures in
    one_passed c.from_residual-in_err-a-in-Or.result (signature c.args.scope.now) c.args.expr.now Formula c.deref-in-Or.result.now _ c.from_residual-in_err-a-in-Or.ensures.1 c.in_err-a-in-Or.ensures.faults (rw (c.in-Binary.is, c.in-Or.is, d1) (inl refl))

pub formula-returns-in_err-b-in-Or-clause-faults : goal.formula-returns-in_err-b-in-Or-clause-faults
formula-returns-in_err-b-in-Or-clause-faults t c =
    let d2 : c.deref-in-Or-2.result.now ≡ c.in-Binary.b.value = c.deref-in-Or-2.ensures in
    one_passed c.from_residual-in_err-b-in-Or.result (signature c.args.scope.now) c.args.expr.now Formula c.deref-in-Or-2.result.now _ c.from_residual-in_err-b-in-Or.ensures.1 c.in_err-b-in-Or.ensures.faults (rw (c.in-Binary.is, c.in-Or.is, d2) (inr (inl refl)))

pub formula-returns-in-Implies-clause-faults : goal.formula-returns-in-Implies-clause-faults
formula-returns-in-Implies-clause-faults t c =
    let d1 : c.deref-in-Implies.result.now ≡ c.in-Binary.a.value = c.deref-in-Implies.ensures in
    let d2 : c.deref-in-Implies-2.result.now ≡ c.in-Binary.b.value = c.deref-in-Implies-2.ensures in
    two_tail c.implication.result (signature c.args.scope.now) c.args.expr.now Formula Formula c.deref-in-Implies.result.now c.deref-in-Implies-2.result.now c.implication.ensures.faults (rw (c.in-Binary.is, c.in-Implies.is, d1) (inl refl)) (rw (c.in-Binary.is, c.in-Implies.is, d2) (inr (inl refl)))

pub formula-returns-in_err-first-in-Iff-clause-faults : goal.formula-returns-in_err-first-in-Iff-clause-faults
formula-returns-in_err-first-in-Iff-clause-faults t c =
    let d1 : c.deref-in-Iff.result.now ≡ c.in-Binary.a.value = c.deref-in-Iff.ensures in
    let d2 : c.deref-in-Iff-2.result.now ≡ c.in-Binary.b.value = c.deref-in-Iff-2.ensures in
    two_passed c.from_residual-in_err-first-in-Iff.result (signature c.args.scope.now) c.args.expr.now Formula Formula c.deref-in-Iff.result.now c.deref-in-Iff-2.result.now _ c.from_residual-in_err-first-in-Iff.ensures.1 c.in_err-first-in-Iff.ensures.faults (rw (c.in-Binary.is, c.in-Iff.is, d1) (inl refl)) (rw (c.in-Binary.is, c.in-Iff.is, d2) (inr (inl refl)))

pub formula-returns-in_err-second-in-Iff-clause-faults : goal.formula-returns-in_err-second-in-Iff-clause-faults
formula-returns-in_err-second-in-Iff-clause-faults t c =
    let d1 : c.deref-in-Iff-3.result.now ≡ c.in-Binary.b.value = c.deref-in-Iff-3.ensures in
    let d2 : c.deref-in-Iff-4.result.now ≡ c.in-Binary.a.value = c.deref-in-Iff-4.ensures in
    two_passed c.from_residual-in_err-second-in-Iff.result (signature c.args.scope.now) c.args.expr.now Formula Formula c.deref-in-Iff-3.result.now c.deref-in-Iff-4.result.now _ c.from_residual-in_err-second-in-Iff.ensures.1 c.in_err-second-in-Iff.ensures.faults (rw (c.in-Binary.is, c.in-Iff.is, d1) (inr (inl refl))) (rw (c.in-Binary.is, c.in-Iff.is, d2) (inl refl))

pub formula-returns-in-Bound-clause-faults : goal.formula-returns-in-Bound-clause-faults
formula-returns-in-Bound-clause-faults t c = let at = c.in-Bound in bound_tail c.bound.result (signature c.args.scope.now) c.args.expr.now at.quantifier at.sort at.names at.body c.deref-in-Bound.result.now c.deref-in-Bound-2.result.now at.is c.deref-in-Bound.ensures.value c.deref-in-Bound-2.ensures c.bound.ensures.faults

pub formula-returns-else-wanted-len-clause-faults : goal.formula-returns-else-wanted-len-clause-faults
formula-returns-else-wanted-len-clause-faults t c =
    let at = c.in-Call in
    let known = c.in-Some.known in
    let same : length c.deref-in-Call.result.now ≡ length c.deref-in-Call-2.result.now = search rules in
    call_tail (signature c.args.scope.now) c.args.expr.now at.name at.arguments c.expanded.result known.predicate.now (signature known.scope.now) c.deref-in-Call.result.now c.deref-in-Call-2.result.now known.predicate.now.body at.is c.in-Some.ensures.known c.deref-in-Call.ensures.value c.deref-in-Call-2.ensures.value refl same c.expanded.ensures.faults

pub formula-returns-then-wanted-len-clause-faults : goal.formula-returns-then-wanted-len-clause-faults
formula-returns-then-wanted-len-clause-faults t c =
    let at = c.in-Call in
    let known = c.in-Some.known in
    let wanted : c.len-wanted.result ≡ length known.predicate.now.parameters.items = search rules in
    let compared : c.len.result ≡ length at.arguments.items = search rules in
    let given : c.len-then-wanted-len.result ≡ length at.arguments.items = search rules in
    inr (call_count (signature c.args.scope.now) c.args.expr.now at.name at.arguments known.predicate.now (signature known.scope.now) c.len-wanted.result c.len-then-wanted-len.result at.is c.in-Some.ensures.known wanted given (λ q. c.if-wanted-len.true (q ∙ given ∙ sym compared)))

pub formula-returns-in_default-defined-clause-faults : goal.formula-returns-in_default-defined-clause-faults
formula-returns-in_default-defined-clause-faults t c =
    let at = c.in-Call in
    inr (call_unknown (signature c.args.scope.now) c.args.expr.now at.name at.arguments at.is (none_known c.defined.result _ (λ k. (k.predicate.now, signature k.scope.now)) c.in_default-defined.not-Some c.defined.ensures.known))

pub bound-returns-in_err-formula-clause-faults : goal.bound-returns-in_err-formula-clause-faults
bound-returns-in_err-formula-clause-faults t c =
    let xs = c.args.names.now in
    let rest = take (length xs - 1) (drop 1 xs) in
    let parts = head_rest xs c.first-item.result (omega (arith, c.in-len1-up.len_at_least)) c.first-item.is in
    bound_more c.from_residual-in_err-formula.result (signature c.args.scope.now) c.args.sort _ c.first-item.result xs rest c.args.body.now _ c.from_residual-in_err-formula.ensures.1 parts c.in_ok-term.ensures.sorts c.in_err-formula.ensures.faults

pub expanded-returns-in_err-term-clause-faults : goal.expanded-returns-in_err-term-clause-faults
expanded-returns-in_err-term-clause-faults t c =
    let ps = c.args.parameters.now in
    let xs = c.args.arguments.now in
    let qs = take (length ps - 1) (drop 1 ps) in
    let ys = take (length xs - 1) (drop 1 xs) in
    let one = head_rest ps c.parameter-item.result (omega (arith, c.in-len1-up.len_at_least)) c.parameter-item.is in
    let two = head_rest xs c.argument-item.result (omega (arith, c.in-len1-up-arguments.len_at_least)) c.argument-item.is in
    call_argument c.from_residual-in_err-term.result (signature c.args.around.now) (signature c.args.scope.now) ps qs xs ys c.args.body.now c.parameter-item.result c.argument-item.result _ c.from_residual-in_err-term.ensures.1 one two c.in_err-term.ensures.faults

pub expanded-returns-clause-faults : goal.expanded-returns-clause-faults
expanded-returns-clause-faults t c =
    let ps = c.args.parameters.now in
    let xs = c.args.arguments.now in
    let qs = take (length ps - 1) (drop 1 ps) in
    let ys = take (length xs - 1) (drop 1 xs) in
    let one = head_rest ps c.parameter-item.result (omega (arith, c.in-len1-up.len_at_least)) c.parameter-item.is in
    let two = head_rest xs c.argument-item.result (omega (arith, c.in-len1-up-arguments.len_at_least)) c.argument-item.is in
    call_more c.expanded.result (signature c.args.around.now) (signature c.args.scope.now) ps qs xs ys c.args.body.now c.parameter-item.result c.argument-item.result _ one two c.in_ok-term.ensures.sorts c.expanded.ensures.faults
