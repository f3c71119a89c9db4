use Rattle.std.proofs.Common.{◌≡◌, ◌∷◌, Some, inl, inr, refl, map, length, take, drop, ◌-◌, ◌∙◌, sym, ap, arith, rules}
use Rattle.claims.specs.Places.{one}
use Rattle.resolve.specs.Says.{value, number_of, set, each_place, place_of}
use Rattle.resolve.specs.Scopes.{context, places_of, term_sort, signature}
use Rattle.resolve.proofs.ValuesLaws.{head_rest, mix_none, none_left}
use Rattle.resolve.proofs.RowsLaws.{listed_says}
use Rattle.resolve.proofs.ScopesLaws.{ring_is}
use Rattle.resolve.proofs.RingLaws.{further_means, back_means}
use Rattle.resolve.specs.Faults.{class_of, class_of_sort, other_class}
use Rattle.resolve.specs.declared.fault.Class.TheVariants.{Formula, Place, Set}
use Rattle.resolve.proofs.FaultsLaws.{term_deeper, term_number, term_listed, listed_first, listed_rest, term_named, term_round, no_term_passed, formula_not_place, formula_not_set, place_not_set, set_not_place, unary_class, binary_class}
use Rattle.resolve.proofs.terms.Resolver.+terms.Goals as goal

pub listed-returns-then-is_empty-clause-means : goal.listed-returns-then-is_empty-clause-means
listed-returns-then-is_empty-clause-means t c = λ e.
    let s = context c.args.scope.now e in
    let all = c.args.all.now in
    let parts = head_rest all c.first-item.result (omega (arith, c.in-len1-up.len_at_least)) c.first-item.is in
    let none = none_left (take (length all - 1) (drop 1 all)) (search (rules, c.is_empty.ensures, c.if-is_empty.true)) in
    ap (λ l. each_place (map (λ a. value a.kind s) l)) (parts ∙ ap (λ l. c.first-item.result ∷ l) none)
    ∙ mix_none (one (place_of (value c.first-item.result.kind s)))
    ∙ ap (λ v. one (place_of v)) (c.in_ok-place.ensures.means e)
    ∙ sym (c.in_ok-single.ensures e)

pub term-returns-in_ok-listed-in-Listed-clause-means : goal.term-returns-in_ok-listed-in-Listed-clause-means
term-returns-in_ok-listed-in-Listed-clause-means t c = λ e.
    let s = context c.args.scope.now e in
    ap (λ x. value x s) c.in-Listed.is ∙ listed_says c.in-Listed.all s
    ∙ ap (λ l. set (each_place (map (λ a. value a.kind s) l))) (sym c.deref.ensures.value) ∙ ap set (c.in_ok-listed-in-Listed.ensures.means e)

pub listed-returns-in_err-place-clause-faults : goal.listed-returns-in_err-place-clause-faults
listed-returns-in_err-place-clause-faults t c =
    let parts = head_rest c.args.all.now c.first-item.result (omega (arith, c.in-len1-up.len_at_least)) c.first-item.is in
    listed_first c.from_residual-in_err-place.result (signature c.args.scope.now) c.args.all.now _ c.first-item.result _ c.from_residual-in_err-place.ensures.1 parts c.in_err-place.ensures.faults

pub listed-returns-in_err-set-clause-faults : goal.listed-returns-in_err-set-clause-faults
listed-returns-in_err-set-clause-faults t c =
    let parts = head_rest c.args.all.now c.first-item.result (omega (arith, c.in-len1-up.len_at_least)) c.first-item.is in
    listed_rest c.from_residual-in_err-set.result (signature c.args.scope.now) c.args.all.now _ c.first-item.result _ c.from_residual-in_err-set.ensures.1 parts c.in_err-set.ensures.faults

pub group-returns-clause-faults : goal.group-returns-clause-faults
group-returns-clause-faults t c = inr (other_class (c.in_ok-group.ensures.sorts ∙ ap (λ x. Some (class_of_sort (term_sort x))) c.in-Place.is) place_not_set)

pub place-returns-clause-faults : goal.place-returns-clause-faults
place-returns-clause-faults t c = inr (other_class (c.in_ok-place.ensures.sorts ∙ ap (λ x. Some (class_of_sort (term_sort x))) c.in-Set.is) set_not_place)

pub term-returns-in_err-listed-in-Listed-clause-faults : goal.term-returns-in_err-listed-in-Listed-clause-faults
term-returns-in_err-listed-in-Listed-clause-faults t c = term_listed c.from_residual-in_err-listed-in-Listed.result (signature c.args.scope.now) c.args.wanted c.args.expr.now c.in-Listed.all c.deref.result.now _ c.from_residual-in_err-listed-in-Listed.ensures.1 c.in-Listed.is c.deref.ensures.value c.in_err-listed-in-Listed.ensures.faults

pub term-returns-in_err-a-in-Min-clause-faults : goal.term-returns-in_err-a-in-Min-clause-faults
term-returns-in_err-a-in-Min-clause-faults t c =
    let d : c.deref-in-Min.result.now ≡ c.in-Unary.a.value = c.deref-in-Min.ensures in
    term_deeper c.from_residual-in_err-a-in-Min.result (signature c.args.scope.now) c.args.wanted c.args.expr.now Set c.deref-in-Min.result.now _ c.from_residual-in_err-a-in-Min.ensures.1 c.in_err-a-in-Min.ensures.faults (rw (c.in-Unary.is, c.in-Min.is, d) (inl refl))

pub term-returns-in_err-a-in-Max-clause-faults : goal.term-returns-in_err-a-in-Max-clause-faults
term-returns-in_err-a-in-Max-clause-faults t c =
    let d : c.deref-in-Max.result.now ≡ c.in-Unary.a.value = c.deref-in-Max.ensures in
    term_deeper c.from_residual-in_err-a-in-Max.result (signature c.args.scope.now) c.args.wanted c.args.expr.now Set c.deref-in-Max.result.now _ c.from_residual-in_err-a-in-Max.ensures.1 c.in_err-a-in-Max.ensures.faults (rw (c.in-Unary.is, c.in-Max.is, d) (inl refl))

pub term-returns-in_err-a-in-Plus-clause-faults : goal.term-returns-in_err-a-in-Plus-clause-faults
term-returns-in_err-a-in-Plus-clause-faults t c =
    let d : c.deref-in-Plus.result.now ≡ c.in-Binary.a.value = c.deref-in-Plus.ensures in
    term_deeper c.from_residual-in_err-a-in-Plus.result (signature c.args.scope.now) c.args.wanted c.args.expr.now Place c.deref-in-Plus.result.now _ c.from_residual-in_err-a-in-Plus.ensures.1 c.in_err-a-in-Plus.ensures.faults (rw (c.in-Binary.is, c.in-Plus.is, d) (inl refl))

pub term-returns-in_err-a-in-Minus-clause-faults : goal.term-returns-in_err-a-in-Minus-clause-faults
term-returns-in_err-a-in-Minus-clause-faults t c =
    let d : c.deref-in-Minus.result.now ≡ c.in-Binary.a.value = c.deref-in-Minus.ensures in
    term_deeper c.from_residual-in_err-a-in-Minus.result (signature c.args.scope.now) c.args.wanted c.args.expr.now Place c.deref-in-Minus.result.now _ c.from_residual-in_err-a-in-Minus.ensures.1 c.in_err-a-in-Minus.ensures.faults (rw (c.in-Binary.is, c.in-Minus.is, d) (inl refl))

pub term-returns-in_err-a-in-Union-clause-faults : goal.term-returns-in_err-a-in-Union-clause-faults
term-returns-in_err-a-in-Union-clause-faults t c =
    let d : c.deref-in-Union.result.now ≡ c.in-Binary.a.value = c.deref-in-Union.ensures in
    term_deeper c.from_residual-in_err-a-in-Union.result (signature c.args.scope.now) c.args.wanted c.args.expr.now Set c.deref-in-Union.result.now _ c.from_residual-in_err-a-in-Union.ensures.1 c.in_err-a-in-Union.ensures.faults (rw (c.in-Binary.is, c.in-Union.is, d) (inl refl))

pub term-returns-in_err-b-in-Union-clause-faults : goal.term-returns-in_err-b-in-Union-clause-faults
term-returns-in_err-b-in-Union-clause-faults t c =
    let d : c.deref-in-Union-2.result.now ≡ c.in-Binary.b.value = c.deref-in-Union-2.ensures in
    term_deeper c.from_residual-in_err-b-in-Union.result (signature c.args.scope.now) c.args.wanted c.args.expr.now Set c.deref-in-Union-2.result.now _ c.from_residual-in_err-b-in-Union.ensures.1 c.in_err-b-in-Union.ensures.faults (rw (c.in-Binary.is, c.in-Union.is, d) (inr (inl refl)))

pub term-returns-in_err-a-in-Inter-clause-faults : goal.term-returns-in_err-a-in-Inter-clause-faults
term-returns-in_err-a-in-Inter-clause-faults t c =
    let d : c.deref-in-Inter.result.now ≡ c.in-Binary.a.value = c.deref-in-Inter.ensures in
    term_deeper c.from_residual-in_err-a-in-Inter.result (signature c.args.scope.now) c.args.wanted c.args.expr.now Set c.deref-in-Inter.result.now _ c.from_residual-in_err-a-in-Inter.ensures.1 c.in_err-a-in-Inter.ensures.faults (rw (c.in-Binary.is, c.in-Inter.is, d) (inl refl))

pub term-returns-in_err-b-in-Inter-clause-faults : goal.term-returns-in_err-b-in-Inter-clause-faults
term-returns-in_err-b-in-Inter-clause-faults t c =
    let d : c.deref-in-Inter-2.result.now ≡ c.in-Binary.b.value = c.deref-in-Inter-2.ensures in
    term_deeper c.from_residual-in_err-b-in-Inter.result (signature c.args.scope.now) c.args.wanted c.args.expr.now Set c.deref-in-Inter-2.result.now _ c.from_residual-in_err-b-in-Inter.ensures.1 c.in_err-b-in-Inter.ensures.faults (rw (c.in-Binary.is, c.in-Inter.is, d) (inr (inl refl)))

pub term-returns-in_err-a-in-Without-clause-faults : goal.term-returns-in_err-a-in-Without-clause-faults
term-returns-in_err-a-in-Without-clause-faults t c =
    let d : c.deref-in-Without.result.now ≡ c.in-Binary.a.value = c.deref-in-Without.ensures in
    term_deeper c.from_residual-in_err-a-in-Without.result (signature c.args.scope.now) c.args.wanted c.args.expr.now Set c.deref-in-Without.result.now _ c.from_residual-in_err-a-in-Without.ensures.1 c.in_err-a-in-Without.ensures.faults (rw (c.in-Binary.is, c.in-Without.is, d) (inl refl))

pub term-returns-in_err-b-in-Without-clause-faults : goal.term-returns-in_err-b-in-Without-clause-faults
term-returns-in_err-b-in-Without-clause-faults t c =
    let d : c.deref-in-Without-2.result.now ≡ c.in-Binary.b.value = c.deref-in-Without-2.ensures in
    term_deeper c.from_residual-in_err-b-in-Without.result (signature c.args.scope.now) c.args.wanted c.args.expr.now Set c.deref-in-Without-2.result.now _ c.from_residual-in_err-b-in-Without.ensures.1 c.in_err-b-in-Without.ensures.faults (rw (c.in-Binary.is, c.in-Without.is, d) (inr (inl refl)))

pub term-returns-in_err-number-in-Plus-clause-faults : goal.term-returns-in_err-number-in-Plus-clause-faults
term-returns-in_err-number-in-Plus-clause-faults t c =
    let d : c.deref-in-Plus-2.result.now ≡ c.in-Binary.b.value = c.deref-in-Plus-2.ensures in
    term_number c.from_residual-in_err-number-in-Plus.result (signature c.args.scope.now) c.args.wanted c.args.expr.now c.deref-in-Plus-2.result.now _ c.from_residual-in_err-number-in-Plus.ensures.1 c.in_err-number-in-Plus.ensures.faults (rw (c.in-Binary.is, c.in-Plus.is) (sym d))

pub term-returns-in_err-number-in-Minus-clause-faults : goal.term-returns-in_err-number-in-Minus-clause-faults
term-returns-in_err-number-in-Minus-clause-faults t c =
    let d : c.deref-in-Minus-2.result.now ≡ c.in-Binary.b.value = c.deref-in-Minus-2.ensures in
    term_number c.from_residual-in_err-number-in-Minus.result (signature c.args.scope.now) c.args.wanted c.args.expr.now c.deref-in-Minus-2.result.now _ c.from_residual-in_err-number-in-Minus.ensures.1 c.in_err-number-in-Minus.ensures.faults (rw (c.in-Binary.is, c.in-Minus.is) (sym d))

pub term-returns-in-Named-clause-faults : goal.term-returns-in-Named-clause-faults
term-returns-in-Named-clause-faults t c = term_named c.name.result (signature c.args.scope.now) c.args.wanted c.args.expr.now c.in-Named.name c.in-Named.is c.name.ensures.faults

pub term-returns-in_default-clause-faults : goal.term-returns-in_default-clause-faults
term-returns-in_default-clause-faults t c = inr (inl (rw c.in-Unary.is (unary_class (signature c.args.scope.now) c.in-Unary.sign c.in-Unary.a c.in_default.not-Min c.in_default.not-Max), refl))

pub term-returns-in_default-sign-clause-faults : goal.term-returns-in_default-sign-clause-faults
term-returns-in_default-sign-clause-faults t c = let f = c.in_default-sign in inr (inl (rw c.in-Binary.is (binary_class (signature c.args.scope.now) c.in-Binary.sign c.in-Binary.a c.in-Binary.b f.not-Union f.not-Inter f.not-Without f.not-Plus f.not-Minus), refl))

pub term-returns-in-True-clause-faults : goal.term-returns-in-True-clause-faults
term-returns-in-True-clause-faults t c =
    let k = signature c.args.scope.now in
    let formula : class_of k c.args.expr.now.kind ≡ Some Formula = elim c.in-True.is [
      | inl x ↦ ap (λ y. class_of k y) x
      | inr x ↦ elim x [
        | inl y ↦ ap (λ z. class_of k z) y
        | inr y ↦ elim y [ inl z ↦ ap (λ v. class_of k v) z.4 | inr z ↦ elim z [ inl v ↦ ap (λ u. class_of k u) v.2 | inr v ↦ ap (λ u. class_of k u) v.3 ] ]
      ]
    ] in
    inr (inl (formula, refl))

pub group-returns-in_err-group-clause-faults : goal.group-returns-in_err-group-clause-faults
group-returns-in_err-group-clause-faults t c = no_term_passed c.from_residual-in_err-group.result (signature c.args.scope.now) Set c.args.expr.now _ formula_not_set c.from_residual-in_err-group.ensures.1 c.in_err-group.ensures.faults

pub place-returns-in_err-place-clause-faults : goal.place-returns-in_err-place-clause-faults
place-returns-in_err-place-clause-faults t c = no_term_passed c.from_residual-in_err-place.result (signature c.args.scope.now) Place c.args.expr.now _ formula_not_place c.from_residual-in_err-place.ensures.1 c.in_err-place.ensures.faults

pub term-returns-in_err-check_ends-in-Number-clause-faults : goal.term-returns-in_err-check_ends-in-Number-clause-faults
term-returns-in_err-check_ends-in-Number-clause-faults t c = term_round c.from_residual-in_err-check_ends-in-Number.result (signature c.args.scope.now) c.args.wanted c.args.expr.now _ c.from_residual-in_err-check_ends-in-Number.ensures.1 c.in_err-check_ends-in-Number.ensures.faults (rw c.in-Number.is tt)

pub term-returns-in_err-check_ends-in-Min-clause-faults : goal.term-returns-in_err-check_ends-in-Min-clause-faults
term-returns-in_err-check_ends-in-Min-clause-faults t c = term_round c.from_residual-in_err-check_ends-in-Min.result (signature c.args.scope.now) c.args.wanted c.args.expr.now _ c.from_residual-in_err-check_ends-in-Min.ensures.1 c.in_err-check_ends-in-Min.ensures.faults (rw (c.in-Unary.is, c.in-Min.is) tt)

pub term-returns-in_err-check_ends-in-Max-clause-faults : goal.term-returns-in_err-check_ends-in-Max-clause-faults
term-returns-in_err-check_ends-in-Max-clause-faults t c = term_round c.from_residual-in_err-check_ends-in-Max.result (signature c.args.scope.now) c.args.wanted c.args.expr.now _ c.from_residual-in_err-check_ends-in-Max.ensures.1 c.in_err-check_ends-in-Max.ensures.faults (rw (c.in-Unary.is, c.in-Max.is) tt)

pub term-returns-in_ok-further-in-Plus-clause-means : goal.term-returns-in_ok-further-in-Plus-clause-means
term-returns-in_ok-further-in-Plus-clause-means t c = λ e.
    let s = context c.args.scope.now e in
    let a = c.in-Binary.a.value in
    let b = c.in-Binary.b.value in
    let d1 : c.deref-in-Plus.result.now ≡ a = c.deref-in-Plus.ensures in
    let d2 : c.deref-in-Plus-2.result.now ≡ b = c.deref-in-Plus-2.ensures in
    let at = ap (λ x. value x.kind s) (sym d1) ∙ c.in_ok-a-in-Plus.ensures.means e in
    let by = c.in_ok-number-in-Plus.ensures.means ∙ ap (λ x. number_of x.kind) d2 in
    let on = ring_is c.args.scope.now e ∙ ap (λ o. places_of o e) (sym c.ring_of.ensures) in
    rw (c.in-Binary.is, c.in-Plus.is) (further_means s a b (places_of c.ring_of.result e) _ _ _ at by on (c.in_ok-further-in-Plus.ensures.means e))

pub term-returns-in_ok-back-in-Minus-clause-means : goal.term-returns-in_ok-back-in-Minus-clause-means
term-returns-in_ok-back-in-Minus-clause-means t c = λ e.
    let s = context c.args.scope.now e in
    let a = c.in-Binary.a.value in
    let b = c.in-Binary.b.value in
    let d1 : c.deref-in-Minus.result.now ≡ a = c.deref-in-Minus.ensures in
    let d2 : c.deref-in-Minus-2.result.now ≡ b = c.deref-in-Minus-2.ensures in
    let at = ap (λ x. value x.kind s) (sym d1) ∙ c.in_ok-a-in-Minus.ensures.means e in
    let by = c.in_ok-number-in-Minus.ensures.means ∙ ap (λ x. number_of x.kind) d2 in
    let on = ring_is c.args.scope.now e ∙ ap (λ o. places_of o e) (sym c.ring_of-in-Minus.ensures) in
    rw (c.in-Binary.is, c.in-Minus.is) (back_means s a b (places_of c.ring_of-in-Minus.result e) _ _ _ at by on (c.in_ok-back-in-Minus.ensures.means e))
