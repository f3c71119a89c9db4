use Rattle.std.proofs.Common.{◌≡◌, ◌⊎◌, ◌+◌, ◌<◌, inl, inr, IfErr, string_bytes, List, suc, ◌-◌, ◌++◌, ◌∷◌, map, length, take, drop, ◌∙◌, sym, refl, ap, subst, arith, rules, add-one, OnOk}
use Rattle.formulas.specs.Sets.{highest}
use Rattle.resolve.specs.Spaces.{the_ring}
use Rattle.resolve.specs.Says.{bind, place, placed, ending, in_row, given, declare, count}
use Rattle.resolve.specs.Kinds.{kind_of}
use Rattle.resolve.specs.Scopes.{meant, context, signature, Settled, Steady}
use Rattle.resolve.specs.Asks.{declared, Written, AsksMore}
use Rattle.resolve.proofs.Iff.{on_ok}
use Rattle.resolve.proofs.ScopesLaws.{steady_more}
use Rattle.resolve.proofs.ValuesLaws.{head_rest}
use Rattle.trees.specs.declared.tree.Name.{Name}
use Rattle.resolve.specs.Faults.{Faulty, FaultyText, RowAgain, EndsAgain, IsLimit, named, with_ends, with_row as with_row_names}
use Rattle.resolve.specs.declared.fault.Class.TheVariants.{Formula}
use Rattle.resolve.proofs.FaultsLaws.{if_err}
use Rattle.resolve.proofs.TextFaultsLaws.{text_tail, text_passed, InNames, names_more}
use Rattle.resolve.proofs.AsksLaws.{nothing_more, assumed_more, claimed_more, name_more, rest_same, written_same}
use Rattle.resolve.proofs.terms.Resolver.+asking.Goals as goal

pub items-returns-in_default-clause-says : goal.items-returns-in_default-clause-says
items-returns-in_default-clause-says t c = nothing_more c.args.asked.now c.args.items.now c.args.level (λ e. context c.args.scope.now e) c.in_default.len_below

pub items-returns-in-Free-clause-says : goal.items-returns-in-Free-clause-says
items-returns-in-Free-clause-says t c =
    let xs = c.args.items.now in
    let rest = take (length xs - 1) (drop 1 xs) in
    let parts = head_rest xs c.first-item.result (omega (arith, c.in-len1-up.len_at_least)) c.first-item.is ∙ ap (λ z. z ∷ rest) c.in-Free.is in
    rw parts (subst (λ l. OnOk c.names.result (AsksMore c.args.asked.now c.names.new.asked (map (λ x. (x, kind_of c.in-Free.sort)) l ++ declared rest)
    (λ u v. Written rest (count c.args.level l) (λ e. declare c.in-Free.sort l c.args.level e (context c.args.scope.now e)) u v))) c.deref.ensures.value c.names.ensures.says)

pub items-returns-in_ok-push-in-Assert-clause-says : goal.items-returns-in_ok-push-in-Assert-clause-says
items-returns-in_ok-push-in-Assert-clause-says t c =
    let xs = c.args.items.now in
    let rest = take (length xs - 1) (drop 1 xs) in
    let parts = head_rest xs c.first-item.result (omega (arith, c.in-len1-up.len_at_least)) c.first-item.is ∙ ap (λ z. z ∷ rest) c.in-Assert.is in
    rw parts (on_ok c.items-in-Assert.result _ _
    (λ m. assumed_more c.args.asked.now _ c.items-in-Assert.new.asked (declared rest) rest c.args.level (λ e. context c.args.scope.now e) _
    c.in-Assert.expr refl c.in_ok-push-in-Assert.ensures.items refl (record { expr = refl; means = c.in_ok-formula-in-Assert.ensures.says; row = c.is_in_row.ensures.space }) m) c.items-in-Assert.ensures.says)

pub items-returns-in_ok-push-in-Formula-clause-says : goal.items-returns-in_ok-push-in-Formula-clause-says
items-returns-in_ok-push-in-Formula-clause-says t c =
    let xs = c.args.items.now in
    let rest = take (length xs - 1) (drop 1 xs) in
    let parts = head_rest xs c.first-item.result (omega (arith, c.in-len1-up.len_at_least)) c.first-item.is ∙ ap (λ z. z ∷ rest) c.in-Formula.is in
    rw parts (on_ok c.items-in-Formula.result _ _
    (λ m. claimed_more c.args.asked.now _ c.items-in-Formula.new.asked (declared rest) rest c.args.level (λ e. context c.args.scope.now e) _
    c.in-Formula.expr refl c.in_ok-push-in-Formula.ensures.items refl (record { expr = refl; means = c.in_ok-formula-in-Formula.ensures.says; row = c.is_in_row-in-Formula.ensures.space }) m) c.items-in-Formula.ensures.says)

pub names-names-requires : goal.names-names-requires
names-names-requires t c =
    let n = c.args.level in
    let e : c.in-Some.next ≡ suc n = omega (arith, c.in-Some.ensures) in
    (search rules, (subst (λ m. Settled m c.in_ok-term.term) (sym e) (subst (λ m. Settled m c.in_ok-term.term) (add-one n) c.in_ok-term.ensures.settled), subst (λ m. Steady m c.args.scope.now) (sym e) (steady_more n c.args.scope.now c.requires)))

pub names-returns-clause-says : goal.names-returns-clause-says
names-returns-clause-says t c =
    let n = c.args.level in
    let xs = c.args.names.now in
    let x = c.name-item.result in
    let ys = take (length xs - 1) (drop 1 xs) in
    let items = c.args.rest.now in
    let sort = c.args.sort in
    let e : c.in-Some.next ≡ suc n = omega (arith, c.in-Some.ensures) in
    let parts = head_rest xs x (omega (arith, c.in-len1-up.len_at_least)) c.name-item.is in
    rw parts (on_ok c.names.result _ _
    (λ m. subst (λ k. AsksMore c.args.asked.now c.names.new.asked ((x, k) ∷ (map (λ y. (y, kind_of sort)) ys ++ declared items)) (λ l k. Written items (count (suc n) ys) (λ f. declare sort ys (suc n) f (bind x (given sort n f) (context c.args.scope.now f))) l k)) c.of.ensures (name_more c.args.asked.now _ c.names.new.asked (map (λ y. (y, kind_of sort)) ys ++ declared items) (λ l k. Written items (count (suc n) ys) (λ f. declare sort ys (suc n) f (bind x (given sort n f) (context c.args.scope.now f))) l k) _
    c.in_ok-push.ensures.items refl refl
    (rest_same _ c.names.new.asked _ _ _ (written_same items (count c.in-Some.next ys) (count (suc n) ys)
    (λ f. declare sort ys c.in-Some.next f (bind x (meant c.in_ok-term.term f) (context c.args.scope.now f)))
    (λ f. declare sort ys (suc n) f (bind x (given sort n f) (context c.args.scope.now f)))
    (ap (λ k. count k ys) e) (λ f.
    ap (λ v. declare sort ys c.in-Some.next f (bind x v (context c.args.scope.now f))) (c.in_ok-term.ensures.means f)
    ∙ ap (λ k. declare sort ys k f (bind x (given sort n f) (context c.args.scope.now f))) e)) m))) c.names.ensures.says)

pub items-returns-in-Free-clause-faults : goal.items-returns-in-Free-clause-faults
items-returns-in-Free-clause-faults t c =
    let xs = c.args.items.now in
    let rest = take (length xs - 1) (drop 1 xs) in
    let parts = head_rest xs c.first-item.result (omega (arith, c.in-len1-up.len_at_least)) c.first-item.is ∙ ap (λ z. z ∷ rest) c.in-Free.is in
    text_tail c.names.result (signature c.args.scope.now) xs rest _ (λ f. InNames (signature c.args.scope.now) c.in-Free.sort c.deref.result.now rest f) parts (λ g h. subst (λ (l : List Name). InNames (signature c.args.scope.now) c.in-Free.sort l rest g) c.deref.ensures.value h) c.names.ensures.faults

pub items-returns-in_err-formula-in-Assert-clause-faults : goal.items-returns-in_err-formula-in-Assert-clause-faults
items-returns-in_err-formula-in-Assert-clause-faults t c =
    let xs = c.args.items.now in
    let rest = take (length xs - 1) (drop 1 xs) in
    let parts = head_rest xs c.first-item.result (omega (arith, c.in-len1-up.len_at_least)) c.first-item.is ∙ ap (λ z. z ∷ rest) c.in-Assert.is in
    text_passed c.from_residual-in_err-formula-in-Assert.result (signature c.args.scope.now) xs rest _ (λ f. Faulty (signature c.args.scope.now) Formula c.in-Assert.expr f) _ c.from_residual-in_err-formula-in-Assert.ensures.1 parts (λ q. inl q) c.in_err-formula-in-Assert.ensures.faults

pub items-returns-in_ok-push-in-Assert-clause-faults : goal.items-returns-in_ok-push-in-Assert-clause-faults
items-returns-in_ok-push-in-Assert-clause-faults t c =
    let xs = c.args.items.now in
    let rest = take (length xs - 1) (drop 1 xs) in
    let parts = head_rest xs c.first-item.result (omega (arith, c.in-len1-up.len_at_least)) c.first-item.is ∙ ap (λ z. z ∷ rest) c.in-Assert.is in
    text_tail c.items-in-Assert.result (signature c.args.scope.now) xs rest _ (λ f. FaultyText rest (signature c.args.scope.now) f) parts (λ g q. inr q) c.items-in-Assert.ensures.faults

pub items-returns-in_err-formula-in-Formula-clause-faults : goal.items-returns-in_err-formula-in-Formula-clause-faults
items-returns-in_err-formula-in-Formula-clause-faults t c =
    let xs = c.args.items.now in
    let rest = take (length xs - 1) (drop 1 xs) in
    let parts = head_rest xs c.first-item.result (omega (arith, c.in-len1-up.len_at_least)) c.first-item.is ∙ ap (λ z. z ∷ rest) c.in-Formula.is in
    text_passed c.from_residual-in_err-formula-in-Formula.result (signature c.args.scope.now) xs rest _ (λ f. Faulty (signature c.args.scope.now) Formula c.in-Formula.expr f) _ c.from_residual-in_err-formula-in-Formula.ensures.1 parts (λ q. inl q) c.in_err-formula-in-Formula.ensures.faults

pub items-returns-in_ok-push-in-Formula-clause-faults : goal.items-returns-in_ok-push-in-Formula-clause-faults
items-returns-in_ok-push-in-Formula-clause-faults t c =
    let xs = c.args.items.now in
    let rest = take (length xs - 1) (drop 1 xs) in
    let parts = head_rest xs c.first-item.result (omega (arith, c.in-len1-up.len_at_least)) c.first-item.is ∙ ap (λ z. z ∷ rest) c.in-Formula.is in
    text_tail c.items-in-Formula.result (signature c.args.scope.now) xs rest _ (λ f. FaultyText rest (signature c.args.scope.now) f) parts (λ g q. inr q) c.items-in-Formula.ensures.faults

pub names-returns-clause-faults : goal.names-returns-clause-faults
names-returns-clause-faults t c =
    let xs = c.args.names.now in
    let ys = take (length xs - 1) (drop 1 xs) in
    let parts = head_rest xs c.name-item.result (omega (arith, c.in-len1-up.len_at_least)) c.name-item.is in
    names_more c.names.result (signature c.args.scope.now) c.args.sort _ xs ys c.name-item.result c.args.rest.now parts c.in_ok-term.ensures.sorts c.names.ensures.faults

pub items-row-requires : goal.items-row-requires
items-row-requires t c = (search rules, c.requires)

pub row-ends-requires : goal.row-ends-requires
row-ends-requires t c =
    let n = c.args.level in
    (search rules, (c.in_ok-places.ensures.settled, subst (λ m. Steady m c.args.scope.now) (sym (add-one n)) (steady_more n c.args.scope.now c.requires)))

pub row-returns-clause-says : goal.row-returns-clause-says
row-returns-clause-says t c =
    let n = c.args.level in
    let items = c.args.rest.now in
    let r = c.args.row.now in
    let s = c.args.scope.now in
    on_ok c.ends.result _ _
    (λ m. name_more c.args.asked.now _ c.ends.new.asked (declared items) (λ l k. Written items (suc n) (λ f. in_row r n f (context s f)) l k) _
    c.in_ok-push.ensures.items refl refl
    (rest_same _ c.ends.new.asked _ _ _ (written_same items (suc n) (suc n)
    (λ f. ending r.ends (f.groups n) (bind r.places (meant c.in_ok-places.places f) (context s f)))
    (λ f. in_row r n f (context s f)) refl (λ f.
    ap (λ v. ending r.ends (f.groups n) (bind r.places v (context s f))) (c.in_ok-places.ensures.means f))) m)) c.ends.ensures.says

pub row-returns-clause-faults : goal.row-returns-clause-faults
row-returns-clause-faults t c =
    let r = c.args.row.now in
    let k = signature c.args.scope.now in
    let items = c.args.rest.now in
    let inside = subst (λ y. IfErr c.ends.result (λ f. IsLimit f ⊎ (EndsAgain r.ends (named (string_bytes r.places.text) y k) f ⊎ FaultyText items (with_ends r.ends (named (string_bytes r.places.text) y k)) f))) c.in_ok-places.ensures.sorts c.ends.ensures.faults in
    if_err c.ends.result _ _ (λ g. elim [ inl l ↦ inl l | inr q ↦ elim q [ inl p ↦ inr (inl (inr (inr p))) | inr p ↦ inr (inr p) ] ]) inside

pub ends-items-requires : goal.ends-items-requires
ends-items-requires t c =
    let n = c.args.level in
    let e : c.in-Some.next ≡ n + 1 = omega (arith, c.in-Some.ensures) in
    let below : n < c.in-Some.next = omega (arith, c.in-Some.ensures) in (
      search rules,
      (
        below,
        (
          λ e f a. c.in_ok-last-in-Last.ensures.means e ∙ (ap (λ u. place (highest u)) (a n below).1 ∙ sym (c.in_ok-last-in-Last.ensures.means f)),
          subst (λ m. Steady m c.args.scope.now) (sym e) c.requires,
        ),
      ),
    )

pub ends-items-requires-in-Round : goal.ends-items-requires-in-Round
ends-items-requires-in-Round t c =
    let n = c.args.level in
    let e : c.in-Some.next ≡ n + 1 = omega (arith, c.in-Some.ensures) in
    let below : n < c.in-Some.next = omega (arith, c.in-Some.ensures) in
    (search rules, (below, subst (λ m. Steady m c.args.scope.now) (sym e) c.requires))

pub ends-returns-in-Round-clause-says : goal.ends-returns-in-Round-clause-says
ends-returns-in-Round-clause-says t c =
    let n = c.args.level in
    let items = c.args.rest.now in
    let r = c.args.row.now in
    let s = c.args.scope.now in
    let e : c.in-Some.next ≡ suc n = omega (arith, c.in-Some.ensures) in
    on_ok c.items-in-Round.result _ _
    (rest_same c.args.asked.now c.items-in-Round.new.asked (declared items) _ _ (written_same items c.in-Some.next (suc n)
    (λ f. placed (the_ring (f.groups n)) (context s f)) (λ f. ending r.ends (f.groups n) (context s f)) e (λ f. ap (λ d. ending d (f.groups n) (context s f)) (sym c.in-Round.is)))) c.items-in-Round.ensures.says

pub items-returns-in-Row-clause-says : goal.items-returns-in-Row-clause-says
items-returns-in-Row-clause-says t c =
    let xs = c.args.items.now in
    let rest = take (length xs - 1) (drop 1 xs) in
    let parts = head_rest xs c.first-item.result (omega (arith, c.in-len1-up.len_at_least)) c.first-item.is ∙ ap (λ z. z ∷ rest) c.in-Row.is in
    rw parts c.row.ensures.says

pub items-returns-in-Row-clause-faults : goal.items-returns-in-Row-clause-faults
items-returns-in-Row-clause-faults t c =
    let xs = c.args.items.now in
    let rest = take (length xs - 1) (drop 1 xs) in
    let parts = head_rest xs c.first-item.result (omega (arith, c.in-len1-up.len_at_least)) c.first-item.is ∙ ap (λ z. z ∷ rest) c.in-Row.is in
    let k = signature c.args.scope.now in
    text_tail c.row.result k xs rest _ (λ f. RowAgain c.in-Row.row k f ⊎ FaultyText rest (with_row_names c.in-Row.row k) f) parts (λ g h. h) c.row.ensures.faults
