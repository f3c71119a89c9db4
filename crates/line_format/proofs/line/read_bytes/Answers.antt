use Rattle.std.proofs.Common.{◌≡◌, ◌≤◌, [], ◌∷◌, ◌++◌, length, get_or, vec_items, sym, refl, ap, ◌∙◌, subst, inl, inr, append_assoc, append-nil, arith, rules}
use Rattle.line_format.specs.Line.{Pairs}
use Rattle.line_format.proofs.LineLaws.{pairs_even, pairs_step, pairs_end}
use Rattle.line_format.proofs.line.read_bytes.Goals as goal
use Rattle.line_format.proofs.line.read_bytes.Goals.{else-field-eq1-via-then-field-eq1+else-field-eq45, else-field-eq1-via-else-field-eq1}

-- an odd number of characters other than - alone
pub returns-then-field-eq1-2 : goal.returns-then-field-eq1-2
returns-then-field-eq1-2 c = inr (λ t h. elim h [
  | inl p ↦ (let l = ap length p.0 in let f = ap (λ s. get_or s 0 0) p.0 in elim c.else-field-eq1.branch [
    | else-field-eq1-via-then-field-eq1+else-field-eq45 w ↦ w.if-field-eq45.false f
    | else-field-eq1-via-else-field-eq1 w ↦ w.if-field-eq1.false l
  ])
  | inr p ↦ (let e = pairs_even c.args.field.now t p in omega arith)
])

-- two characters that are no pair of digits
pub returns-in_default-hex_pair : goal.returns-in_default-hex_pair
returns-in_default-hex_pair c = inr (λ t h. elim h [
  | inl p ↦ (let l = ap length p.0 in omega arith)
  | inr p ↦
      let q = c.loop-rest.invariant.2 t p in
      let (v, r, w, m, e) = (pairs_step c.loop-rest.rest.now q.0 (search rules)).0 q.1 in
      c.in_default-hex_pair.ensures v w
])

pub loop-rest-preserved : goal.loop-rest-preserved
loop-rest-preserved c =
    let s = c.loop-rest.rest.now in
    let done = vec_items c.loop-rest.bytes in
    let v = c.in-Some.byte in
    let l : 2 ≤ length s = search rules in
    let e : vec_items c.push.new.self ≡ done ++ (v ∷ []) = search rules in (
      search rules,
      λ t h.
          (let p : Pairs s (v ∷ t) = (pairs_step s (v ∷ t) l).1 (v, t, c.in-Some.ensures, h, refl) in
          subst (Pairs c.args.field.now) (sym (ap (λ z. z ++ t) e ∙ append_assoc done (v ∷ []) t)) (c.loop-rest.invariant.1 (v ∷ t) p)),
      λ t h.
          (let q = c.loop-rest.invariant.2 t h in
          let (w, r, x, m, g) = (pairs_step s q.0 l).0 q.1 in
          (r, m)),
    )

pub returns : goal.returns
returns c =
    let s = c.loop-rest.rest.now in
    inr (subst (Pairs c.args.field.now) (append-nil (vec_items c.loop-rest.bytes)) (c.loop-rest.invariant.1 [] (pairs_end s (search rules) c.loop-rest.invariant.0)))
