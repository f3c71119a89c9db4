use Rattle.std.proofs.Common.{◌≡◌, ◌+◌, ◌≤◌, ◌||◌, [], length, Some, sym, refl, ap, ap₂, ◌∙◌, subst, arith}
use Rattle.claims.proofs.SignLaws.{no_sign, sign_is}
use Rattle.claims.specs.Claims.{and1, atom, not1, some}
use Rattle.claims.specs.Fronts.{Front}
use Rattle.narrowing.specs.Columns.{size}
use Rattle.narrowing.specs.Mentioned.{mentions}
use Rattle.narrowing.proofs.ColumnsLaws.{size_same}
use Rattle.workspace.specs.Cut.{slot_words}
use Rattle.construct.specs.Stands.{Result}
use Rattle.construct.specs.WorkOut.{Lent}
use Rattle.construct.specs.declared.wanted.Wanted.TheVariants.{Exact}
use Rattle.construct.proofs.LentLaws.{lent_shorter, lent_smaller, one_free, rest_free}
use Rattle.construct.proofs.SignLaws.{and_parts, halves_widest, leaf_front, not_part, part_one, part_widest, some_part}
use Rattle.construct.proofs.StandsLaws.{exact_read, out_of, result_from}
use Rattle.construct.proofs.WorkOutLaws.{Unfit, and_out, leaf_out, longer_unfit, not_result, part_unfit, shorter_unfit}
use Rattle.construct.proofs.work_out.+work_out.Goals as goal

-- the bytes of a part begin with a sign
pub returns-in_err-sign-clause-worked_out : goal.returns-in_err-sign-clause-worked_out
returns-in_err-sign-clause-worked_out t c d f = absurd (no_sign c.args.work.now.sets c.args.part.now c.in_err-sign.ensures d [] f)

-- claims without parts
pub leaf-requires-clause-about : goal.leaf-requires-clause-about
leaf-requires-clause-about t c = (leaf_front c.args.work.now.sets c.in-Atom.atom c.requires.part.0 c.in_ok-sign.rest.now c.args.part.now (sign_is _ _ _ _ c.in_ok-sign.ensures c.in-Atom.is) c.requires.part.1).0

pub leaf-requires-clause-narrow : goal.leaf-requires-clause-narrow
leaf-requires-clause-narrow t c = part_widest c.args.work.now.sets c.args.work.now.shape.sets (atom c.in-Atom.atom) c.args.part.now c.requires.part (leaf_front c.args.work.now.sets c.in-Atom.atom c.requires.part.0 c.in_ok-sign.rest.now c.args.part.now (sign_is _ _ _ _ c.in_ok-sign.ensures c.in-Atom.is) c.requires.part.1).1

pub returns-in-Atom-clause-worked_out : goal.returns-in-Atom-clause-worked_out
returns-in-Atom-clause-worked_out t c = leaf_out c.args.wanted c.args.work.now.sets c.in-Atom.atom c.args.part.now c.args.sheet.now c.leaf.new.sheet c.leaf.result (leaf_front c.args.work.now.sets c.in-Atom.atom c.requires.part.0 c.in_ok-sign.rest.now c.args.part.now (sign_is _ _ _ _ c.in_ok-sign.ensures c.in-Atom.is) c.requires.part.1).1 c.leaf.ensures.table

-- not
pub work_out-requires : goal.work_out-requires
work_out-requires t c =
    let (less, (d, f, g)) = not_part c.args.work.now.sets c.in_ok-sign.sign c.args.part.now c.in_ok-sign.rest.now c.in_ok-sign.ensures c.in-Not.is (part_one c.args.work.now.sets c.args.work.now.shape.sets c.args.part.now c.requires.part) in
    let w = part_widest c.args.work.now.sets c.args.work.now.shape.sets (not1 d) c.args.part.now c.requires.part g in
    (omega arith, ((d, f, w), (c.requires.shape, lent_shorter (length c.args.part.now) (length c.in_ok-sign.rest.now) c.args.work.now.shape (length c.args.work.now.free.now) (omega arith) c.requires.lent)))

pub returns-in_err-part-in-Not-clause-worked_out : goal.returns-in_err-part-in-Not-clause-worked_out
returns-in_err-part-in-Not-clause-worked_out t c =
    let (less, (d, f, g)) = not_part c.args.work.now.sets c.in_ok-sign.sign c.args.part.now c.in_ok-sign.rest.now c.in_ok-sign.ensures c.in-Not.is (part_one c.args.work.now.sets c.args.work.now.shape.sets c.args.part.now c.requires.part) in
    rw c.from_residual-in_err-part-in-Not.ensures (part_unfit c.args.work.now.sets c.args.sheet.now.shape.most (not1 d) d c.args.part.now c.in_ok-sign.rest.now g f (λ h. h) c.in_err-part-in-Not.ensures.worked_out)

pub complement-requires : goal.complement-requires
complement-requires t c =
    let (less, (d, f, g)) = not_part c.args.work.now.sets c.in_ok-sign.sign c.args.part.now c.in_ok-sign.rest.now c.in_ok-sign.ensures c.in-Not.is (part_one c.args.work.now.sets c.args.work.now.shape.sets c.args.part.now c.requires.part) in
    let x = c.in_ok-part-in-Not.ensures.worked_out d f in
    omega (arith, x.1.few, c.work_out.new.sheet.accept_fits)

pub returns-in_ok-part-in-Not-clause-worked_out : goal.returns-in_ok-part-in-Not-clause-worked_out
returns-in_ok-part-in-Not-clause-worked_out t c =
    let (less, (d, f, g)) = not_part c.args.work.now.sets c.in_ok-sign.sign c.args.part.now c.in_ok-sign.rest.now c.in_ok-sign.ensures c.in-Not.is (part_one c.args.work.now.sets c.args.work.now.shape.sets c.args.part.now c.requires.part) in
    let s = c.args.sheet.now in
    let k = c.args.work.now.sets in
    out_of c.args.wanted k (not1 d) c.args.part.now s _ (Some c.in_ok-part-in-Not.part) g
    (not_result c.args.wanted k s c.work_out.new.sheet _ d c.in_ok-part-in-Not.part (c.in_ok-part-in-Not.ensures.worked_out d f) refl refl c.complement.ensures.turned)

-- and
pub work_out-requires-in-And : goal.work_out-requires-in-And
work_out-requires-in-And t c =
    let h = and_parts c.args.work.now.sets c.in_ok-sign.sign c.args.part.now c.in_ok-sign.rest.now c.two_parts.result.0.now c.two_parts.result.1.now c.in_ok-sign.ensures c.in-And.is c.two_parts.ensures in
    let (l, m, n) = halves_widest c.args.work.now.sets c.args.work.now.shape.sets c.args.part.now c.two_parts.result.0.now c.two_parts.result.1.now c.requires.part h in
    (omega (arith, h.less), ((h.one, h.long, l), (c.requires.shape, lent_shorter (length c.args.part.now) (length c.two_parts.result.0.now) c.args.work.now.shape (length c.args.work.now.free.now) (omega (arith, h.less)) c.requires.lent)))

pub returns-in_err-left-in-And-clause-worked_out : goal.returns-in_err-left-in-And-clause-worked_out
returns-in_err-left-in-And-clause-worked_out t c =
    let h = and_parts c.args.work.now.sets c.in_ok-sign.sign c.args.part.now c.in_ok-sign.rest.now c.two_parts.result.0.now c.two_parts.result.1.now c.in_ok-sign.ensures c.in-And.is c.two_parts.ensures in
    let s = c.args.sheet.now in
    rw c.from_residual-in_err-left-in-And.ensures (longer_unfit c.args.work.now.sets s s c.args.part.now c.two_parts.result.0.now c.two_parts.result.1.now h c.in_err-left-in-And.ensures.worked_out)

pub cut_slot-rows-requires-clause-room : goal.cut_slot-rows-requires-clause-room
cut_slot-rows-requires-clause-room t c =
    let h = and_parts c.args.work.now.sets c.in_ok-sign.sign c.args.part.now c.in_ok-sign.rest.now c.two_parts.result.0.now c.two_parts.result.1.now c.in_ok-sign.ensures c.in-And.is c.two_parts.ensures in
    let w = c.args.work.now in
    let o = one_free (length c.args.part.now) w.shape (length w.free.now) (omega (arith, h.bytes)) c.requires.lent in
    rw (c.work_out-in-And.ensures.shape, c.work_out-in-And.ensures.free) o

pub work_out-requires-in-And-2 : goal.work_out-requires-in-And-2
work_out-requires-in-And-2 t c =
    let h = and_parts c.args.work.now.sets c.in_ok-sign.sign c.args.part.now c.in_ok-sign.rest.now c.two_parts.result.0.now c.two_parts.result.1.now c.in_ok-sign.ensures c.in-And.is c.two_parts.ensures in
    let (l, m, n) = halves_widest c.args.work.now.sets c.args.work.now.shape.sets c.args.part.now c.two_parts.result.0.now c.two_parts.result.1.now c.requires.part h in
    let w = c.args.work.now in
    let x = c.work_out-in-And.ensures in
    let free = c.cut_slot-rows.ensures.rest ∙ x.free in
    let lent = lent_smaller (length c.args.part.now) w.shape (length w.free.now) (length c.cut_slot-rows.result.rest.now) (subst (λ z. length c.cut_slot-rows.result.rest.now + slot_words z.width z.most ≡ length w.free.now) x.shape free) c.requires.lent (length c.two_parts.result.1.now) h.half in
    (omega arith, ((h.other, subst (λ k. Front k h.other c.two_parts.result.1.now []) (sym x.sets) h.short, rw (x.sets, x.shape) m), (refl, subst (λ z. Lent (length c.two_parts.result.1.now) z (length c.cut_slot-rows.result.rest.now)) (sym x.shape) lent)))

pub returns-in_err-right-in-And-clause-worked_out : goal.returns-in_err-right-in-And-clause-worked_out
returns-in_err-right-in-And-clause-worked_out t c =
    let h = and_parts c.args.work.now.sets c.in_ok-sign.sign c.args.part.now c.in_ok-sign.rest.now c.two_parts.result.0.now c.two_parts.result.1.now c.in_ok-sign.ensures c.in-And.is c.two_parts.ensures in
    let s = c.args.sheet.now in
    let x = c.work_out-in-And.ensures in
    let e = x.shape ∙ sym c.requires.shape in
    rw c.from_residual-in_err-right-in-And.ensures (shorter_unfit c.args.work.now.sets s s c.args.part.now c.two_parts.result.0.now c.two_parts.result.1.now h
    (subst (λ k. Unfit k s.shape.most c.two_parts.result.1.now) x.sets (subst (λ z. Unfit c.work_out-in-And.new.work.sets z.most c.two_parts.result.1.now) e c.in_err-right-in-And.ensures.worked_out)))

pub table-second-requires : goal.table-second-requires
table-second-requires t c =
    let h = and_parts c.args.work.now.sets c.in_ok-sign.sign c.args.part.now c.in_ok-sign.rest.now c.two_parts.result.0.now c.two_parts.result.1.now c.in_ok-sign.ensures c.in-And.is c.two_parts.ensures in
    let k = c.args.work.now.sets in
    let (e₁, one) = c.in_ok-left-in-And.ensures.worked_out h.one h.long in
    let x = c.work_out-in-And.ensures in
    let y = c.work_out-in-And-2.ensures in
    let (e₂, other) = c.in_ok-right-in-And.ensures.worked_out h.other (subst (λ k. Front k h.other c.two_parts.result.1.now []) (sym x.sets) h.short) in
    (Exact, c.work_out-in-And.new.work.sets, h.other, other)

pub conjoin-requires-clause-shape : goal.conjoin-requires-clause-shape
conjoin-requires-clause-shape t c =
    let h = and_parts c.args.work.now.sets c.in_ok-sign.sign c.args.part.now c.in_ok-sign.rest.now c.two_parts.result.0.now c.two_parts.result.1.now c.in_ok-sign.ensures c.in-And.is c.two_parts.ensures in
    let k = c.args.work.now.sets in
    let (e₁, one) = c.in_ok-left-in-And.ensures.worked_out h.one h.long in
    let x = c.work_out-in-And.ensures in
    let y = c.work_out-in-And-2.ensures in
    let (e₂, other) = c.in_ok-right-in-And.ensures.worked_out h.other (subst (λ k. Front k h.other c.two_parts.result.1.now []) (sym x.sets) h.short) in
    e₁ ∙ c.requires.shape ∙ sym x.shape ∙ sym y.shape

pub conjoin-requires-clause-few : goal.conjoin-requires-clause-few
conjoin-requires-clause-few t c =
    let h = and_parts c.args.work.now.sets c.in_ok-sign.sign c.args.part.now c.in_ok-sign.rest.now c.two_parts.result.0.now c.two_parts.result.1.now c.in_ok-sign.ensures c.in-And.is c.two_parts.ensures in
    let k = c.args.work.now.sets in
    let (e₁, one) = c.in_ok-left-in-And.ensures.worked_out h.one h.long in
    let x = c.work_out-in-And.ensures in
    let y = c.work_out-in-And-2.ensures in
    let (e₂, other) = c.in_ok-right-in-And.ensures.worked_out h.other (subst (λ k. Front k h.other c.two_parts.result.1.now []) (sym x.sets) h.short) in
    let m = ap (λ g. g.most) (e₂ ∙ sym y.shape) in
    omega (arith, other.few, c.table-second.ensures.classes)

pub conjoin-requires-clause-first : goal.conjoin-requires-clause-first
conjoin-requires-clause-first t c =
    let h = and_parts c.args.work.now.sets c.in_ok-sign.sign c.args.part.now c.in_ok-sign.rest.now c.two_parts.result.0.now c.two_parts.result.1.now c.in_ok-sign.ensures c.in-And.is c.two_parts.ensures in
    let k = c.args.work.now.sets in
    let (e₁, one) = c.in_ok-left-in-And.ensures.worked_out h.one h.long in
    let x = c.work_out-in-And.ensures in
    let y = c.work_out-in-And-2.ensures in
    let (e₂, other) = c.in_ok-right-in-And.ensures.worked_out h.other (subst (λ k. Front k h.other c.two_parts.result.1.now []) (sym x.sets) h.short) in
    (h.one, rw (y.sets, x.sets) one)

pub conjoin-requires-clause-second : goal.conjoin-requires-clause-second
conjoin-requires-clause-second t c =
    let h = and_parts c.args.work.now.sets c.in_ok-sign.sign c.args.part.now c.in_ok-sign.rest.now c.two_parts.result.0.now c.two_parts.result.1.now c.in_ok-sign.ensures c.in-And.is c.two_parts.ensures in
    let k = c.args.work.now.sets in
    let (e₁, one) = c.in_ok-left-in-And.ensures.worked_out h.one h.long in
    let x = c.work_out-in-And.ensures in
    let y = c.work_out-in-And-2.ensures in
    let (e₂, other) = c.in_ok-right-in-And.ensures.worked_out h.other (subst (λ k. Front k h.other c.two_parts.result.1.now []) (sym x.sets) h.short) in
    let v = exact_read c.work_out-in-And.new.work.sets c.work_out-in-And-2.new.sheet h.other c.in_ok-right-in-And.right other c.table-second.result c.table-second.ensures in
    (h.other, rw (y.sets, ← (ap (λ g. g.most) (e₂ ∙ sym y.shape))) v)

pub conjoin-requires-clause-both : goal.conjoin-requires-clause-both
conjoin-requires-clause-both t c =
    let h = and_parts c.args.work.now.sets c.in_ok-sign.sign c.args.part.now c.in_ok-sign.rest.now c.two_parts.result.0.now c.two_parts.result.1.now c.in_ok-sign.ensures c.in-And.is c.two_parts.ensures in
    let k = c.args.work.now.sets in
    let (e₁, one) = c.in_ok-left-in-And.ensures.worked_out h.one h.long in
    let x = c.work_out-in-And.ensures in
    let y = c.work_out-in-And-2.ensures in
    let (e₂, other) = c.in_ok-right-in-And.ensures.worked_out h.other (subst (λ k. Front k h.other c.two_parts.result.1.now []) (sym x.sets) h.short) in
    let (l, m, n) = halves_widest c.args.work.now.sets c.args.work.now.shape.sets c.args.part.now c.two_parts.result.0.now c.two_parts.result.1.now c.requires.part h in
    λ c' d p q.
    (let e = size_same c.work_out-in-And-2.new.work.sets (mentions (and1 c' d)) (mentions (and1 h.one h.other)) (λ z. ap₂ (λ a b. a || b) (sym (p.mentioned z) ∙ one.mentioned z) (sym (q.mentioned z) ∙ other.mentioned z)) in
    let o : size c.work_out-in-And-2.new.work.sets (mentions (and1 h.one h.other)) ≤ c.work_out-in-And-2.new.work.shape.sets = rw (y.sets, x.sets, y.shape, x.shape) n in
    omega arith)

pub conjoin-requires-clause-free : goal.conjoin-requires-clause-free
conjoin-requires-clause-free t c =
    let h = and_parts c.args.work.now.sets c.in_ok-sign.sign c.args.part.now c.in_ok-sign.rest.now c.two_parts.result.0.now c.two_parts.result.1.now c.in_ok-sign.ensures c.in-And.is c.two_parts.ensures in
    let w = c.args.work.now in
    let x = c.work_out-in-And.ensures in
    let free = c.cut_slot-rows.ensures.rest ∙ x.free in
    let r = rest_free (length c.args.part.now) w.shape (length w.free.now) (length c.cut_slot-rows.result.rest.now) (subst (λ z. length c.cut_slot-rows.result.rest.now + slot_words z.width z.most ≡ length w.free.now) x.shape free) c.requires.lent (omega (arith, h.bytes)) in
    rw (c.work_out-in-And-2.ensures.shape, x.shape, c.work_out-in-And-2.ensures.free) r

pub returns-in_ok-right-in-And-clause-worked_out : goal.returns-in_ok-right-in-And-clause-worked_out
returns-in_ok-right-in-And-clause-worked_out t c =
    let h = and_parts c.args.work.now.sets c.in_ok-sign.sign c.args.part.now c.in_ok-sign.rest.now c.two_parts.result.0.now c.two_parts.result.1.now c.in_ok-sign.ensures c.in-And.is c.two_parts.ensures in
    let k = c.args.work.now.sets in
    let (e₁, one) = c.in_ok-left-in-And.ensures.worked_out h.one h.long in
    let x = c.work_out-in-And.ensures in
    let y = c.work_out-in-And-2.ensures in
    let (e₂, other) = c.in_ok-right-in-And.ensures.worked_out h.other (subst (λ k. Front k h.other c.two_parts.result.1.now []) (sym x.sets) h.short) in
    let s = c.args.sheet.now in
    let v = exact_read c.work_out-in-And.new.work.sets c.work_out-in-And-2.new.sheet h.other c.in_ok-right-in-And.right other c.table-second.result c.table-second.ensures in
    and_out k s c.conjoin.new.sheet c.args.part.now c.two_parts.result.0.now c.two_parts.result.1.now h c.args.wanted c.conjoin.result
    (result_from c.args.wanted k s c.work_out-in-And.new.sheet c.conjoin.new.sheet (and1 h.one h.other) c.conjoin.result e₁
    (subst (λ i. Result c.args.wanted i c.work_out-in-And.new.sheet c.conjoin.new.sheet (and1 h.one h.other) c.conjoin.result) (y.sets ∙ x.sets)
    (c.conjoin.ensures.table h.one h.other (rw (y.sets, x.sets) one) (rw (y.sets, ← (ap (λ g. g.most) (e₂ ∙ sym y.shape))) v))))

-- some
pub work_out-requires-in-Some : goal.work_out-requires-in-Some
work_out-requires-in-Some t c =
    let (x, b, less, (d, f, g)) = some_part c.args.work.now.sets c.in_ok-sign.sign c.in-Some.x c.args.part.now c.in_ok-sign.rest.now c.in_ok-sign.ensures c.in-Some.is (part_one c.args.work.now.sets c.args.work.now.shape.sets c.args.part.now c.requires.part) in
    let w = part_widest c.args.work.now.sets c.args.work.now.shape.sets (some c.in-Some.x.0 d) c.args.part.now c.requires.part g in
    (omega arith, ((d, f, omega arith), (c.requires.shape, lent_shorter (length c.args.part.now) (length c.in_ok-sign.rest.now) c.args.work.now.shape (length c.args.work.now.free.now) (omega arith) c.requires.lent)))

pub returns-in_err-part-in-Some-clause-worked_out : goal.returns-in_err-part-in-Some-clause-worked_out
returns-in_err-part-in-Some-clause-worked_out t c =
    let (x, b, less, (d, f, g)) = some_part c.args.work.now.sets c.in_ok-sign.sign c.in-Some.x c.args.part.now c.in_ok-sign.rest.now c.in_ok-sign.ensures c.in-Some.is (part_one c.args.work.now.sets c.args.work.now.shape.sets c.args.part.now c.requires.part) in
    rw c.from_residual-in_err-part-in-Some.ensures (part_unfit c.args.work.now.sets c.args.sheet.now.shape.most (some c.in-Some.x.0 d) d c.args.part.now c.in_ok-sign.rest.now g f (λ h. h.0) c.in_err-part-in-Some.ensures.worked_out)

pub quantify-requires-clause-shape : goal.quantify-requires-clause-shape
quantify-requires-clause-shape t c =
    let (x, b, less, (d, f, g)) = some_part c.args.work.now.sets c.in_ok-sign.sign c.in-Some.x c.args.part.now c.in_ok-sign.rest.now c.in_ok-sign.ensures c.in-Some.is (part_one c.args.work.now.sets c.args.work.now.shape.sets c.args.part.now c.requires.part) in
    (c.in_ok-part-in-Some.ensures.worked_out d f).0 ∙ c.requires.shape ∙ sym c.work_out-in-Some.ensures.shape

pub quantify-requires-clause-set : goal.quantify-requires-clause-set
quantify-requires-clause-set t c =
    let (x, b, less, (d, f, g)) = some_part c.args.work.now.sets c.in_ok-sign.sign c.in-Some.x c.args.part.now c.in_ok-sign.rest.now c.in_ok-sign.ensures c.in-Some.is (part_one c.args.work.now.sets c.args.work.now.shape.sets c.args.part.now c.requires.part) in
    rw c.work_out-in-Some.ensures.sets x

pub quantify-requires-clause-part : goal.quantify-requires-clause-part
quantify-requires-clause-part t c =
    let (x, b, less, (d, f, g)) = some_part c.args.work.now.sets c.in_ok-sign.sign c.in-Some.x c.args.part.now c.in_ok-sign.rest.now c.in_ok-sign.ensures c.in-Some.is (part_one c.args.work.now.sets c.args.work.now.shape.sets c.args.part.now c.requires.part) in
    (d, rw c.work_out-in-Some.ensures.sets (c.in_ok-part-in-Some.ensures.worked_out d f).1)

pub quantify-requires-clause-free : goal.quantify-requires-clause-free
quantify-requires-clause-free t c =
    let (x, b, less, (d, f, g)) = some_part c.args.work.now.sets c.in_ok-sign.sign c.in-Some.x c.args.part.now c.in_ok-sign.rest.now c.in_ok-sign.ensures c.in-Some.is (part_one c.args.work.now.sets c.args.work.now.shape.sets c.args.part.now c.requires.part) in
    let w = c.args.work.now in
    rw (c.work_out-in-Some.ensures.shape, c.work_out-in-Some.ensures.free) (one_free (length c.args.part.now) w.shape (length w.free.now) b c.requires.lent)

pub returns-in_ok-part-in-Some-clause-worked_out : goal.returns-in_ok-part-in-Some-clause-worked_out
returns-in_ok-part-in-Some-clause-worked_out t c =
    let (x, b, less, (d, f, g)) = some_part c.args.work.now.sets c.in_ok-sign.sign c.in-Some.x c.args.part.now c.in_ok-sign.rest.now c.in_ok-sign.ensures c.in-Some.is (part_one c.args.work.now.sets c.args.work.now.shape.sets c.args.part.now c.requires.part) in
    let s = c.args.sheet.now in
    let k = c.args.work.now.sets in
    let (e, y) = c.in_ok-part-in-Some.ensures.worked_out d f in
    out_of c.args.wanted k (some c.in-Some.x.0 d) c.args.part.now s c.quantify.new.sheet c.quantify.result g
    (result_from c.args.wanted k s c.work_out-in-Some.new.sheet c.quantify.new.sheet (some c.in-Some.x.0 d) c.quantify.result e
    (subst (λ i. Result c.args.wanted i c.work_out-in-Some.new.sheet c.quantify.new.sheet (some c.in-Some.x.0 d) c.quantify.result) c.work_out-in-Some.ensures.sets (c.quantify.ensures.table d (rw c.work_out-in-Some.ensures.sets y))))
