use Rattle.std.proofs.Common.{◌≡◌, length, get_or, sym, subst, inl, inr, arith, add-one}
use Rattle.std.proofs.Math.Seq.{drop-length}
use Rattle.formulas.specs.declared.name.Name.TheVariants.{OfPlace}
use Rattle.formulas.specs.Names.{Among}
use Rattle.formula_claims.proofs.ListedLaws.{listed_among, among_listed, position_le, among_at, among_drop}
use Rattle.formula_claims.proofs.claimed.unlisted.Goals as goal

pub returns-then-position-names : goal.returns-then-position-names
returns-then-position-names c =
    let l = c.args.free.now in
    let i = c.loop-name.name-index in
    let x = get_or l i (OfPlace 0) in
    (among_at l i (OfPlace 0) (omega arith), λ h. (let r = among_listed x c.args.names.now h in omega arith))

pub loop-name-preserved : goal.loop-name-preserved
loop-name-preserved c = λ x h.
    let l = c.args.free.now in
    let i = c.loop-name.name-index in
    let y = get_or l i (OfPlace 0) in
    elim (c.loop-name.invariant x h) [
      | inl g ↦ elim (among_drop x l i (OfPlace 0) (omega arith) g) [
        | inl e ↦ inr (subst (λ z. Among z c.args.names.now) (sym e) (listed_among y c.args.names.now (omega (arith, position_le y c.args.names.now))))
        | inr k ↦ inl (rw add-one k)
      ]
      | inr k ↦ inr k
    ]

pub returns : goal.returns
returns c = λ x h.
    let l = c.args.free.now in
    let end : c.loop-name.name-index ≡ length l = omega arith in
    elim (c.loop-name.invariant x h) [
      | inl g ↦ let none = rw (end, drop-length) at g in absurd none
      | inr k ↦ k
    ]
