-- Lists of literals and of new bits, one by one.
use Rattle.std.proofs.Common.{◌≡◌, ℕ, zero, suc, ◌+◌, ◌<◌, ◌≤◌, Bool, true, false, cond, eqb, List, [], ◌∷◌, ◌++◌, length, get_or, drop, refl, arith, append_assoc, drop-cons}
use Rattle.rows.specs.Rules.{new_at}
use Rattle.rows.specs.declared.rule.Side.{Side}
use Rattle.rows.specs.declared.rule.Literal.{Literal}
use Rattle.rows.specs.declared.rule.NewBit.{NewBit}
use Rattle.rows.specs.declared.rule.Side.TheVariants.{Own}
use Rattle.rows.specs.declared.rule.NewBit.TheVariants.{AsWas}
use Rattle.rows.specs.Local.{Local, non, both, before, behind, neg}
use Rattle.rows.specs.RuleLocal.{same_side, on, either, implies, fits_nothing, literals_local, left_local, right_local, fits_local, waits_line, after_line}
use Rattle.rows.proofs.Bools.{bool_apart}

pub new_at-entry : (ns : List NewBit) (i j : ℕ) (d : NewBit) → i < length ns → get_or ns i d ≡ new_at ns i j
new_at-entry [] i j d h = let z : ⊥ = omega arith in absurd z
new_at-entry (n ∷ ns) zero j d h = refl
new_at-entry (n ∷ ns) (suc i) j d h = new_at-entry ns i j d (omega arith)

pub new_at-none : (ns : List NewBit) (i j : ℕ) → length ns ≤ i → AsWas Own j ≡ new_at ns i j
new_at-none [] i j h = refl
new_at-none (n ∷ ns) zero j h = let z : ⊥ = omega arith in absurd z
new_at-none (n ∷ ns) (suc i) j h = new_at-none ns i j (omega arith)

-- where something is asked of a neighbour, and what the first line of a table says
module _ (r : ℕ) (x : ℕ → ℕ) where
  pub left_some : (ps : List Literal) (b : Bool) → b ≡ eqb (length ps) 0 → b ≡ false →
      left_local r x ps ≡ cond (fits_nothing ps) (non (before (neg (literals_local r x ps)))) (before (literals_local r x ps))
  left_some [] b e f = bool_apart e f
  left_some (p ∷ ps) b e f = refl

  pub right_some : (ps : List Literal) (b : Bool) → b ≡ eqb (length ps) 0 → b ≡ false → right_local r x ps ≡ behind (literals_local r x ps)
  right_some [] b e f = bool_apart e f
  right_some (p ∷ ps) b e f = refl

  pub waits_some : (ps : List Literal) (b : Bool) → b ≡ eqb (length ps) 0 → b ≡ false → (m : Bool) (W : Local) → waits_line r x ps m W ≡ cond m (both (neg (fits_local r x ps)) W) (either (fits_local r x ps) W)
  waits_some [] b e f m W = bool_apart e f
  waits_some (p ∷ ps) b e f true W = refl
  waits_some (p ∷ ps) b e f false W = refl

  pub after_some : (ps : List Literal) (b : Bool) → b ≡ eqb (length ps) 0 → b ≡ false → (N W : Local) → after_line r x ps N W ≡ both (implies (fits_local r x ps) N) (either (fits_local r x ps) W)
  after_some [] b e f N W = bool_apart e f
  after_some (p ∷ ps) b e f N W = refl

-- a literal more is looked at
on_chosen : (d : Side) (p : Literal) (ps : List Literal) → same_side d p.side ≡ true → on d (p ∷ ps) ≡ p ∷ on d ps
on_chosen d p ps t = at (same_side d p.side) t
  where
    at : (b : Bool) → b ≡ true → cond b (p ∷ on d ps) (on d ps) ≡ p ∷ on d ps
    at true e = refl
    at false e = bool_apart e refl

on_other : (d : Side) (p : Literal) (ps : List Literal) → same_side d p.side ≡ false → on d (p ∷ ps) ≡ on d ps
on_other d p ps t = at (same_side d p.side) t
  where
    at : (b : Bool) → b ≡ false → cond b (p ∷ on d ps) (on d ps) ≡ on d ps
    at false e = refl
    at true e = bool_apart refl e

pub on_found : (d : Side) (found new ps : List Literal) (i : ℕ) (z : Literal) → i < length ps → new ≡ found ++ (get_or ps i z ∷ []) → same_side d (get_or ps i z).side ≡ true →
    new ++ on d (drop (i + 1) ps) ≡ found ++ on d (drop i ps)
on_found d found new ps i z h e t =
    let k : i + 1 ≡ suc i = omega arith in
    let c = drop-cons ps i z h in
    let o = on_chosen d (get_or ps i z) (drop (suc i) ps) t in
    let b = append_assoc found (get_or ps i z ∷ []) (on d (drop (suc i) ps)) in
    rw (k, e, c, o, b) refl

pub on_passed : (d : Side) (found ps : List Literal) (i : ℕ) (z : Literal) → i < length ps → same_side d (get_or ps i z).side ≡ false →
    found ++ on d (drop (i + 1) ps) ≡ found ++ on d (drop i ps)
on_passed d found ps i z h t =
    let k : i + 1 ≡ suc i = omega arith in
    let c = drop-cons ps i z h in
    let o = on_other d (get_or ps i z) (drop (suc i) ps) t in
    rw (k, c, o) refl
