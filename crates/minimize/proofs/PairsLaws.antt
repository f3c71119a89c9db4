-- A pair's number, found or new, as joining uses it.
use Rattle.std.proofs.Common.{◌≡◌, ℕ, ◌+◌, ◌<◌, max, List, subst, arith, below_none}
use Rattle.automata.specs.Product.{pair}
use Rattle.tables.specs.Numbering.{pair_at, NumberOf, Numbered}
use Rattle.minimize.specs.Pairs.{Interned}

-- no pair yet
pub pairs_none : {m : ℕ} {lefts rights index : List ℕ} → Numbered m m lefts rights index 0
pairs_none = record { left = below_none _; right = below_none _; number = below_none _ }

pub interned_old : {m count x y : ℕ} {lefts rights index : List ℕ} (i : ℕ) → Numbered m m lefts rights index count → NumberOf lefts rights count x y i → Interned m count x y lefts rights lefts rights index i
interned_old {m} {count} {x} {y} {lefts} {rights} {index} i n f =
    let (h, e) = f in
    let s : count ≡ max count (i + 1) = omega arith in
    record { number = omega arith; left = cc; right = cc; lefts_kept = λ j _. cc; rights_kept = λ j _. cc; pairs = subst (Numbered m m lefts rights index) s n }

pub interned_new : {m count x y : ℕ} {lefts rights lefts' rights' index' : List ℕ} → Numbered m m lefts' rights' index' (count + 1) → pair_at lefts' rights' count ≡ pair x y → ((j : ℕ) → j < count → pair_at lefts' rights' j ≡ pair_at lefts rights j) → Interned m count x y lefts rights lefts' rights' index' count
interned_new {m} {count} {x} {y} {lefts} {rights} {lefts'} {rights'} {index'} n e kept =
    let s : count + 1 ≡ max count (count + 1) = omega arith in
    record { number = omega arith; left = cc; right = cc; lefts_kept = λ j h. (let k = kept j h in cc); rights_kept = λ j h. (let k = kept j h in cc); pairs = subst (Numbered m m lefts' rights' index') s n }
