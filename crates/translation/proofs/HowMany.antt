-- How many places a finite set of places has, read off as a list or counted up to where it ends.
use Rattle.std.proofs.Common.{◌≡◌, ℕ, zero, suc, ◌+◌, ◌*◌, ◌↔◌, Bool, true, false, cond, List, [], ◌∷◌, length, refl, sym, ap, ◌∙◌, subst, arith}
use mathlib.Core.Bool.{false≢true}
use mathlib.Core.Path.{fun_ext}
use Rattle.words.specs.Words.{Sets}
use Rattle.kinds.specs.Counts.{Ends, places}
use Rattle.kinds.specs.Meaning.{counted}
use Rattle.kinds.specs.declared.multiple.Multiple.{Multiple}
use Rattle.claims.specs.Claims.{has, multiple, Holds}
use Rattle.formulas.specs.Sets.{how_many}

has_ends : (u : List Bool) → Ends (has u) (length u)
has_ends [] i h = absurd (false≢true h)
has_ends (b ∷ u) zero h = omega arith
has_ends (b ∷ u) (suc i) h = let e = has_ends u i h in omega arith

ends_less : (b : Bool) (u : List Bool) (n : ℕ) → Ends (has (b ∷ u)) (suc n) → Ends (has u) n
ends_less b u n e i h = let g = e (suc i) h in omega arith

none_left : (u : List Bool) → Ends (has u) 0 → how_many u ≡ 0
none_left [] e = refl
none_left (true ∷ u) e = let z = e 0 refl in absurd (omega arith)
none_left (false ∷ u) e = let r = none_left u (λ i h. (let z = e (suc i) h in omega arith)) in omega arith

places_none : (n : ℕ) → places (has []) n ≡ 0
places_none zero = refl
places_none (suc n) = let e = places_none n in omega arith

-- wherever it ends
places_list : (u : List Bool) (n : ℕ) → Ends (has u) n → places (has u) n ≡ how_many u
places_list [] n e = places_none n
places_list (b ∷ u) zero e = sym (none_left (b ∷ u) e)
places_list (b ∷ u) (suc n) e = ap (λ p. cond b 1 0 + p) (places_list u n (ends_less b u n e))

-- the claim of a set whose places are those of the list u
pub multiple_says : (m : Multiple) (v : Sets) (u : List Bool) → ((i : ℕ) → v m.set i ≡ has u i) →
    Holds (multiple m) v ↔ ((t : ℕ) × (how_many u ≡ t * m.remainder.modulus + m.remainder.rest))
multiple_says m v u s =
    let same : v m.set ≡ has u = fun_ext λ i. s i in
    let k = counted m v in (
      λ h. (let (n, t, e, p) = k.0 h in (t, sym (places_list u n (subst (λ z. Ends z n) same e)) ∙ sym (ap (λ z. places z n) same) ∙ p)),
      λ h. (let (t, p) = h in let n = length u in k.1 (n, t, subst (λ z. Ends z n) (sym same) (has_ends u), ap (λ z. places z n) same ∙ places_list u n (has_ends u) ∙ p)),
    )
