-- What is said of some place or set, or of each, and where a row is spoken of, of those of the row.
use Rattle.std.proofs.Common.{◌≡◌, ℕ, ◌<◌, Bool, true, ◌↔◌, Option, Some, None, List, sym, subst}
use Rattle.claims.specs.Claims.{has}
use Rattle.formulas.specs.Meaning.{Env, with_place, with_group}
use Rattle.trees.specs.declared.tree.Sort.{Sort}
use Rattle.trees.specs.declared.tree.Sort.TheVariants.{Place, Set}
use Rattle.trees.specs.declared.tree.Quantifier.{Quantifier}
use Rattle.trees.specs.declared.tree.Quantifier.TheVariants as quantifier
use Rattle.resolve.specs.Says.{Inside, SomePlace, EachPlace, SomeSet, EachSet}
use Rattle.resolve.specs.Scopes.{Bound, WhereBound, OverAll, places_of}
use Rattle.resolve.proofs.Chosen.{other, this}

pub some_place_iff : (row : Option (List Bool)) {P Q : ℕ → Type 0} → ((i : ℕ) → P i ↔ Q i) → SomePlace row P ↔ SomePlace row Q
some_place_iff None f = (λ p. (p.0, (f p.0).0 p.1), λ p. (p.0, (f p.0).1 p.1))
some_place_iff (Some row) f = (λ p. (p.0, p.1, (f p.0).0 p.2), λ p. (p.0, p.1, (f p.0).1 p.2))

pub each_place_iff : (row : Option (List Bool)) {P Q : ℕ → Type 0} → ((i : ℕ) → P i ↔ Q i) → EachPlace row P ↔ EachPlace row Q
each_place_iff None f = (λ p i. (f i).0 (p i), λ p i. (f i).1 (p i))
each_place_iff (Some row) f = (λ p i h. (f i).0 (p i h), λ p i h. (f i).1 (p i h))

pub some_set_iff : (row : Option (List Bool)) {P Q : List Bool → Type 0} → ((u : List Bool) → P u ↔ Q u) → SomeSet row P ↔ SomeSet row Q
some_set_iff None f = (λ p. (p.0, (f p.0).0 p.1), λ p. (p.0, (f p.0).1 p.1))
some_set_iff (Some row) f = (λ p. (p.0, p.1, (f p.0).0 p.2), λ p. (p.0, p.1, (f p.0).1 p.2))

pub each_set_iff : (row : Option (List Bool)) {P Q : List Bool → Type 0} → ((u : List Bool) → P u ↔ Q u) → EachSet row P ↔ EachSet row Q
each_set_iff None f = (λ p u. (f u).0 (p u), λ p u. (f u).1 (p u))
each_set_iff (Some row) f = (λ p u h. (f u).0 (p u h), λ p u h. (f u).1 (p u h))

pub over_iff : (q : Quantifier) (sort : Sort) (n : ℕ) (row : Option ℕ) (P Q : Env → Type 0) → ((e : Env) → P e ↔ Q e) → (e : Env) → OverAll q sort n row P e ↔ OverAll q sort n row Q e
over_iff quantifier.Some Place n row P Q f e = some_place_iff (places_of row e) (λ i. f (with_place e n i))
over_iff quantifier.Some Set n row P Q f e = some_set_iff (places_of row e) (λ u. f (with_group e n u))
over_iff quantifier.All Place n row P Q f e = each_place_iff (places_of row e) (λ i. f (with_place e n i))
over_iff quantifier.All Set n row P Q f e = each_set_iff (places_of row e) (λ u. f (with_group e n u))

-- a place that is tried, in the row
place_bound : (n r i : ℕ) (e : Env) → Bound Place n r (with_place e n i) ↔ (has (e.groups r) i ≡ true)
place_bound n r i e = let same = this n i (e.places n) in (λ h. subst (λ j. has (e.groups r) j ≡ true) same h, λ h. subst (λ j. has (e.groups r) j ≡ true) (sym same) h)

-- a set that is tried, within the row
set_bound : (n r : ℕ) (u : List Bool) (e : Env) → r < n → Bound Set n r (with_group e n u) ↔ Inside (e.groups r) u
set_bound n r u e l =
    let row = other r n u (e.groups r) l in
    let set = this n u (e.groups n) in
    (λ h. subst (λ w. Inside (e.groups r) w) set (subst (λ w. Inside w ((with_group e n u).groups n)) row h), λ h. subst (λ w. Inside w ((with_group e n u).groups n)) (sym row) (subst (λ w. Inside (e.groups r) w) (sym set) h))

-- what is said under a bound, of all places and sets, is said of those of the row
pub bound_says : (q : Quantifier) (sort : Sort) (n r : ℕ) (P : Env → Type 0) (e : Env) → r < n → OverAll q sort n None (λ z. WhereBound q (Bound sort n r z) (P z)) e ↔ OverAll q sort n (Some r) P e
bound_says quantifier.Some Place n r P e l = (λ p. (p.0, (place_bound n r p.0 e).0 p.1.0, p.1.1), λ p. (p.0, ((place_bound n r p.0 e).1 p.1, p.2)))
bound_says quantifier.Some Set n r P e l = (λ p. (p.0, (set_bound n r p.0 e l).0 p.1.0, p.1.1), λ p. (p.0, ((set_bound n r p.0 e l).1 p.1, p.2)))
bound_says quantifier.All Place n r P e l = (λ p i h. p i ((place_bound n r i e).1 h), λ p i h. p i ((place_bound n r i e).0 h))
bound_says quantifier.All Set n r P e l = (λ p u h. p u ((set_bound n r u e l).1 h), λ p u h. p u ((set_bound n r u e l).0 h))

pub where_iff : (q : Quantifier) {A B P Q : Type 0} → A ↔ B → P ↔ Q → WhereBound q A P ↔ WhereBound q B Q
where_iff quantifier.Some f g = (λ p. (f.0 p.0, g.0 p.1), λ p. (f.1 p.0, g.1 p.1))
where_iff quantifier.All f g = (λ p b. g.0 (p (f.1 b)), λ p a. g.1 (p (f.0 a)))
