-- Lists of values; the set of one place, and of no place.
use Rattle.std.proofs.Common.{◌≡◌, ◌∙◌, ℕ, ◌-◌, ◌<◌, ◌≤◌, Bool, true, false, ◌||◌, ◌↔◌, List, [], ◌∷◌, map, length, get_or, take, drop, refl, sym, ap, arith}
use mathlib.Core.Bool.{false≢true}
use Rattle.trees.specs.declared.tree.Parameter.{Parameter}
use Rattle.formulas.specs.Sets.{mix}
use Rattle.trees.specs.Tree.{Expr}
use Rattle.trees.specs.declared.tree.ExprKind.{Row_of-ExprKind-Listed-0-2 as Exprs, end_of-ExprKind-Listed-0-2 as end, more_of-ExprKind-Listed-0-2 as more, items-the_row-ExprKind-Listed-0-2 as items_of}
use Rattle.claims.specs.Claims.{has}
use Rattle.resolve.specs.Says.{Value, place, set, none, set_of, IsSet, Same, Context, value, values, bind_all}

pub values_are : (n : _) (row : Exprs n) (s : Context) → values row s ≡ map (λ a. value a.kind s) (items_of n row)
values_are n end s = refl
values_are n (more a _ rest) s = ap (λ l. value a s ∷ l) (values_are _ rest s)

pub mix_none : (u : List Bool) → mix (λ a b. a || b) u [] ≡ u
mix_none [] = refl
mix_none (true ∷ u) = ap (λ l. true ∷ l) (mix_none u)
mix_none (false ∷ u) = ap (λ l. false ∷ l) (mix_none u)

both_true : (a b : Bool) → (a ≡ true → b ≡ true) → (b ≡ true → a ≡ true) → a ≡ b
both_true true b f g = sym (f refl)
both_true false true f g = g refl
both_true false false f g = refl

-- sets of which each is within the other have the same places
pub same_sets : (v w : Value) → IsSet v → IsSet w →
    (((i : ℕ) → has (set_of v) i ≡ true → has (set_of w) i ≡ true) × ((i : ℕ) → has (set_of w) i ≡ true → has (set_of v) i ≡ true)) ↔ Same v w
same_sets (place i) w h k = absurd h
same_sets none w h k = absurd h
same_sets (set u) (place i) h k = absurd k
same_sets (set u) none h k = absurd k
same_sets (set u) (set w) h k = (λ f i. both_true (has u i) (has w i) (f.0 i) (f.1 i), λ f. (λ i t. sym (f i) ∙ t, λ i t. f i ∙ t))

take_whole : {A : Type 0} (l : List A) → take (length l) l ≡ l
take_whole [] = refl
take_whole (x ∷ l) = ap (λ z. x ∷ z) (take_whole l)

-- a list that is not empty is its first part and the others
pub head_rest : {A : Type 0} (xs : List A) (d : A) → 1 ≤ length xs → d ≡ get_or xs 0 d → xs ≡ d ∷ take (length xs - 1) (drop 1 xs)
head_rest [] d le h = absurd (omega arith)
head_rest (x ∷ l) d le h =
    let e : length (x ∷ l) - 1 ≡ length l = omega arith in
    let r : l ≡ take (length (x ∷ l) - 1) l = sym (ap (λ n. take n l) e ∙ take_whole l) in
    ap (λ y. y ∷ l) (sym h) ∙ ap (λ z. d ∷ z) r

pub bind_none : (ps : List Parameter) (vs : List Value) (s : Context) → length ps < 1 → bind_all ps vs s ≡ s
bind_none [] vs s l = refl
bind_none (p ∷ ps) vs s l = absurd (omega arith)

pub bind_no_value : (ps : List Parameter) (xs : List Expr) (f : Expr → Value) (s : Context) → length xs < 1 → bind_all ps (map f xs) s ≡ s
bind_no_value [] xs f s l = refl
bind_no_value (p ∷ ps) [] f s l = refl
bind_no_value (p ∷ ps) (a ∷ xs) f s l = absurd (omega arith)

-- a set without places
pub empty_says : (v : Value) (u : List Bool) → v ≡ set u → ((i : ℕ) → has u i ≡ true → false ≡ true) ↔ ((i : ℕ) → has (set_of v) i ≡ true → ⊥)
empty_says v u e = (λ f i h. false≢true (f i (sym (ap (λ w. has (set_of w) i) e) ∙ h)), λ f i h. absurd (f i (ap (λ w. has (set_of w) i) e ∙ h)))

pub none_left : {A : Type 0} (l : List A) → length l ≡ 0 → l ≡ []
none_left [] h = refl
none_left (x ∷ l) h = absurd (omega arith)
