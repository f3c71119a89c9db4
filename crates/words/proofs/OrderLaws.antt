-- The order of words is strict, transitive and total, and is kept when a column is put behind both words.
use Rattle.std.proofs.Common.{◌≡◌, ℕ, zero, suc, ◌<◌, ◌⊎◌, [], ◌∷◌, ◌++◌, length, get_or, sym, refl, ap, ◌∙◌, subst, ap₂, inl, inr, arith, length-append}
use native.Mathlib.Decide.{ℕ_discrete, dec_lt}
use Rattle.words.specs.Order.{Less, at_once, later, shorter, Ordered, Leq}
use Rattle.words.specs.Words.{Word}

-- The same order as a type that computes: the lexicographic order, and the shorter first.
abbrev Lex : Word → Word → Type 0
Lex [] v = ⊥
Lex (x ∷ u) [] = ⊥
Lex (x ∷ u) (y ∷ v) = (x < y) ⊎ ((x ≡ y) × Lex u v)

abbrev Lower : Word → Word → Type 0
Lower u v = (length u < length v) ⊎ ((length u ≡ length v) × Lex u v)

lower : {u v : Word} → Less u v → Lower u v
lower (at_once h e) = inr (ap suc e, inl h)
lower (later l e) = elim (lower l) [ inl h ↦ inl (omega arith) | inr p ↦ inr (ap suc e, inr (refl, p.1)) ]
lower (shorter h) = inl h

lex_less : (u v : Word) → length u ≡ length v → Lex u v → Less u v
lex_less [] v e h = absurd h
lex_less (x ∷ u) [] e h = absurd h
lex_less (x ∷ u) (y ∷ v) e (inl h) = at_once h (omega arith)
lex_less (x ∷ u) (y ∷ v) e (inr p) =
    let l : length u ≡ length v = omega arith in
    let r : Less (x ∷ u) (x ∷ v) = later (lex_less u v l p.1) l in
    subst (λ z. Less (x ∷ u) (z ∷ v)) p.0 r

lower_less : (u v : Word) → Lower u v → Less u v
lower_less u v (inl h) = shorter h
lower_less u v (inr p) = lex_less u v p.0 p.1

lex_irrefl : (u : Word) → Lex u u → ⊥
lex_irrefl [] h = h
lex_irrefl (x ∷ u) (inl h) = omega arith
lex_irrefl (x ∷ u) (inr p) = lex_irrefl u p.1

lex_trans : (u v w : Word) → Lex u v → Lex v w → Lex u w
lex_trans [] v w h g = h
lex_trans (x ∷ u) [] w h g = absurd h
lex_trans (x ∷ u) (y ∷ v) [] h g = absurd g
lex_trans (x ∷ u) (y ∷ v) (z ∷ w) (inl h) (inl g) = inl (omega arith)
lex_trans (x ∷ u) (y ∷ v) (z ∷ w) (inl h) (inr q) = inl (omega arith)
lex_trans (x ∷ u) (y ∷ v) (z ∷ w) (inr p) (inl g) = inl (omega arith)
lex_trans (x ∷ u) (y ∷ v) (z ∷ w) (inr p) (inr q) = inr (p.0 ∙ q.0, lex_trans u v w p.1 q.1)

lex_total : (u v : Word) → length u ≡ length v → Lex u v ⊎ ((u ≡ v) ⊎ Lex v u)
lex_total [] [] e = inr (inl refl)
lex_total [] (y ∷ v) e = let z : ⊥ = omega arith in absurd z
lex_total (x ∷ u) [] e = let z : ⊥ = omega arith in absurd z
lex_total (x ∷ u) (y ∷ v) e = elim (ℕ_discrete x y) [
  | yes p ↦ elim (lex_total u v (omega arith)) [
    | inl l ↦ inl (inr (p, l))
    | inr r ↦ inr (elim r [ inl q ↦ inl (ap₂ (λ a b. a ∷ b) p q) | inr g ↦ inr (inr (sym p, g)) ])
  ]
  | no n ↦ elim (dec_lt x y) [ yes l ↦ inl (inl l) | no m ↦ inr (inr (inl (omega arith))) ]
]

lex-++ : (u v a b : Word) → Lex u v → Lex (u ++ a) (v ++ b)
lex-++ [] v a b h = absurd h
lex-++ (x ∷ u) [] a b h = absurd h
lex-++ (x ∷ u) (y ∷ v) a b (inl h) = inl h
lex-++ (x ∷ u) (y ∷ v) a b (inr p) = inr (p.0, lex-++ u v a b p.1)

lex_last : (u : Word) (a b : ℕ) → a < b → Lex (u ++ (a ∷ [])) (u ++ (b ∷ []))
lex_last [] a b h = inl h
lex_last (x ∷ u) a b h = inr (refl, lex_last u a b h)

-- A strict, transitive and total order.
pub less_irrefl : (u : Word) → Less u u → ⊥
less_irrefl u h = elim (lower h) [ inl g ↦ omega arith | inr p ↦ lex_irrefl u p.1 ]

pub less_trans : (u v w : Word) → Less u v → Less v w → Less u w
less_trans u v w h g = lower_less u w (at (lower h) (lower g))
  where
    at : Lower u v → Lower v w → Lower u w
    at (inl h) (inl g) = inl (omega arith)
    at (inl h) (inr q) = inl (omega arith)
    at (inr p) (inl g) = inl (omega arith)
    at (inr p) (inr q) = inr (p.0 ∙ q.0, lex_trans u v w p.1 q.1)

pub less_total : (u v : Word) → Less u v ⊎ ((u ≡ v) ⊎ Less v u)
less_total u v = elim (ℕ_discrete (length u) (length v)) [
  | yes e ↦ elim (lex_total u v e) [
    | inl l ↦ inl (lex_less u v e l)
    | inr r ↦ inr (elim r [ inl q ↦ inl q | inr g ↦ inr (lex_less v u (sym e) g) ])
  ]
  | no n ↦ elim (dec_lt (length u) (length v)) [ yes l ↦ inl (shorter l) | no m ↦ inr (inr (shorter (omega arith))) ]
]

pub ordered : Ordered
ordered = record { irreflexive = less_irrefl; transitive = less_trans; total = less_total }

-- Words that first differ at place i.
same_before : (u v : Word) (i : ℕ) → length u ≡ length v → i < length u → ((j : ℕ) → j < i → get_or u j 0 ≡ get_or v j 0) → get_or u i 0 < get_or v i 0 → Lex u v
same_before [] v i e h s d = let z : ⊥ = omega arith in absurd z
same_before (x ∷ u) [] i e h s d = let z : ⊥ = omega arith in absurd z
same_before (x ∷ u) (y ∷ v) zero e h s d = inl d
same_before (x ∷ u) (y ∷ v) (suc i) e h s d = inr (s 0 (omega arith), same_before u v i (omega arith) (omega arith) (λ j g. s (suc j) (omega arith)) d)

pub less_at : (u v : Word) (i : ℕ) → length u ≡ length v → i < length u → ((j : ℕ) → j < i → get_or u j 0 ≡ get_or v j 0) → get_or u i 0 < get_or v i 0 → Less u v
less_at u v i e h s d = lex_less u v e (same_before u v i e h s d)

pub same_all : (u v : Word) → length u ≡ length v → ((j : ℕ) → j < length u → get_or u j 0 ≡ get_or v j 0) → u ≡ v
same_all [] [] e s = refl
same_all [] (y ∷ v) e s = let z : ⊥ = omega arith in absurd z
same_all (x ∷ u) [] e s = let z : ⊥ = omega arith in absurd z
same_all (x ∷ u) (y ∷ v) e s = ap₂ (λ a b. a ∷ b) (s 0 (omega arith)) (same_all u v (omega arith) (λ j g. s (suc j) (omega arith)))

-- One column behind each of two words.
pub less_snoc : (u v : Word) (a b : ℕ) → Less u v → Less (u ++ (a ∷ [])) (v ++ (b ∷ []))
less_snoc u v a b h = lower_less (u ++ (a ∷ [])) (v ++ (b ∷ [])) (at (lower h))
  where
    at : Lower u v → Lower (u ++ (a ∷ [])) (v ++ (b ∷ []))
    at (inl h) = inl (omega (arith, length-append u (a ∷ []), length-append v (b ∷ [])))
    at (inr p) = inr (omega (arith, length-append u (a ∷ []), length-append v (b ∷ [])), lex-++ u v (a ∷ []) (b ∷ []) p.1)

pub less_last : (u : Word) (a b : ℕ) → a < b → Less (u ++ (a ∷ [])) (u ++ (b ∷ []))
less_last u a b h = lex_less (u ++ (a ∷ [])) (u ++ (b ∷ [])) (omega (arith, length-append u (a ∷ []), length-append u (b ∷ []))) (lex_last u a b h)

pub less_empty : (u : Word) (a : ℕ) → Less [] (u ++ (a ∷ []))
less_empty u a = shorter (omega (arith, length-append u (a ∷ [])))

-- Not later than.
pub leq_snoc : (u v : Word) (a : ℕ) → Leq u v → Leq (u ++ (a ∷ [])) (v ++ (a ∷ []))
leq_snoc u v a (inl e) = inl (ap (λ t. t ++ (a ∷ [])) e)
leq_snoc u v a (inr h) = inr (less_snoc u v a a h)

pub leq_trans : (u v w : Word) → Leq u v → Leq v w → Leq u w
leq_trans u v w (inl e) h = subst (λ t. Leq t w) (sym e) h
leq_trans u v w (inr h) (inl e) = inr (subst (Less u) e h)
leq_trans u v w (inr h) (inr g) = inr (less_trans u v w h g)

pub leq_less : (u v : Word) → Leq u v → Less v u → ⊥
leq_less u v (inl e) g = less_irrefl v (subst (Less v) e g)
leq_less u v (inr h) g = less_irrefl u (less_trans u v u h g)
