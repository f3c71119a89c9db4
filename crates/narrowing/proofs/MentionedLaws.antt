-- A claim depends on the sets that it mentions alone; and how many these are.
use Rattle.std.proofs.Common.{◌≡◌, ℕ, zero, suc, ◌+◌, ◌*◌, ◌<◌, ◌≤◌, max, Bool, true, false, not, cond, eqb, ltb, ◌&&◌, ◌||◌, T, ◌⊎◌, List, [], ◌∷◌, ◌++◌, sym, refl, ap, ◌∙◌, subst, inl, inr, append_assoc, arith, leb→le}
use mathlib.Core.Bool.{false≢true}
use mathlib.Core.Path.{fun_ext}
use native.Mathlib.Nat.{le-max_left}
use Rattle.words.specs.Languages.{SameLeft}
use Rattle.words.specs.Words.{Sets, Word, bit, sets}
use Rattle.kinds.specs.Atoms.{sets_of}
use Rattle.kinds.specs.Counts.{Ends, places}
use Rattle.kinds.specs.Meaning.{Means, related, counted}
use Rattle.kinds.specs.Relations.{Relates, first, second}
use Rattle.kinds.specs.declared.atom.Atom.{Atom}
use Rattle.kinds.specs.declared.atom.Atom.TheVariants.{Related, Counted}
use Rattle.kinds.specs.declared.relation.Relation.{Relation}
use Rattle.kinds.specs.declared.relation.Relation.TheVariants.{Within, Single, Next, Before}
use Rattle.claims.specs.Claims.{C, atom, not1, and1, some, Holds, Of, has, put}
use Rattle.claims.specs.Rows.{ok}
use Rattle.claims.proofs.FrontLaws.{both_passed}
use Rattle.narrowing.specs.Columns.{size}
use Rattle.narrowing.specs.Laws.{NarrowLaws}
use Rattle.narrowing.specs.Mentioned.{named, mentions, widest}
use Rattle.narrowing.proofs.ColumnsLaws.{size_fits}
use Rattle.narrowing.proofs.LooksLaws.{or_left, or_right, self, first_named, second_named, named_below}

-- a claim without parts holds of both families or of neither where they agree in the sets that it
-- names
abbrev One : (ℕ → Bool) → ℕ → Type 0
One s i = (s i ≡ true) × ((j : ℕ) → s j ≡ true → j ≡ i)

both : (P : (ℕ → Bool) → (ℕ → Bool) → Type 0) (s s' t t' : ℕ → Bool) → s ≡ s' → t ≡ t' → P s t → P s' t'
both P s s' t t' e f p = subst (P s') f (subst (λ r. P r t) e p)

relates_named : (r : Relation) (v w : Sets) → v (first r) ≡ w (first r) → v (second r) ≡ w (second r) → Relates r v → Relates r w
relates_named (Within x y) v w e f = both (λ s t. (i : ℕ) → s i ≡ true → t i ≡ true) (v x) (w x) (v y) (w y) e f
relates_named (Single x) v w e f = subst (λ s. (i : ℕ) × One s i) e
relates_named (Next x y) v w e f = both (λ s t. (i : ℕ) × One s i × One t (suc i)) (v x) (w x) (v y) (w y) e f
relates_named (Before x y) v w e f = both (λ s t. (i : ℕ) × (j : ℕ) × One s i × One t j × (i < j)) (v x) (w x) (v y) (w y) e f

means_named : (a : Atom) (v w : Sets) → ((z : ℕ) → named a z ≡ true → v z ≡ w z) → Means a v → Means a w
means_named (Related r) v w h p = (related r w).1 (relates_named r v w (h (first r) (first_named r)) (h (second r) (second_named r)) ((related r v).0 p))
means_named (Counted m) v w h p =
    (counted m w).1 (subst (λ s. (n : ℕ) × (t : ℕ) × Ends s n × (places s n ≡ t * m.remainder.modulus + m.remainder.rest)) (h m.set (self m.set)) ((counted m v).0 p))

put_same : (v w : Sets) (x z : ℕ) (u : List Bool) (c : Bool) → ((not (eqb z x) && c) ≡ true → v z ≡ w z) → c ≡ true → put v x u z ≡ put w x u z
put_same v w x z u c h e = at (eqb z x) refl
  where
    at : (b : Bool) → eqb z x ≡ b → put v x u z ≡ put w x u z
    at true g = fun_ext λ i. ap (λ b. cond b (has u i) (v z i)) g ∙ sym (ap (λ b. cond b (has u i) (w z i)) g)
    at false g = let k = h (ap (λ b. not b && c) g ∙ e) in fun_ext λ i. ap (λ s. cond (eqb z x) (has u i) (s i)) k

-- a claim holds of both families or of neither where they agree in the sets that it mentions
pub holds_mentioned : (c : C) (v w : Sets) → ((z : ℕ) → mentions c z ≡ true → v z ≡ w z) → Holds c v → Holds c w
holds_mentioned (atom a) v w h = means_named a v w h
holds_mentioned (not1 c) v w h = λ p q. p (holds_mentioned c w v (λ z e. sym (h z e)) q)
holds_mentioned (and1 c d) v w h = λ p. (
  holds_mentioned c v w (λ z e. h z (or_left (mentions c z) (mentions d z) e)) p.0,
  holds_mentioned d v w (λ z e. h z (or_right (mentions c z) (mentions d z) e)) p.1,
)
holds_mentioned (some x c) v w h = λ p. (p.0, holds_mentioned c (put v x p.0) (put w x p.0) (λ z e. put_same v w x z p.0 (mentions c z) (h z) e) p.1)

-- columns that differ only in sets that the claim does not mention leave the same of it
sets_same : (u x : Word) (a b z : ℕ) → bit z a ≡ bit z b → (i : ℕ) → sets (u ++ (a ∷ x)) z i ≡ sets (u ++ (b ∷ x)) z i
sets_same [] x a b z e zero = e
sets_same [] x a b z e (suc i) = refl
sets_same (c ∷ u) x a b z e zero = refl
sets_same (c ∷ u) x a b z e (suc i) = sets_same u x a b z e i

pub column_mentioned : (k : ℕ) (c : C) (u : Word) (a b : ℕ) → ((z : ℕ) → mentions c z ≡ true → bit z a ≡ bit z b) → SameLeft k (Of c) (u ++ (a ∷ [])) (u ++ (b ∷ []))
column_mentioned k c u a b h x hx = simp append_assoc (
  holds_mentioned c (sets (u ++ (a ∷ x))) (sets (u ++ (b ∷ x))) (λ z e. fun_ext (sets_same u x a b z (h z e))),
  holds_mentioned c (sets (u ++ (b ∷ x))) (sets (u ++ (a ∷ x))) (λ z e. fun_ext (sets_same u x b a z (sym (h z e)))),
)

one_of : (a b : Bool) → (a || b) ≡ true → (a ≡ true) ⊎ (b ≡ true)
one_of true b e = inl refl
one_of false b e = inr e

last_of : (a b : Bool) → (a && b) ≡ true → b ≡ true
last_of true b e = e
last_of false b e = absurd (false≢true e)

-- the sets that are mentioned are among the first k
pub mentions_below : (k : ℕ) (c : C) → T (ok k c) → (z : ℕ) → mentions c z ≡ true → z < k
mentions_below k (atom a) t z e = let b = named_below a z e in let l = leb→le (sets_of a) k t in omega arith
mentions_below k (not1 c) t z e = mentions_below k c t z e
mentions_below k (and1 c d) t z e =
    let (a, b) = both_passed (ok k c) (ok k d) t in
    elim (one_of (mentions c z) (mentions d z) e) [ inl p ↦ mentions_below k c a z p | inr p ↦ mentions_below k d b z p ]
mentions_below k (some x c) t z e =
    let (a, b) = both_passed (ltb x k) (ok k c) t in
    mentions_below k c b z (last_of (not (eqb z x)) (mentions c z) e)

-- no part mentions more sets than there are
pub widest_fits : (k : ℕ) (c : C) → widest k c ≤ k
widest_fits k (atom a) = size_fits k (mentions (atom a))
widest_fits k (not1 c) = widest_fits k c
widest_fits k (and1 c d) = let a = size_fits k (mentions (and1 c d)) in let b = widest_fits k c in let e = widest_fits k d in omega arith
widest_fits k (some x c) = let a = size_fits k (mentions (some x c)) in let b = widest_fits k c in omega arith

-- and the whole claim is one of the parts
pub mentioned_fits : (k : ℕ) (c : C) → size k (mentions c) ≤ widest k c
mentioned_fits k (atom a) = omega arith
mentioned_fits k (not1 c) = mentioned_fits k c
mentioned_fits k (and1 c d) = le-max_left (size k (mentions (and1 c d))) (max (widest k c) (widest k d))
mentioned_fits k (some x c) = le-max_left (size k (mentions (some x c))) (widest k c)

pub narrow_laws : NarrowLaws
narrow_laws = record { same_column = column_mentioned; widest_fits = widest_fits }
