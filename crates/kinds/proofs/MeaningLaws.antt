-- A claim without parts about k sets holds of two families or of neither if they agree in the first
-- k sets.
use Rattle.std.proofs.Common.{◌≡◌, ℕ, suc, ◌<◌, ◌≤◌, Bool, sym, ◌∙◌, ap, refl, zero, cond, arith}
use native.Mathlib.Nat.{le-max_left, le-max_right}
use Rattle.words.specs.Words.{Sets}
use Rattle.kinds.specs.Atoms.{sets_of}
use Rattle.kinds.specs.Counts.{Counts, places}
use Rattle.kinds.specs.Meaning.{Means, related, counted}
use Rattle.kinds.specs.Relations.{Only, Relates, first, second}
use Rattle.kinds.specs.declared.atom.Atom.{Atom}
use Rattle.kinds.specs.declared.atom.Atom.TheVariants.{Related, Counted}
use Rattle.kinds.specs.declared.multiple.Multiple.{Multiple}
use Rattle.kinds.specs.declared.relation.Relation.{Relation}
use Rattle.kinds.specs.declared.relation.Relation.TheVariants.{Within, Single, Next, Before}

-- families that agree in the first k sets
abbrev pub Agree : ℕ → Sets → Sets → Type 0
Agree k v w = (x i : ℕ) → x < k → v x i ≡ w x i

pub only_agree : (k : ℕ) (v w : Sets) → Agree k v w → (x i : ℕ) → x < k → Only v x i → Only w x i
only_agree k v w h x i l o = (sym (h x i l) ∙ o.0, λ j e. o.1 j (h x j l ∙ e))

relates_agree : (k : ℕ) (r : Relation) → first r < k → second r < k → (v w : Sets) → Agree k v w → Relates r v → Relates r w
relates_agree k (Within x y) a b v w h p = λ i e. sym (h y i b) ∙ p i (h x i a ∙ e)
relates_agree k (Single x) a b v w h p = (p.0, only_agree k v w h x p.0 a p.1)
relates_agree k (Next x y) a b v w h p = (p.0, only_agree k v w h x p.0 a p.1, only_agree k v w h y (suc p.0) b p.2)
relates_agree k (Before x y) a b v w h p = (p.0, p.1, only_agree k v w h x p.0 a p.2, only_agree k v w h y p.1 b p.3, p.4)

places_agree : (s t : ℕ → Bool) → ((i : ℕ) → s i ≡ t i) → (n : ℕ) → places s n ≡ places t n
places_agree s t h zero = refl
places_agree s t h (suc n) =
    let c : ◌≡◌ {A = ℕ} (cond (s 0) 1 0) (cond (t 0) 1 0) = ap (λ b. cond b 1 0) (h 0) in
    let r = places_agree (λ i. s (suc i)) (λ i. t (suc i)) (λ i. h (suc i)) n in
    omega arith

counts_agree : (k : ℕ) (m : Multiple) → m.set < k → (v w : Sets) → Agree k v w → Counts m v → Counts m w
counts_agree k m l v w h p = (p.0, p.1, λ i e. p.2 i (h m.set i l ∙ e), sym (places_agree (v m.set) (w m.set) (λ i. h m.set i l) p.0) ∙ p.3)

pub means_agree : (k : ℕ) (a : Atom) → sets_of a ≤ k → (v w : Sets) → Agree k v w → Means a v → Means a w
means_agree k (Related r) l v w h p =
    (related r w).1 (relates_agree k r (omega (arith, le-max_left (suc (first r)) (suc (second r)))) (omega (arith, le-max_right (suc (first r)) (suc (second r)))) v w h ((related r v).0 p))
means_agree k (Counted m) l v w h p = (counted m w).1 (counts_agree k m (omega arith) v w h ((counted m v).0 p))
