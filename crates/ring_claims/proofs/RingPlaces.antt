-- How many places a set of a ring has: the same number up to each end that it has, and in the ring turned by one place.
use Rattle.std.proofs.Common.{◌≡◌, ℕ, zero, suc, ◌+◌, ◌<◌, Bool, true, false, cond, ap, sym, refl, arith}
use Rattle.kinds.specs.Counts.{Ends, places}

no_place : (b : Bool) → (b ≡ true → ⊥) → ◌≡◌ {A = ℕ} (cond b 1 0) 0
no_place true h = absurd (h refl)
no_place false h = refl

no_places : (s : ℕ → Bool) (n : ℕ) → ((i : ℕ) → s i ≡ true → ⊥) → places s n ≡ 0
no_places s zero h = refl
no_places s (suc n) h = let e = no_place (s 0) (h 0) in let f = no_places (λ i. s (suc i)) n (λ i. h (suc i)) in omega arith

pub same_places : (s : ℕ → Bool) (m n : ℕ) → Ends s m → Ends s n → places s m ≡ places s n
same_places s zero n e f = sym (no_places s n (λ i t. let z = e i t in omega arith))
same_places s (suc m) zero e f = no_places s (suc m) (λ i t. let z = f i t in omega arith)
same_places s (suc m) (suc n) e f =
    ap (λ p. cond (s 0) 1 0 + p) (same_places (λ i. s (suc i)) m n (λ i t. (let z = e (suc i) t in omega arith)) (λ i t. (let z = f (suc i) t in omega arith)))

places_below : (s t : ℕ → Bool) (n : ℕ) → ((i : ℕ) → i < n → s i ≡ t i) → places s n ≡ places t n
places_below s t zero h = refl
places_below s t (suc n) h =
    let e : ◌≡◌ {A = ℕ} (cond (s 0) 1 0) (cond (t 0) 1 0) = ap (λ b. cond b 1 0) (h 0 (omega arith)) in
    let f = places_below (λ i. s (suc i)) (λ i. t (suc i)) n (λ i l. h (suc i) (omega arith)) in
    omega arith

-- the last of them apart
places_last : (s : ℕ → Bool) (n : ℕ) → places s (suc n) ≡ places s n + cond (s n) 1 0
places_last s zero = omega arith
places_last s (suc n) = let e = places_last (λ i. s (suc i)) n in omega arith

-- t is s with its first place as its last
pub places_turned : (s t : ℕ → Bool) (m : ℕ) → ((i : ℕ) → i < m → t i ≡ s (suc i)) → t m ≡ s 0 → places s (suc m) ≡ places t (suc m)
places_turned s t m h e =
    let a = places_below t (λ i. s (suc i)) m h in
    let b = places_last t m in
    let f : ◌≡◌ {A = ℕ} (cond (t m) 1 0) (cond (s 0) 1 0) = ap (λ b. cond b 1 0) e in
    omega arith
