-- What is so of each element, by its place, of a list and of one more behind it.
use Rattle.std.proofs.Common.{◌≡◌, ℕ, zero, suc, List, [], ◌∷◌, ◌++◌, length, slice_get, Some, subst}

pub each_pushed : {A : Type 0} (P : ℕ → A → Type 0) (xs : List A) (x : A) → ((p : ℕ) (s : A) → slice_get xs p ≡ Some s → P p s) → P (length xs) x → (p : ℕ) (s : A) → slice_get (xs ++ x ∷ []) p ≡ Some s → P p s
each_pushed P [] x h last zero s e = let q : x ≡ s = cc in subst (P 0) q last
each_pushed P [] x h last (suc p) s e = let z : ⊥ = cc in absurd z
each_pushed P (y ∷ ys) x h last zero s e = h zero s e
each_pushed P (y ∷ ys) x h last (suc p) s e = each_pushed (λ q. P (suc q)) ys x (λ q t. h (suc q) t) last p s e
