-- What is chosen by whether a number is another.
use Rattle.std.proofs.Common.{◌≡◌, ℕ, ◌<◌, cond, ◌==◌, refl, inl, inr, arith}
use Rattle.std.proofs.lemmas.Bool.Decides.{eqb_tells}

pub other : {A : Type 0} (x n : ℕ) (a b : A) → x < n → cond (x == n) a b ≡ b
other x n a b l = elim (eqb_tells x n) [ inl q ↦ (let e = q.1 in absurd (omega arith)) | inr q ↦ rw q.0 refl ]

pub this : {A : Type 0} (n : ℕ) (a b : A) → cond (n == n) a b ≡ a
this n a b = elim (eqb_tells n n) [ inl q ↦ rw q.0 refl | inr q ↦ absurd (q.1 refl) ]
