-- There are more choices of more things, and of more numbers.
use Rattle.std.proofs.Common.{◌≡◌, ℕ, zero, suc, ◌+◌, ◌<◌, ◌≤◌, refl, sym, subst, arith}
use native.Mathlib.Decide.{dec_lt}
use Rattle.strengthen.specs.Count.{choices}

pub none_of_them : (n : ℕ) → choices n 0 ≡ 1
none_of_them zero = refl
none_of_them (suc n) = refl

of_nothing : (m : ℕ) → choices 0 m ≡ 1
of_nothing zero = refl
of_nothing (suc m) = refl

one_number_more : (n m : ℕ) → choices n m ≤ choices n (suc m)
one_number_more zero m = omega (arith, of_nothing m, of_nothing (suc m))
one_number_more (suc n) zero = omega (arith, none_of_them (suc n), one_number_more n zero, none_of_them n)
one_number_more (suc n) (suc m) = omega (arith, one_number_more n m, one_number_more n (suc m))

one_thing_more : (n m : ℕ) → choices n m ≤ choices (suc n) m
one_thing_more n zero = omega (arith, none_of_them n, none_of_them (suc n))
one_thing_more n (suc m) = omega arith

of_more_numbers : (n m k : ℕ) → m ≤ k → choices n m ≤ choices n k
of_more_numbers n m zero h = (let e : m ≡ 0 = omega arith in subst (λ z. choices n z ≤ choices n 0) (sym e) (omega arith))
of_more_numbers n m (suc k) h = elim (dec_lt m (suc k)) [
  | yes l ↦ (let p = of_more_numbers n m k (omega arith) in let q = one_number_more n k in omega arith)
  | no l ↦ (let e : m ≡ suc k = omega arith in subst (λ z. choices n z ≤ choices n (suc k)) (sym e) (omega arith))
]

of_more_things : (n m k : ℕ) → n ≤ k → choices n m ≤ choices k m
of_more_things n m zero h = (let e : n ≡ 0 = omega arith in subst (λ z. choices z m ≤ choices 0 m) (sym e) (omega arith))
of_more_things n m (suc k) h = elim (dec_lt n (suc k)) [
  | yes l ↦ (let p = of_more_things n m k (omega arith) in let q = one_thing_more k m in omega arith)
  | no l ↦ (let e : n ≡ suc k = omega arith in subst (λ z. choices z m ≤ choices (suc k) m) (sym e) (omega arith))
]

-- where a sum on the way is too large, so is the last
pub grows : (i n m : ℕ) → i < n → m ≤ 8 → choices (suc i) m ≤ choices n 8
grows i n m h l = (let p = of_more_things (suc i) m n (omega arith) in let q = of_more_numbers n m 8 l in omega arith)

-- of one thing more: those without it and those with it
pub by_the_last : (i m s f : ℕ) → 1 ≤ m → s ≡ choices i m → ((k : ℕ) → m ≡ suc k → f ≡ choices i k) → s + f ≡ choices (suc i) m
by_the_last i zero s f one e g = (let z : ⊥ = omega arith in absurd z)
by_the_last i (suc m) s f one e g = (let p = g m refl in omega arith)
