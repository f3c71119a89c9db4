-- Every claim's language is regular, so it can be told of every word whether it holds.
use Rattle.std.proofs.Common.{ℕ, zero, suc, ◌+◌, ◌^◌, ◌<◌, ◌≤◌, T, ltb, [], ◌∷◌, inl, inr, pow-suc, arith, ltb→lt}
use Rattle.words.specs.Words.{Columns, Word}
use Rattle.claims.specs.Claims.{C, Of, and1, atom, not1, some}
use Rattle.claims.specs.Laws.{Told}
use Rattle.claims.specs.Rows.{ok}
use Rattle.claims.proofs.FrontLaws.{both_passed}
use Rattle.automata.proofs.Agreement.{SomeBut}
use Rattle.automata.proofs.Beyond.{Beyond, some_beyond}
use Rattle.automata.proofs.Projection.{regular_but, regular_zeros}
use Rattle.automata.proofs.Regular.{Regular, regular_and, regular_iff, regular_not}
use Rattle.automata.proofs.Atoms.{atom_regular}

-- the sets under some are among the k
abbrev pub Bound : ℕ → C → Type 0
Bound k (not1 c) = Bound k c
Bound k (and1 c d) = Bound k c × Bound k d
Bound k (some x c) = (x < k) × Bound k c
Bound k _ = Unit {0}

pub bound : (k : ℕ) (c : C) → T (ok k c) → Bound k c
bound k (not1 c) t = bound k c t
bound k (and1 c d) t = let (a, b) = both_passed (ok k c) (ok k d) t in (bound k c a, bound k d b)
bound k (some x c) t = let (a, b) = both_passed (ltb x k) (ok k c) t in (ltb→lt x k a, bound k c b)
bound k _ t = tt

pub regular : (k : ℕ) (c : C) → Bound k c → Regular k (Of c)
regular k (atom a) t = atom_regular k a
regular k (not1 c) t = regular_not k (Of c) (regular k c t)
regular k (and1 c d) t = regular_and k (Of c) (Of d) (regular k c t.0) (regular k d t.1)
regular k (some x c) t =
    regular_iff k (Beyond x (Of c)) (Of (some x c)) (λ w h. ((some_beyond x c w).1, (some_beyond x c w).0))
    (regular_zeros k (λ w. SomeBut x w (Of c)) (regular_but k x (Of c) t.0 (regular k c t.1)))

-- Any word and any claim are about some number of sets.
below_pow : (k : ℕ) → k < 2 ^ k
below_pow zero = omega arith
below_pow (suc k) = omega (arith, below_pow k, pow-suc 2 k)

wide : (w : Word) → (n : ℕ) × ((k : ℕ) → n ≤ k → Columns k w)
wide [] = (0, λ k h. tt)
wide (a ∷ w) = let (n, f) = wide w in (a + n, λ k h. (omega (arith, below_pow k), f k (omega arith)))

room : (c : C) → (n : ℕ) × ((k : ℕ) → n ≤ k → Bound k c)
room (not1 c) = room c
room (and1 c d) = let (n, f) = room c in let (m, g) = room d in (n + m, λ k h. (f k (omega arith), g k (omega arith)))
room (some x c) = let (n, f) = room c in (suc x + n, λ k h. (omega arith, f k (omega arith)))
room _ = (0, λ k h. tt)

pub told : Told
told c w =
    let (n, f) = wide w in
    let (m, g) = room c in
    elim ((regular (n + m) c (g (n + m) (omega arith))).told w (f (n + m) (omega arith))) [ yes h ↦ inl h | no h ↦ inr h ]
