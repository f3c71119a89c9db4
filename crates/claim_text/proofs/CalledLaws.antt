-- What is called by a word is called by one that is no longer than all names together.
use Rattle.std.proofs.Common.{◌≡◌, ℕ, ◌+◌, ◌≤◌, true, List, [], ◌∷◌, length, inl, inr, ap, arith}
use Rattle.std.proofs.lemmas.Bool.{false≢true}
use Rattle.std.specs.Str.{bytes_eq}
use Rattle.std.specs.List.{list_any}
use Rattle.std.proofs.lemmas.Slice.Eq.{bytes_eq-Decides}
use Rattle.automata.proofs.Decisions.{or_true}
use Rattle.claim_text.specs.declared.known.Known.{Known}
use Rattle.claim_text.specs.declared.known.Known.TheVariants.{Free, Bound'}
use Rattle.claim_text.specs.Called.{called}

-- the length of all these words together
abbrev sum : {A : Type 0} → (A → List ℕ) → List A → ℕ
sum f [] = 0
sum f (b ∷ l) = length (f b) + sum f l

-- the length of all names together
abbrev pub together : Known → ℕ
together (Free words) = sum (λ b. b.now) words.now
together (Bound' _ word _ rest) = length word.now + together rest

one_short : (v w : List ℕ) (n : ℕ) → bytes_eq v w ≡ true → length w ≤ length v + n
one_short v w n h = let e = ap (λ l. length l) ((bytes_eq-Decides v w).0 h) in omega arith

any_short : {A : Type 0} (f : A → List ℕ) (l : List A) (w : List ℕ) → list_any (λ b. bytes_eq (f b) w) l ≡ true → length w ≤ sum f l
any_short f [] w h = absurd (false≢true h)
any_short f (b ∷ l) w h = elim ((or_true (bytes_eq (f b) w) (list_any (λ b. bytes_eq (f b) w) l)).0 h) [
  | inl e ↦ one_short (f b) w (sum f l) e
  | inr e ↦ let s = any_short f l w e in omega arith
]

pub called_short : (k : Known) (w : List ℕ) → called k w ≡ true → length w ≤ together k
called_short (Free words) w h = any_short (λ b. b.now) words.now w h
called_short (Bound' _ word _ rest) w h = elim ((or_true (bytes_eq word.now w) (called rest w)).0 h) [
  | inl e ↦ one_short word.now w (together rest) e
  | inr e ↦ let s = called_short rest w e in omega arith
]
