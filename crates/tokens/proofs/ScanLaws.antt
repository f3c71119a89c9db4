-- What a text begins with stays the same where something follows that ends it.
use Rattle.std.proofs.Common.{◌≡◌, ◌<◌, ◌≤◌, ℕ, zero, suc, ◌+◌, ◌==◌, Bool, true, false, ◌&&◌, ◌||◌, if◌then◌else◌, List, [], ◌∷◌, ◌++◌, length, take, Option, Some, None, nat_eq, refl, ap, ◌∙◌, arith, ◌⊎◌, inl, inr}
use Rattle.std.specs.List.{prefix_len, starts_with}
use Rattle.tokens.specs.declared.kind.Kind.{Kind}
use Rattle.tokens.specs.declared.kind.Kind.TheVariants as kind
use Rattle.tokens.specs.Gaps.{goes_on}
use Rattle.tokens.specs.Spelling.{is_digit, is_letter, in_name, each}
use Rattle.tokens.specs.Scan.{signs, sign_in, sign_at, word_kind, number_front, word_front, front}

-- a byte that ends numbers, words and signs
abbrev pub Ends : ℕ → Type 0
Ends x = (is_digit x ≡ false) × (in_name x ≡ false) × (nat_eq 61 x ≡ false) × (nat_eq 62 x ≡ false)

count_ends : (p : ℕ → Bool) (d s : List ℕ) (x : ℕ) → p x ≡ false → prefix_len p (d ++ x ∷ s) ≡ prefix_len p d
count_ends p [] s x e = rw e refl
count_ends p (b ∷ d) s x e = rw (count_ends p d s x e) refl

counted_at_most : (p : ℕ → Bool) (d : List ℕ) → prefix_len p d ≤ length d
counted_at_most p [] = omega arith
counted_at_most p (b ∷ d) = go (p b) (counted_at_most p d) where
  go : (q : Bool) → prefix_len p d ≤ length d → (if q then 1 + prefix_len p d else 0) ≤ suc (length d)
  go true h = omega (arith, h)
  go false h = omega arith

take_front : (n : ℕ) (d s : List ℕ) → n ≤ length d → take n (d ++ s) ≡ take n d
take_front zero d s h = refl
take_front (suc n) [] s h = absurd (omega (arith, h))
take_front (suc n) (b ∷ d) s h = ap (λ t. b ∷ t) (take_front n d s (omega (arith, h)))

number_ends : (d s : List ℕ) (x : ℕ) → is_digit x ≡ false → number_front (d ++ x ∷ s) ≡ number_front d
number_ends d s x e = ap (λ n. Some (kind.Number, n)) (count_ends is_digit d s x e)

word_ends : (d s : List ℕ) (x : ℕ) → in_name x ≡ false → word_front (d ++ x ∷ s) ≡ word_front d
word_ends d s x e =
    let n : prefix_len in_name (d ++ x ∷ s) ≡ prefix_len in_name d = count_ends in_name d s x e in
    let front : take (prefix_len in_name d) (d ++ x ∷ s) ≡ take (prefix_len in_name d) d = take_front (prefix_len in_name d) d (x ∷ s) (counted_at_most in_name d) in
    ap (λ m. Some (word_kind (take m (d ++ x ∷ s)), m)) n ∙ ap (λ w. Some (word_kind w, prefix_len in_name d)) front

-- none of these bytes is x
abbrev pub Lacks : List ℕ → ℕ → Type 0
Lacks [] x = Unit {0}
Lacks (q ∷ p) x = (nat_eq q x ≡ false) × Lacks p x

starts_same : (p d s : List ℕ) (x : ℕ) → Lacks p x → starts_with nat_eq (d ++ x ∷ s) p ≡ starts_with nat_eq d p
starts_same [] d s x l = refl
starts_same (q ∷ p) [] s x l = rw l.0 refl
starts_same (q ∷ p) (b ∷ d) s x l = ap (λ r. nat_eq q b && r) (starts_same p d s x l.1)

-- no sign of a table has this byte behind its first
abbrev pub Behind : List ℕ → ℕ → Type 0
Behind [] x = ⊥
Behind (q ∷ p) x = Lacks p x

abbrev pub EachLacks : List (List ℕ × Kind) → ℕ → Type 0
EachLacks [] x = Unit {0}
EachLacks (e ∷ t) x = Behind e.0 x × EachLacks t x

first_same : (p : List ℕ) (b : ℕ) (d s : List ℕ) (x : ℕ) → Behind p x → starts_with nat_eq (b ∷ (d ++ x ∷ s)) p ≡ starts_with nat_eq (b ∷ d) p
first_same [] b d s x l = refl
first_same (q ∷ p) b d s x l = ap (λ r. nat_eq q b && r) (starts_same p d s x l)

sign_in_same : (t : List (List ℕ × Kind)) (b : ℕ) (d s : List ℕ) (x : ℕ) → EachLacks t x → sign_in t (b ∷ (d ++ x ∷ s)) ≡ sign_in t (b ∷ d)
sign_in_same [] b d s x l = refl
sign_in_same (e ∷ t) b d s x l =
    ap (λ p. if p then Some (e.1, length e.0) else sign_in t (b ∷ (d ++ x ∷ s))) (first_same e.0 b d s x l.0) ∙ ap (λ o. if starts_with nat_eq (b ∷ d) e.0 then Some (e.1, length e.0) else o) (sign_in_same t b d s x l.1)

-- behind the first byte of a sign stand `=` and `>` only
signs_lack : (x : ℕ) → nat_eq 61 x ≡ false → nat_eq 62 x ≡ false → EachLacks signs x
signs_lack x e g = ((e, (g, tt)), ((e, tt), ((e, tt), ((e, tt), ((g, tt), (tt, (tt, (tt, (tt, (tt, (tt, (tt, (tt, (tt, (tt, (tt, (tt, (tt, (tt, (tt, (tt, (tt, (tt, (tt, (tt, (tt, (tt, (tt, tt))))))))))))))))))))))))))))

sign_ends : (b : ℕ) (d s : List ℕ) (x : ℕ) → nat_eq 61 x ≡ false → nat_eq 62 x ≡ false → sign_at (b ∷ (d ++ x ∷ s)) ≡ sign_at (b ∷ d)
unfolding sign_at
sign_ends b d s x e g = sign_in_same signs b d s x (signs_lack x e g)

chosen : {A : Type 0} (p q : Bool) (a b c a' b' c' : A) → a ≡ a' → b ≡ b' → c ≡ c' → (if p then a else if q then b else c) ≡ (if p then a' else if q then b' else c')
chosen true q a b c a' b' c' e f g = e
chosen false true a b c a' b' c' e f g = f
chosen false false a b c a' b' c' e f g = g

-- behind what a text begins with stands what ends it
pub front_ends : (b : ℕ) (d s : List ℕ) (x : ℕ) → Ends x → front (b ∷ (d ++ x ∷ s)) ≡ front (b ∷ d)
front_ends b d s x e = chosen (is_digit b) (is_letter b) _ _ _ _ _ _ (number_ends (b ∷ d) s x e.0) (word_ends (b ∷ d) s x e.1) (sign_ends b d s x e.2 e.3)

pub is_of : (a b : ℕ) → a == b ≡ true → a ≡ b
is_of a b h = grind arith

either : (p q : Bool) → p || q ≡ true → (p ≡ true) ⊎ (q ≡ true)
either true q h = inl refl
either false q h = inr h

-- no token begins with a blank or the sign of a comment
blank_front : (b : ℕ) (s : List ℕ) → (b ≡ 32) ⊎ ((b ≡ 9) ⊎ ((b ≡ 13) ⊎ ((b ≡ 10) ⊎ (b ≡ 35)))) → front (b ∷ s) ≡ None
unfolding sign_at
blank_front b s (inl e) = rw e refl
blank_front b s (inr (inl e)) = rw e refl
blank_front b s (inr (inr (inl e))) = rw e refl
blank_front b s (inr (inr (inr (inl e)))) = rw e refl
blank_front b s (inr (inr (inr (inr e)))) = rw e refl

is_gap_byte : (b : ℕ) → goes_on false b ≡ true → (b ≡ 32) ⊎ ((b ≡ 9) ⊎ ((b ≡ 13) ⊎ ((b ≡ 10) ⊎ (b ≡ 35))))
is_gap_byte b h = go (b == 32) (b == 9) (b == 13) (b == 10) (b == 35) refl refl refl refl refl h where
  go : (p q r s t : Bool) → b == 32 ≡ p → b == 9 ≡ q → b == 13 ≡ r → b == 10 ≡ s → b == 35 ≡ t → (p || (q || (r || s))) || t ≡ true → (b ≡ 32) ⊎ ((b ≡ 9) ⊎ ((b ≡ 13) ⊎ ((b ≡ 10) ⊎ (b ≡ 35))))
  go true q r s t e f g i j h = inl (is_of b 32 e)
  go false true r s t e f g i j h = inr (inl (is_of b 9 f))
  go false false true s t e f g i j h = inr (inr (inl (is_of b 13 g)))
  go false false false true t e f g i j h = inr (inr (inr (inl (is_of b 10 i))))
  go false false false false t e f g i j h = inr (inr (inr (inr (is_of b 35 (j ∙ h)))))

pub none_some : {A : Type 0} (a : A) (o : Option A) → o ≡ None → o ≡ Some a → ⊥
none_some a o e f = cc

pub front_no_gap : (b : ℕ) (s : List ℕ) (r : Kind × ℕ) → front (b ∷ s) ≡ Some r → goes_on false b ≡ false
front_no_gap b s r h = go (goes_on false b) refl where
  go : (p : Bool) → goes_on false b ≡ p → p ≡ false
  go false e = refl
  go true e = absurd (none_some r (front (b ∷ s)) (blank_front b s (is_gap_byte b e)) h)

count_all : (p : ℕ → Bool) (d : List ℕ) → each p d ≡ true → prefix_len p d ≡ length d
count_all p [] h = refl
count_all p (b ∷ d) h = go (p b) (λ i. count_all p d i) h where
  go : (q : Bool) → (each p d ≡ true → prefix_len p d ≡ length d) → q && each p d ≡ true → (if q then 1 + prefix_len p d else 0) ≡ suc (length d)
  go true f i = let c = f i in omega (arith, c)
  go false f i = cc

first_holds : (p : ℕ → Bool) (b : ℕ) (d : List ℕ) → each p (b ∷ d) ≡ true → p b ≡ true
first_holds p b d h = go (p b) refl h where
  go : (q : Bool) → p b ≡ q → q && each p d ≡ true → q ≡ true
  go true e i = refl
  go false e i = i

-- digits are a number
pub digits_front : (d : List ℕ) → each is_digit d ≡ true → 0 < length d → front d ≡ Some (kind.Number, length d)
digits_front [] h lt = absurd (omega (arith, lt))
digits_front (b ∷ d) h lt =
    let first : is_digit b ≡ true = first_holds is_digit b d h in
    ap (λ q. if q then number_front (b ∷ d) else if is_letter b then word_front (b ∷ d) else sign_at (b ∷ d)) first ∙ ap (λ n. Some (kind.Number, n)) (count_all is_digit (b ∷ d) h)
