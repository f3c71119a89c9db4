-- The words of the text of words are these words.
use Rattle.std.proofs.Common.{◌≡◌, ◌≢◌, ◌<◌, ◌≤◌, ℕ, zero, suc, ◌==◌, Bool, true, false, not, ◌||◌, ◌&&◌, List, [], ◌∷◌, ◌++◌, length, take, drop, Some, None, nat_eq, refl, sym, ap, ◌∙◌, arith, ◌⊎◌, inl, inr, append-nil, length-append}
use Rattle.tokens.specs.declared.kind.Kind.{Kind}
use Rattle.tokens.specs.declared.kind.Kind.TheVariants as kind
use Rattle.tokens.specs.Gaps.{goes_on}
use Rattle.tokens.specs.Words.{Word, word}
use Rattle.tokens.specs.Scan.{sign_at, front, behind_gap, with_first, first_then, scan_from, scan}
use Rattle.tokens.specs.Spaced.{clings, is_apart, is_bar, is_inside, is_beside, blank_if, line_end, spaced_behind, spaced, IsAlone, AreAlone}
use Rattle.tokens.proofs.ScanLaws.{Ends, none_some, front_ends, front_no_gap, is_of}

clinging : (b : ℕ) → (b ≡ 41) ⊎ ((b ≡ 125) ⊎ ((b ≡ 44) ⊎ ((b ≡ 58) ⊎ (b ≡ 59)))) → Ends b
clinging b (inl e) = rw e (refl, refl, refl, refl)
clinging b (inr (inl e)) = rw e (refl, refl, refl, refl)
clinging b (inr (inr (inl e))) = rw e (refl, refl, refl, refl)
clinging b (inr (inr (inr (inl e)))) = rw e (refl, refl, refl, refl)
clinging b (inr (inr (inr (inr e)))) = rw e (refl, refl, refl, refl)

clings_ends : (b : ℕ) → clings b ≡ true → Ends b
clings_ends b h = go (b == 41) (b == 125) (b == 44) (b == 58) (b == 59) refl refl refl refl refl h where
  go : (p q r s t : Bool) → b == 41 ≡ p → b == 125 ≡ q → b == 44 ≡ r → b == 58 ≡ s → b == 59 ≡ t → p || (q || (r || (s || t))) ≡ true → Ends b
  go true q r s t e f g i j h = clinging b (inl (is_of b 41 e))
  go false true r s t e f g i j h = clinging b (inr (inl (is_of b 125 f)))
  go false false true s t e f g i j h = clinging b (inr (inr (inl (is_of b 44 g))))
  go false false false true t e f g i j h = clinging b (inr (inr (inr (inl (is_of b 58 i)))))
  go false false false false t e f g i j h = clinging b (inr (inr (inr (inr (is_of b 59 (j ∙ h))))))

not_false : (p : Bool) → not p ≡ false → p ≡ true
not_false true h = refl
not_false false h = absurd (true_not (sym h)) where
  true_not : false ≡ true → ⊥
  true_not e = cc

open_ends : (b : ℕ) → b == 40 ≡ true → Ends b
open_ends b h = rw (is_of b 40 h) (refl, refl, refl, refl)

clings_or_open : (b : ℕ) → clings b || (b == 40) ≡ true → Ends b
clings_or_open b h = go (clings b) refl h where
  go : (p : Bool) → clings b ≡ p → p || (b == 40) ≡ true → Ends b
  go true e i = clings_ends b e
  go false e i = open_ends b i

-- what may follow a word of a kind
abbrev pub EndsAt : Kind → ℕ → Type 0
EndsAt kind.Open x = Unit {0}
EndsAt kind.OpenSet x = Unit {0}
EndsAt kind.Or x = Unit {0}
EndsAt kind.Not x = nat_eq 61 x ≡ false
EndsAt _ x = Ends x

abbrev pub Follows : Kind → List ℕ → Type 0
Follows k [] = Unit {0}
Follows k (x ∷ s) = EndsAt k x

blank_ends : (k : Kind) → EndsAt k 32
blank_ends kind.Open = tt
blank_ends kind.OpenSet = tt
blank_ends kind.Or = tt
blank_ends kind.Not = refl
blank_ends _ = (refl, refl, refl, refl)

turned : (a b : ℕ) → a == b ≡ false → nat_eq b a ≡ false
turned a b h = grind arith

close_ends : (k : Kind) (b : ℕ) → k ≢ kind.Semicolon → is_apart k b ≡ false → EndsAt k b
close_ends kind.Open b n h = tt
close_ends kind.OpenSet b n h = tt
close_ends kind.Or b n h = tt
close_ends kind.Semicolon b n h = absurd (n refl)
close_ends kind.Not b n h = turned b 61 h
close_ends kind.Name b n h = clings_or_open b (not_false (clings b || (b == 40)) h)
close_ends kind.Empty b n h = clings_or_open b (not_false (clings b || (b == 40)) h)
close_ends _ b n h = clings_ends b (not_false (clings b) h)

-- a word that is alone is what a text begins with where nothing follows
front_alone : (k : Kind) (d : List ℕ) → IsAlone (word k d) → front d ≡ Some (k, length d)
unfolding sign_at
front_alone kind.Open d a = rw a refl
front_alone kind.OpenSet d a = rw a refl
front_alone kind.Or d a = rw a refl
front_alone kind.Not d a = rw a refl
front_alone _ d a = a

not_before : (x : ℕ) (s : List ℕ) → nat_eq 61 x ≡ false → front (126 ∷ x ∷ s) ≡ Some (kind.Not, 1)
unfolding sign_at
not_before x s e = rw e refl

open_before : (x : ℕ) (s : List ℕ) → front (40 ∷ x ∷ s) ≡ Some (kind.Open, 1)
unfolding sign_at
open_before x s = refl

open_set_before : (x : ℕ) (s : List ℕ) → front (123 ∷ x ∷ s) ≡ Some (kind.OpenSet, 1)
unfolding sign_at
open_set_before x s = refl

or_before : (x : ℕ) (s : List ℕ) → front (124 ∷ x ∷ s) ≡ Some (kind.Or, 1)
unfolding sign_at
or_before x s = refl

other_before : (k : Kind) (d s : List ℕ) (x : ℕ) → front d ≡ Some (k, length d) → Ends x → front (d ++ x ∷ s) ≡ Some (k, length d)
other_before k [] s x f e = absurd (none_some (k, 0) None refl f)
other_before k (b ∷ d) s x f e = front_ends b d s x e ∙ f

-- and where what follows may follow
before : (k : Kind) (d s : List ℕ) (x : ℕ) → IsAlone (word k d) → EndsAt k x → front (d ++ x ∷ s) ≡ Some (k, length d)
before kind.Open d s x a e = rw a (open_before x s)
before kind.OpenSet d s x a e = rw a (open_set_before x s)
before kind.Not d s x a e = rw a (not_before x s e)
before kind.Or d s x a e = rw a (or_before x s)
before k d s x a e = other_before k d s x a e

front_before : (k : Kind) (d s : List ℕ) → IsAlone (word k d) → Follows k s → front (d ++ s) ≡ Some (k, length d)
front_before k d [] a h = ap front (append-nil d) ∙ front_alone k d a
front_before k d (x ∷ s) a h = before k d s x a h

bar_of : (k : Kind) → is_bar k ≡ true → k ≡ kind.Or
bar_of kind.Or h = refl
bar_of _ h = absurd (true_not h) where
  true_not : false ≡ true → ⊥
  true_not e = cc

-- `|` may follow every word, and every word may follow it
bar_ends : (k : Kind) → EndsAt k 124
bar_ends kind.Open = tt
bar_ends kind.OpenSet = tt
bar_ends kind.Or = tt
bar_ends kind.Not = refl
bar_ends _ = (refl, refl, refl, refl)

bar_first : (b : ℕ) (d : List ℕ) → b ∷ d ≡ 124 ∷ [] → b ≡ 124
bar_first b d e = cc

behind_bar : (k : Kind) (b : ℕ) → is_bar k ≡ true → EndsAt k b
behind_bar k b h = rw (bar_of k h) tt

before_bar : (k j : Kind) (b : ℕ) (d : List ℕ) → IsAlone (word j (b ∷ d)) → is_bar j ≡ true → EndsAt k b
before_bar k j b d a h = go j (bar_of j h) a where
  go : (i : Kind) → i ≡ kind.Or → IsAlone (word i (b ∷ d)) → EndsAt k b
  go kind.Or e x = rw (bar_first b d x) (bar_ends k)
  go _ e x = absurd cc

beside_ends : (k : Kind) (inside : Bool) (j : Kind) (b : ℕ) (d : List ℕ) → IsAlone (word j (b ∷ d)) → is_beside k inside j ≡ true → EndsAt k b
beside_ends k inside j b d a h = go inside (is_bar k) (is_bar j) refl refl h where
  go : (o p q : Bool) → is_bar k ≡ p → is_bar j ≡ q → o && (p || q) ≡ true → EndsAt k b
  go true true q e f i = behind_bar k b e
  go true false true e f i = before_bar k j b d a f
  go true false false e f i = absurd cc
  go false p q e f i = absurd cc

-- the text of further words may follow
begins : (k : Kind) (inside : Bool) (j : Kind) (b : ℕ) (d s : List ℕ) → k ≢ kind.Semicolon → IsAlone (word j (b ∷ d)) → Follows k (blank_if (not (is_beside k inside j) && is_apart k b) ++ b ∷ s)
begins k inside j b d s n a = go (is_beside k inside j) (is_apart k b) refl refl where
  go : (p q : Bool) → is_beside k inside j ≡ p → is_apart k b ≡ q → Follows k (blank_if (not p && q) ++ b ∷ s)
  go true q e f = beside_ends k inside j b d a e
  go false true e f = blank_ends k
  go false false e f = close_ends k b n f

more_follow : (k : Kind) (inside : Bool) (ws : List Word) → AreAlone ws → k ≢ kind.Semicolon → Follows k (spaced_behind k inside ws)
more_follow k inside [] a n = tt
more_follow k inside (word j [] ∷ ws) a n = absurd (none_some (j, 0) None refl (front_alone j [] a.0))
more_follow k inside (word j (b ∷ d) ∷ ws) a n = begins k inside j b d (d ++ (line_end j ++ spaced_behind j (is_inside k inside j) ws)) n a.0

rest_follows : (k : Kind) (inside : Bool) (ws : List Word) → AreAlone ws → Follows k (line_end k ++ spaced_behind k inside ws)
rest_follows kind.Semicolon inside ws a = (refl, refl, refl, refl)
rest_follows kind.Name inside ws a = more_follow kind.Name inside ws a (λ e. cc)
rest_follows _ inside ws a = more_follow _ inside ws a (λ e. cc)

behind_line : (k : Kind) (s : List ℕ) → behind_gap (line_end k ++ s) ≡ behind_gap s
behind_line kind.Semicolon s = refl
behind_line _ s = refl

-- no word begins with what stands between words
behind_blank : (p : Bool) (b : ℕ) (s : List ℕ) → goes_on false b ≡ false → behind_gap (blank_if p ++ b ∷ s) ≡ b ∷ s
behind_blank true b s e = rw e refl
behind_blank false b s e = rw e refl

take_all : (d s : List ℕ) → take (length d) (d ++ s) ≡ d
take_all [] s = refl
take_all (b ∷ d) s = ap (λ t. b ∷ t) (take_all d s)

drop_all : (d s : List ℕ) → drop (length d) (d ++ s) ≡ s
drop_all [] s = refl
drop_all (b ∷ d) s = drop_all d s

-- a word is read, and what is behind it
word_read : (n : ℕ) (k : Kind) (b : ℕ) (d s : List ℕ) (ws : List Word) → front ((b ∷ d) ++ s) ≡ Some (k, length (b ∷ d)) → scan_from n (behind_gap s) ≡ Some ws → scan_from (suc n) ((b ∷ d) ++ s) ≡ Some (word k (b ∷ d) ∷ ws)
word_read n k b d s ws f h =
    let first : take (length (b ∷ d)) ((b ∷ d) ++ s) ≡ b ∷ d = take_all (b ∷ d) s in
    let rest : drop (length (b ∷ d)) ((b ∷ d) ++ s) ≡ s = drop_all (b ∷ d) s in
    ap (λ o. first_then o ((b ∷ d) ++ s) (scan_from n)) f ∙ ap (λ t. with_first (word k t) (scan_from n (behind_gap (drop (length (b ∷ d)) ((b ∷ d) ++ s))))) first
    ∙ ap (λ t. with_first (word k (b ∷ d)) (scan_from n (behind_gap t))) rest ∙ ap (with_first (word k (b ∷ d))) h

spaced_longer : (p : Bool) (b : ℕ) (d e s : List ℕ) (n : ℕ) → length (blank_if p ++ b ∷ (d ++ (e ++ s))) ≤ suc n → length s ≤ n
spaced_longer p b d e s n h = let i = length-append d (e ++ s) in let j = length-append e s in go p h where
  go : (q : Bool) → length (blank_if q ++ b ∷ (d ++ (e ++ s))) ≤ suc n → length s ≤ n
  go true h = let i = length-append d (e ++ s) in let j = length-append e s in omega (arith, h, i, j)
  go false h = let i = length-append d (e ++ s) in let j = length-append e s in omega (arith, h, i, j)

some_long : (p : Bool) (b : ℕ) (s : List ℕ) → 0 < length (blank_if p ++ b ∷ s)
some_long true b s = omega arith
some_long false b s = omega arith

words_read : (ws : List Word) (k : Kind) (inside : Bool) (n : ℕ) → AreAlone ws → length (spaced_behind k inside ws) ≤ n → scan_from n (behind_gap (spaced_behind k inside ws)) ≡ Some ws
words_read [] k inside n a h = refl
words_read (word j [] ∷ ws) k inside n a h = absurd (none_some (j, 0) None refl (front_alone j [] a.0))
words_read (word j (b ∷ d) ∷ ws) k inside zero a h =
    let l = some_long (not (is_beside k inside j) && is_apart k b) b (d ++ (line_end j ++ spaced_behind j (is_inside k inside j) ws)) in
    absurd (omega (arith, h, l))
words_read (word j (b ∷ d) ∷ ws) k inside (suc n) a h =
    let apart = not (is_beside k inside j) && is_apart k b in
    let next = is_inside k inside j in
    let s = line_end j ++ spaced_behind j next ws in
    let no_gap = front_no_gap b d (j, length (b ∷ d)) (front_alone j (b ∷ d) a.0) in
    let f = front_before j (b ∷ d) s a.0 (rest_follows j next ws a.1) in
    let further = words_read ws j next n a.1 (spaced_longer apart b d (line_end j) (spaced_behind j next ws) n h) in
    ap (scan_from (suc n)) (behind_blank apart b (d ++ s) no_gap) ∙ word_read n j b d s ws f (ap (scan_from n) (behind_line j (spaced_behind j next ws)) ∙ further)

-- the words of the text of words are these
pub scan_spaced : (ws : List Word) → AreAlone ws → scan (spaced ws) ≡ Some ws
scan_spaced ws a = words_read ws kind.Semicolon false (length (spaced ws)) a (omega arith)
