-- How a line is taken apart at its spaces, and that this goes in one way only; what digits and pairs of digits write, one step at a time.
use Rattle.std.proofs.Common.{◌≡◌, ℕ, zero, suc, ◌+◌, ◌-◌, ◌*◌, ◌%◌, ◌<◌, ◌≤◌, ◌↔◌, List, [], ◌∷◌, ◌++◌, length, get_or, take, drop, Some, None, Option, sym, refl, ap, ◌∙◌, subst, arith, Bor, MatchOption}
use Rattle.std.proofs.lemmas.List.{take_all}
use Rattle.claims.proofs.SignLaws.{back1, back2}
use Rattle.line_format.specs.Line.{NoSpace, Two, Three, Decimal, Pair, Pairs}

-- Fields.
pub no_space_before : (s : List ℕ) (r : ℕ) → ((i : ℕ) → i < r → get_or s i 0 ≡ 32 → ⊥) → NoSpace (take r s)
no_space_before [] zero h = tt
no_space_before [] (suc r) h = tt
no_space_before (x ∷ s) zero h = tt
no_space_before (x ∷ s) (suc r) h = (h 0 (omega arith), no_space_before s r (λ i l. h (suc i) (omega arith)))

pub no_space_all : (s : List ℕ) (r : ℕ) → length s ≤ r → ((i : ℕ) → i < r → get_or s i 0 ≡ 32 → ⊥) → NoSpace s
no_space_all s r l h = subst NoSpace (take_all r s l) (no_space_before s r h)

has_space : (m r : List ℕ) → NoSpace (m ++ (32 ∷ r)) → ⊥
has_space [] r h = h.0 refl
has_space (x ∷ m) r h = has_space m r h.1

-- the first space is in one place
front : (a b : ℕ) (s t : List ℕ) → a ∷ s ≡ b ∷ t → (a ≡ b) × (s ≡ t)
front a b s t e = (ap (λ l. get_or l 0 a) e, ap (drop 1) e)

first_space : (m n r t : List ℕ) → NoSpace m → NoSpace n → m ++ (32 ∷ r) ≡ n ++ (32 ∷ t) → r ≡ t
first_space [] [] r t a b e = (front 32 32 r t e).1
first_space [] (y ∷ n) r t a b e = absurd (b.0 (sym (front 32 y r (n ++ (32 ∷ t)) e).0))
first_space (x ∷ m) [] r t a b e = absurd (a.0 (front x 32 (m ++ (32 ∷ r)) t e).0)
first_space (x ∷ m) (y ∷ n) r t a b e = first_space m n r t a.1 b.1 (front x y (m ++ (32 ∷ r)) (n ++ (32 ∷ t)) e).1

-- a line that is not of two or three fields
abbrev pub Unfit : List ℕ → Type 0
Unfit line = ((m b : List ℕ) → Two line m b → ⊥) × ((m b o : List ℕ) → Three line m b o → ⊥)

pub unfit_no_space : (line : List ℕ) → NoSpace line → Unfit line
unfit_no_space line n = (λ m b t. has_space m b (subst NoSpace (sym t.whole) n), λ m b o t. has_space m (b ++ (32 ∷ o)) (subst NoSpace (sym t.whole) n))

pub unfit_empty : (line : List ℕ) → length line ≡ 0 → Unfit line
unfit_empty [] e = unfit_no_space [] tt
unfit_empty (x ∷ s) e = let z : ⊥ = omega arith in absurd z

module _ (line most rest : List ℕ) (n : NoSpace most) (e : most ++ (32 ∷ rest) ≡ line) where
  two_rest : (m b : List ℕ) → Two line m b → b ≡ rest
  two_rest m b t = first_space m most b rest t.first n (t.whole ∙ sym e)

  three_rest : (m b o : List ℕ) → Three line m b o → b ++ (32 ∷ o) ≡ rest
  three_rest m b o t = first_space m most (b ++ (32 ∷ o)) rest t.first n (t.whole ∙ sym e)

  -- the second field is empty: nothing stands behind the space, or another space
  pub unfit_second : (bytes : List ℕ) (more : Option (Bor (List ℕ))) → length bytes ≡ 0 → MatchOption more (bytes ≡ rest) (λ x. bytes ++ (32 ∷ x.now) ≡ rest) → Unfit line
  unfit_second (x ∷ bytes) more z r = let g : ⊥ = omega arith in absurd g
  unfit_second [] None z r = (
    λ m b t. (let l = t.some in let g = ap length (two_rest m b t ∙ sym r) in omega arith),
    λ m b o t. has_space b o (subst NoSpace (r ∙ sym (three_rest m b o t)) tt),
  )
  unfit_second [] (Some x) z r = (
    λ m b t. has_space [] x.now (subst NoSpace (two_rest m b t ∙ sym r) t.second),
    λ m b o t. starts b o t.some t.second (three_rest m b o t ∙ sym r),
  )
    where
      starts : (b o : List ℕ) → 0 < length b → NoSpace b → b ++ (32 ∷ o) ≡ 32 ∷ x.now → ⊥
      starts [] o l s h = let z : ⊥ = omega arith in absurd z
      starts (y ∷ b) o l s h = s.0 (front y 32 (b ++ (32 ∷ o)) x.now h).0

  -- there is a fourth field
  pub unfit_fourth : (bytes third out fourth : List ℕ) → NoSpace bytes → bytes ++ (32 ∷ third) ≡ rest → NoSpace out → out ++ (32 ∷ fourth) ≡ third → Unfit line
  unfit_fourth bytes third out fourth s r u q = (
    λ m b t. has_space bytes third (subst NoSpace (two_rest m b t ∙ sym r) t.second),
    λ m b o t. has_space out fourth (subst NoSpace (first_space b bytes o third t.second s (three_rest m b o t ∙ sym r) ∙ sym q) t.third),
  )

-- Numbers.
pub grows : (s : List ℕ) (n m : ℕ) → Decimal n s m → n ≤ m
grows [] n m e = omega (arith, e)
grows (d ∷ s) n m h = let r = grows s (n * 10 + (d - 48)) m h.2 in omega arith

pub decimal_step : (s : List ℕ) (n m : ℕ) → 1 ≤ length s → Decimal n s m ↔ ((48 ≤ get_or s 0 0) × (get_or s 0 0 ≤ 57) × Decimal (n * 10 + (get_or s 0 0 - 48)) (take (length s - 1) (drop 1 s)) m)
decimal_step s n m l = let e = back1 s (get_or s 0 0) l refl in (λ h. subst (λ z. Decimal n z m) (sym e) h, λ h. subst (λ z. Decimal n z m) e h)

pub decimal_end : (s : List ℕ) (n : ℕ) → length s < 1 → Decimal n s n
decimal_end [] n h = refl
decimal_end (x ∷ s) n h = let z : ⊥ = omega arith in absurd z

-- Bytes.
pub pairs_even : (s t : List ℕ) → Pairs s t → length s % 2 ≡ 0
pairs_even [] t e = omega arith
pairs_even (a ∷ []) t e = absurd e
pairs_even (a ∷ (b ∷ s)) t p = let r = pairs_even s p.1 p.3 in omega arith

pub pairs_step : (s t : List ℕ) → 2 ≤ length s → Pairs s t ↔ ((v : ℕ) × (t' : List ℕ) × Pair (get_or s 0 0) (get_or s 1 0) v × Pairs (take (length s - 2) (drop 2 s)) t' × (t ≡ v ∷ t'))
pairs_step s t l = let e = back2 s (get_or s 0 0) l refl in (λ h. subst (λ z. Pairs z t) (sym e) h, λ h. subst (λ z. Pairs z t) e h)

pub pairs_end : (s : List ℕ) → length s < 2 → length s % 2 ≡ 0 → Pairs s []
pairs_end [] l e = refl
pairs_end (x ∷ []) l e = let z : ⊥ = omega arith in absurd z
pairs_end (x ∷ (y ∷ s)) l e = let z : ⊥ = omega arith in absurd z
