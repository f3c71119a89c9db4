-- A text that speaks of a row: its claim holds of the sets that are a row that shows what is asked, so its first word is the first such row.
use Rattle.std.proofs.Common.{◌≡◌, ℕ, zero, suc, ◌+◌, ◌%◌, ◌^◌, ◌<◌, ◌≤◌, true, ◌↔◌, List, [], ◌∷◌, ◌++◌, map, length, inl, inr, refl, sym, ap, subst, ◌∙◌, arith, lt→ltb}
use native.Mathlib.Decide.{dec_lt}
use Rattle.words.specs.Words.{Sets, Word, bit, sets, Columns}
use Rattle.claims.specs.Claims.{has, Of}
use Rattle.kinds.specs.Relations.{Only}
use Rattle.formulas.specs.declared.name.Name.{Name as Numbered}
use Rattle.formulas.specs.declared.name.Name.TheVariants.{OfPlace, OfGroup}
use Rattle.formulas.specs.declared.formula.Formula.{Formula}
use Rattle.formulas.specs.Meaning.{Env, Meaning}
use Rattle.formulas.specs.Names.{names, Among}
use Rattle.translation.specs.Numbers.{Numbering}
use Rattle.translation.specs.Settles.{Singles, env_of, Covers}
use Rattle.translation.proofs.Standing.{Stands, Stand}
use Rattle.translation.proofs.SettlesLaws.{stand_of}
use Rattle.translation.proofs.Formulas.{of_words}
use Rattle.formula_claims.specs.Listed.{listed}
use Rattle.formula_claims.proofs.ListedLaws.{among_listed}
use Rattle.formulas.proofs.NamesLaws.{among_left}
use Rattle.formula_claims.specs.Claimed.{Claimed, whole, sets_needed}
use Rattle.trees.specs.declared.tree.Sort.TheVariants.{Place, Set}
use Rattle.resolve.specs.Scopes.{Bound}
use Rattle.rows.specs.RowClaims.{below, same_number, Gives, marked, First}
use Rattle.rows.proofs.RowShape.{row_of_sets}
use Rattle.rows.proofs.StepLaws.{sets_below}
use Rattle.rows.proofs.Telling.{marked_gives, tells_of}
use Rattle.rows.proofs.Bools.{bools}
use Rattle.rows.proofs.ModulesLaws.{unmarked}
use Rattle.resolve.proofs.Iff.{iff_trans, iff_sym}
use Rattle.solve.specs.Questions.{InRow}
use Rattle.solve.proofs.PositionsLaws.{Distinct, stand_at, name_at, name_behind}

-- a set's marks are its places
marks_has : (x : ℕ) (w : Word) (i : ℕ) → has (map (bit x) w) i ≡ sets w x i
marks_has x [] i = refl
marks_has x (a ∷ w) zero = refl
marks_has x (a ∷ w) (suc i) = marks_has x w i

-- sets that are alike stand for the same
stands_same : (z t : Sets) (n : ℕ) (e : Env) (x : Numbered) → ((i : ℕ) → z n i ≡ t n i) → Stands z n e x → Stands t n e x
stands_same z t n e (OfPlace x) same s = (sym (same (e.places x)) ∙ s.0, λ i h. s.1 i (same i ∙ h))
stands_same z t n e (OfGroup x) same s = λ i. sym (same i) ∙ s i

only_same : (z t : Sets) (n i : ℕ) → ((j : ℕ) → z n j ≡ t n j) → Only z n i → Only t n i
only_same z t n i same o = (sym (same i) ∙ o.0, λ j h. o.1 j (same j ∙ h))

length_end : (l : List Numbered) (x : Numbered) → length (l ++ (x ∷ [])) ≡ suc (length l)
length_end [] x = refl
length_end (y ∷ l) x = ap suc (length_end l x)

-- what is declared is the row's, and the row has no hole
no_hole : (r : ℕ) (l : List Numbered) (e : Env) → InRow r l e → (i : ℕ) → has (e.groups r) (suc i) ≡ true → has (e.groups r) i ≡ true
no_hole r [] e h = h
no_hole r (OfPlace x ∷ l) e h = no_hole r l e h.1
no_hole r (OfGroup x ∷ l) e h = no_hole r l e h.1

place_number : {x y : ℕ} → OfPlace x ≡ OfPlace y → x ≡ y
place_number e = cc

group_number : {x y : ℕ} → OfGroup x ≡ OfGroup y → x ≡ y
group_number e = cc

place_no_group : {A : Type 0} {x y : ℕ} → OfPlace x ≡ OfGroup y → A
place_no_group e = absurd (let z : ◌≡◌ {A = ℕ} 0 1 = cc in omega arith)

place_bound : (r : ℕ) (l : List Numbered) (e : Env) (x : ℕ) → InRow r l e → Among (OfPlace x) l → Bound Place x r e
place_bound r [] e x h a = absurd a
place_bound r (OfPlace y ∷ l) e x h (inl q) = subst (λ z. Bound Place z r e) (sym (place_number q)) h.0
place_bound r (OfGroup y ∷ l) e x h (inl q) = place_no_group q
place_bound r (OfPlace y ∷ l) e x h (inr a) = place_bound r l e x h.1 a
place_bound r (OfGroup y ∷ l) e x h (inr a) = place_bound r l e x h.1 a

set_bound : (r : ℕ) (l : List Numbered) (e : Env) (x : ℕ) → InRow r l e → Among (OfGroup x) l → Bound Set x r e
set_bound r [] e x h a = absurd a
set_bound r (OfPlace y ∷ l) e x h (inl q) = place_no_group (sym q)
set_bound r (OfGroup y ∷ l) e x h (inl q) = subst (λ z. Bound Set z r e) (sym (group_number q)) h.0
set_bound r (OfPlace y ∷ l) e x h (inr a) = set_bound r l e x h.1 a
set_bound r (OfGroup y ∷ l) e x h (inr a) = set_bound r l e x h.1 a

module _ (others : List Numbered) (r : ℕ) (distinct : Distinct (others ++ (OfGroup r ∷ []))) where
  abbrev l : List Numbered
  l = others ++ (OfGroup r ∷ [])

  abbrev ρ : Numbering
  ρ = listed l

  abbrev k : ℕ
  k = length others

  row_number : ρ (OfGroup r) ≡ k
  row_number = name_behind l others (OfGroup r) 0 (stand_at l distinct) ∙ (let e : 0 + length others ≡ length others = omega arith in e)

  listed_low : (x : Numbered) → Among x l → ρ x ≤ k
  listed_low x a = let h = among_listed x l a in let e = length_end others (OfGroup r) in omega arith

  -- the row's places, as the word has them
  row_places : (u : Word) (i : ℕ) → has ((env_of ρ u).groups r) i ≡ sets u k i
  row_places u i = marks_has (ρ (OfGroup r)) u i ∙ ap (λ n. sets u n i) row_number

  -- each place of a declared set is one of the row
  inside : (u : Word) → Singles ρ l (sets u) → InRow r others (env_of ρ u) → (j i : ℕ) → j < k → sets u j i ≡ true → sets u k i ≡ true
  inside u s h j i low t = of_name named.0 named.1 (subst (λ n. sets u n i ≡ true) (sym named.2) t)
    where
      named : (x : Numbered) × Among x others × (ρ x ≡ j)
      named = let (x, a, e) = name_at l others (OfGroup r ∷ []) 0 j (stand_at l distinct) low in (x, a, e ∙ (let z : 0 + j ≡ j = omega arith in z))

      of_name : (x : Numbered) → Among x others → sets u (ρ x) i ≡ true → sets u k i ≡ true
      of_name (OfPlace x) a t =
          let only = stand_of ρ l u s (OfPlace x) (among_left (OfPlace x) others (OfGroup r ∷ []) a) in
          let here : i ≡ (env_of ρ u).places x = only.1 i t in
          sym (row_places u i) ∙ subst (λ n. has ((env_of ρ u).groups r) n ≡ true) (sym here) (place_bound r others (env_of ρ u) x h a)
      of_name (OfGroup x) a t = sym (row_places u i) ∙ set_bound r others (env_of ρ u) x h a i (marks_has (ρ (OfGroup x)) u i ∙ t)

  -- a word whose sets are a row, and the row as a word
  module _ (u v : Word) (hv : Columns k v) (g : Gives k (below k) same_number (sets u) v) where
    same_low : (j i : ℕ) → j ≤ k → sets u j i ≡ sets (marked k v) j i
    same_low j i low = elim (dec_lt j k) [
      | yes h ↦ g.bits j i (lt→ltb j k h) ∙ sym ((marked_gives k v hv).bits j i (lt→ltb j k h))
      | no h ↦ (let e : k ≡ j = omega arith in subst (λ n. sets u n i ≡ sets (marked k v) n i) e (bools (sets u k i) (sets (marked k v) k i) (λ t. ((marked_gives k v hv).places i).1 ((g.places i).0 t)) (λ t. (g.places i).1 (((marked_gives k v hv).places i).0 t))))
    ]

    same : (x : Numbered) → Among x l → (i : ℕ) → sets u (ρ x) i ≡ sets (marked k v) (ρ x) i
    same x a i = same_low (ρ x) i (listed_low x a)

    singles_to : Singles ρ l (sets u) → Singles ρ l (sets (marked k v))
    singles_to s x a = let (i, o) = s x a in (i, only_same (sets u) (sets (marked k v)) (ρ (OfPlace x)) i (same (OfPlace x) a) o)

    singles_from : Singles ρ l (sets (marked k v)) → Singles ρ l (sets u)
    singles_from s x a = let (i, o) = s x a in (i, only_same (sets (marked k v)) (sets u) (ρ (OfPlace x)) i (λ j. sym (same (OfPlace x) a j)) o)

    meaning_same : (a : Formula) → Covers l a → Singles ρ l (sets u) → Meaning a (env_of ρ u) ↔ Meaning a (env_of ρ (marked k v))
    meaning_same a covers s =
        let e = env_of ρ (marked k v) in
        let stand : Stand (sets u) ρ e (names a) = λ x h. stands_same (sets (marked k v)) (sets u) (ρ x) e x (λ i. sym (same x (covers x h) i)) (stand_of ρ l (marked k v) (singles_to s) x (covers x h)) in
        iff_trans (iff_sym (of_words a ρ (env_of ρ u) u (λ x h. stand_of ρ l u s x (covers x h)))) (of_words a ρ e u stand)

  module _ (a : Formula) (bytes : List ℕ) (claimed : Claimed l a bytes) (P : Env → Type 0) (means : (e : Env) → Meaning a e ↔ P e) (rowed : (e : Env) → P e → InRow r others e) where
    abbrev Shows : Word → Type 0
    Shows v = Singles ρ l (sets (marked k v)) × P (env_of ρ (marked k v))

    of_sets : (u : Word) → Of (whole l a) u ↔ ((v : Word) × Columns k v × Gives k (below k) same_number (sets u) v × Shows v)
    of_sets u = (to, from)
      where
        to : Of (whole l a) u → (v : Word) × Columns k v × Gives k (below k) same_number (sets u) v × Shows v
        to h =
            let (s, m) = (claimed.says u).0 h in
            let p = rowed (env_of ρ u) ((means (env_of ρ u)).0 m) in
            let closed : (i : ℕ) → sets u k (suc i) ≡ true → sets u k i ≡ true = λ i t. sym (row_places u i) ∙ no_hole r others (env_of ρ u) p i (row_places u (suc i) ∙ t) in
            let (v, hv, g) = row_of_sets k (sets u) (length u) (λ i t. sets_below u k i t) closed (λ j i low t. inside u s p j i low t) in
            (v, hv, g, (singles_to u v hv g s, (means (env_of ρ (marked k v))).0 ((meaning_same u v hv g a claimed.covers s).0 m)))

        from : ((v : Word) × Columns k v × Gives k (below k) same_number (sets u) v × Shows v) → Of (whole l a) u
        from h =
            let (v, hv, g, p) = h in
            let s = singles_from u v hv g p.0 in
            (claimed.says u).1 (s, (meaning_same u v hv g a claimed.covers s).1 ((means (env_of ρ (marked k v))).1 p.1))

    -- the claim's first word, without the row's bit, is the first row that shows what is asked
    pub first_row : (w : Word) → First (sets_needed l a) (Of (whole l a)) w → First k Shows (map (λ c. c % 2 ^ k) w)
    first_row w f =
        let wide = length_end others (OfGroup r) in
        let (v, e, first) = (tells_of k (whole l a) Shows of_sets).first (sets_needed l a) (omega arith) w f in
        subst (First k Shows) (sym (ap (λ z. map (λ c. c % 2 ^ k) z) e ∙ unmarked k v first.columns)) first
