-- What is found of the two claims is what is answered of the text.
use Rattle.std.proofs.Common.{◌≡◌, ℕ, ◌⊎◌, ◌↔◌, List, [], ◌∷◌, ◌++◌, length, Option, Some, None, sym, refl, ap, ◌∙◌, subst, inl, inr, arith}
use Rattle.words.specs.Words.{Word, sets}
use Rattle.automata.proofs.Told.{told}
use Rattle.claims.specs.Claims.{Of}
use Rattle.formulas.specs.declared.name.Name.{Name as Numbered}
use Rattle.formulas.specs.declared.name.Name.TheVariants.{OfPlace, OfGroup}
use Rattle.formulas.specs.declared.formula.Formula.{Formula}
use Rattle.formulas.specs.Meaning.{Env, Meaning}
use Rattle.formulas.specs.Names.{Among}
use Rattle.translation.specs.Settles.{Singles, env_of}
use Rattle.formula_claims.specs.Listed.{listed}
use Rattle.formula_claims.specs.Claimed.{Claimed, whole, sets_needed}
use Rattle.trees.specs.declared.tree.Item.{Item}
use Rattle.resolve.specs.Says.{Text, text, nothing}
use Rattle.resolve.specs.Asks.{declared}
use Rattle.rows.specs.RowClaims.{marked, First as RowFirst}
use Rattle.first_word.specs.declared.first_word.Found.{Found}
use Rattle.first_word.specs.declared.first_word.Found.TheVariants.{Nothing, First, TooLarge}
use Rattle.solve.specs.Telling.{HoldsOf as RowOf, Tells}
use Rattle.solve.specs.Questions.{HoldsOf, FailsOf, Puts, names_of, others_in, others_if, others_of, row_in, row_name, InRowIf}
use Rattle.solve.specs.Answers.{shown, unmarked, IsRow, FirstRow, RowShows, FirstShown, Large, Answers}
use Rattle.solve.specs.declared.answer.Answer.TheVariants.{Always, Unmet, Never}
use Rattle.solve.proofs.TellingLaws.{columns_wider}
use Rattle.solve.proofs.TextLaws.{text_same}
use Rattle.solve.proofs.RowLaws.{At, numbered, numbered_at, plain_names, shown_alike, is_row, singles_of, numbered_length}
use Rattle.solve.proofs.PositionsLaws.{Distinct, distinct_names}
use Rattle.solve.proofs.RowTextLaws.{first_row}

-- a formula that has a claim is true or it is not
pub decided : (l : List Numbered) (a : Formula) (s : List ℕ) → Claimed l a s → (e : Env) → Meaning a e ⊎ (Meaning a e → ⊥)
decided l a s c e =
    let word = c.chosen e in
    elim (told (whole l a) word.0) [ inl h ↦ inl (word.2.0 h) | inr n ↦ inr (λ m. n (word.2.1 m)) ]

-- what is asked of a text besides that what is declared is a row's
abbrev pub Holding : Text → Type 0
Holding t = t.assumed × t.claimed

abbrev pub Failing : Text → Type 0
Failing t = t.assumed × (t.claimed → ⊥)

abbrev pub Asked : List Item → (Text → Type 0) → Env → Type 0
Asked items F e = InRowIf (row_in items) (others_in items) e × F (text items e)

-- a text that speaks of no row
module _ (items : List Item) (F : Text → Type 0) (P : Env → Type 0) (is : (e : Env) → P e ↔ Asked items F e) (none : row_in items ≡ None) where
  names : names_of items ≡ numbered 0 (declared items)
  names = plain_names 0 (declared items) none

  at : At 0 (names_of items) 0 (declared items)
  at = subst (λ l. At 0 l 0 (declared items)) (sym names) (numbered_at 0 (declared items))

  asked : (e : Env) → P e ↔ F (text items e)
  asked e = (λ h. ((is e).0 h).1, λ h. (is e).1 (subst (λ o. InRowIf o (others_in items) e) (sym none) tt, h))

  of_text : (w : Word) → F (text items (env_of (listed (names_of items)) w)) ↔ F (text items (shown w))
  of_text w =
      let e = env_of (listed (names_of items)) w in
      let same = text_same items 0 e (shown w) nothing nothing (shown_alike (names_of items) 0 (declared items) w at) refl in
      (λ h. subst F same h, λ h. subst F (sym same) h)

  row_of : (a : Formula) (w : Word) → ((e : Env) → Meaning a e ↔ P e) → RowOf (names_of items) a w ↔ (IsRow 0 (declared items) w × P (shown w))
  row_of a w m =
      let l = names_of items in
      let e = env_of (listed l) w in (
        λ h. (is_row l 0 (declared items) w at (λ x k. subst (λ z. Among x z) (sym names) k) h.0, (asked (shown w)).1 ((of_text w).0 ((asked e).0 ((m e).0 h.1)))),
        λ h. (λ x k. singles_of l 0 (declared items) w at h.0 x (subst (λ z. Among (OfPlace x) z) names k), (m e).1 ((asked e).1 ((of_text w).1 ((asked (shown w)).0 h.1)))),
      )

  plain_row : (s : List ℕ) (n : ℕ) (w : _) → Puts (names_of items) P s → ((l : List Numbered) (a : Formula) → Claimed l a s → Tells l a n (First w)) → FirstRow (declared items) P w.items
  plain_row s n w p found =
      let l = names_of items in
      let a = p.formula in
      let told = (found l a p.claimed).2 in
      let here = (row_of a w.items p.means).0 told.0 in
      let long : length l ≡ length (declared items) = ap (λ z. length z) names ∙ numbered_length 0 (declared items) in
      record {
        row = here.0;
        holds = here.1;
        first = λ u columns less row h. told.1 u (columns_wider (length (declared items)) (sets_needed l a) u (omega arith) columns) less ((row_of a u p.means).1 (row, h));
      }

-- a text that speaks of one
module _ (items : List Item) (F : Text → Type 0) (P : Env → Type 0) (is : (e : Env) → P e ↔ Asked items F e) (r : ℕ) (row : row_in items ≡ Some r) where
  abbrev behind : List Numbered
  behind = others_in items ++ (OfGroup r ∷ [])

  behind_is : names_of items ≡ behind
  behind_is = ap (λ o. others_in items ++ row_name o) row

  in_row : (s : List ℕ) (n : ℕ) (w : _) → Puts (names_of items) P s → ((l : List Numbered) (a : Formula) → Claimed l a s → Tells l a n (First w)) →
      RowFirst (length (others_in items)) (RowShows items P) (unmarked (Some (length (others_in items))) w.items)
  in_row s n w p found =
      let l = names_of items in
      let a = p.formula in
      let told = found behind a (subst (λ z. Claimed z a s) behind_is p.claimed) in
      let c = subst (λ z. Claimed z a s) behind_is p.claimed in
      let distinct = subst (λ z. Distinct z) behind_is (distinct_names 0 (declared items)) in
      let first : RowFirst (sets_needed behind a) (Of (whole behind a)) w.items = record {
        columns = told.1;
        holds = (c.says w.items).1 told.2.0;
        first = λ u columns less h. told.2.1 u columns less ((c.says u).0 h);
      } in
      subst (λ z. RowFirst (length (others_in items)) (λ v. (let m = marked (length (others_in items)) v in Singles (listed z) z (sets m) × P (env_of (listed z) m))) (unmarked (Some (length (others_in items))) w.items)) (sym behind_is)
      (first_row (others_in items) r distinct a s c P p.means (λ e h. subst (λ o. InRowIf o (others_in items) e) row ((is e).0 h).0) w.items first)

-- the first word, or row, of which what is asked is true
pub shown_first : (items : List Item) (F : Text → Type 0) (P : Env → Type 0) (is : (e : Env) → P e ↔ Asked items F e) (s : List ℕ) (n : ℕ) (w : _) → Puts (names_of items) P s → ((l : List Numbered) (a : Formula) → Claimed l a s → Tells l a n (First w)) →
    FirstShown (row_in items) items P (unmarked (others_of items) w.items)
shown_first items F P is s n w p found = at (row_in items) refl
  where
    at : (o : Option ℕ) → row_in items ≡ o → FirstShown (row_in items) items P (unmarked (others_of items) w.items)
    at None e = subst (λ o. FirstShown o items P (unmarked (others_if o (length (others_in items))) w.items)) (sym e) (plain_row items F P is e s n w p found)
    at (Some r) e = subst (λ o. FirstShown o items P (unmarked (others_if o (length (others_in items))) w.items)) (sym e) (in_row items F P is r e s n w p found)

-- what is found of the bytes of a text's claim
abbrev pub FoundOf : List ℕ → ℕ → Found → Type 0
FoundOf s n found = (l : List Numbered) (a : Formula) → Claimed l a s → Tells l a n found

-- places and sets of which what is asked is true
pub somewhere : (items : List Item) (P : Env → Type 0) (s : List ℕ) (n : ℕ) (u : _) → Puts (names_of items) P s → FoundOf s n (First u) → (e : Env) × P e
somewhere items P s n u p f = let e = env_of (listed (names_of items)) u.items in (e, (p.means e).0 (f (names_of items) p.formula p.claimed).2.0.1)

pub always : (items : List Item) (s t : List ℕ) (n : ℕ) (u : _) → Puts (names_of items) (HoldsOf items) s → Puts (names_of items) (FailsOf items) t →
    FoundOf s n (First u) → FoundOf t n Nothing → Answers items Always
always items s t n u p q f g =
    let (here, holds) = somewhere items (HoldsOf items) s n u p f in (
      λ e a. elim (decided (names_of items) p.formula s p.claimed e) [
        | inl m ↦ ((p.means e).0 m).1
        | inr nay ↦ absurd ((g (names_of items) q.formula q.claimed).1 e ((q.means e).1 (a, λ c. nay ((p.means e).1 (a, c)))))
      ],
      here,
      holds.0,
    )

pub unmet : (items : List Item) (s t : List ℕ) (n : ℕ) → Puts (names_of items) (HoldsOf items) s → Puts (names_of items) (FailsOf items) t →
    FoundOf s n Nothing → FoundOf t n Nothing → Answers items Unmet
unmet items s t n p q f g = λ e a. elim (decided (names_of items) p.formula s p.claimed e) [
  | inl m ↦ (f (names_of items) p.formula p.claimed).1 e m
  | inr nay ↦ (g (names_of items) q.formula q.claimed).1 e ((q.means e).1 (a, λ c. nay ((p.means e).1 (a, c))))
]

pub never : (items : List Item) (s t : List ℕ) (n : ℕ) (v : _) → Puts (names_of items) (HoldsOf items) s → Puts (names_of items) (FailsOf items) t →
    FoundOf s n Nothing → FoundOf t n (First v) → Answers items Never
never items s t n v p q f g =
    let (here, fails) = somewhere items (FailsOf items) t n v q g in
    (λ e a c. (f (names_of items) p.formula p.claimed).1 e ((p.means e).1 (a, c)), here, fails.0)

holding : (items : List Item) (e : Env) → HoldsOf items e ↔ Asked items Holding e
holding items e = (λ h. (h.0.0, (h.0.1, h.1)), λ h. ((h.0, h.1.0), h.1.1))

failing : (items : List Item) (e : Env) → FailsOf items e ↔ Asked items Failing e
failing items e = (λ h. (h.0.0, (h.0.1, h.1)), λ h. ((h.0, h.1.0), h.1.1))

-- the two words, without the row's bit, are what is shown
pub both : (items : List Item) (s t : List ℕ) (n : ℕ) (u v : _) (x y : Word) → Puts (names_of items) (HoldsOf items) s → Puts (names_of items) (FailsOf items) t →
    FoundOf s n (First u) → FoundOf t n (First v) → x ≡ unmarked (others_of items) u.items → y ≡ unmarked (others_of items) v.items →
    FirstShown (row_in items) items (HoldsOf items) x × FirstShown (row_in items) items (FailsOf items) y
both items s t n u v x y p q f g one two = (
  subst (λ w. FirstShown (row_in items) items (HoldsOf items) w) (sym one) (shown_first items Holding (HoldsOf items) (holding items) s n u p f),
  subst (λ w. FirstShown (row_in items) items (FailsOf items) w) (sym two) (shown_first items Failing (FailsOf items) (failing items) t n v q g),
)

pub large : (items : List Item) (P : Env → Type 0) (s : List ℕ) (n : ℕ) → Puts (names_of items) P s → FoundOf s n TooLarge → Large items n P
large items P s n p f = (s, p, f (names_of items) p.formula p.claimed)
