-- The order of words over narrow columns is that of their least full words, so tables are in order
-- over both or over neither.
use Rattle.std.proofs.Common.{◌≡◌, ℕ, ◌^◌, ◌<◌, ◌≤◌, Bool, true, false, eqb, [], ◌∷◌, ◌++◌, length, sym, refl, ap, ap₂, ◌∙◌, subst, inl, inr, arith}
use native.Mathlib.Decide.{dec_lt, ℕ_discrete}
use Rattle.std.proofs.lemmas.Bool.Decides.{eqb_tells}
use Rattle.words.specs.Order.{Leq, Less, at_once, later, shorter}
use Rattle.words.specs.Runs.{run}
use Rattle.words.specs.Words.{Word, Columns}
use Rattle.words.proofs.OrderLaws.{leq_trans, less_last}
use Rattle.automata.specs.Search.{Ordered, Ranked}
use Rattle.automata.specs.Tables.{Connected}
use Rattle.automata.proofs.FirstWords.{first_word}
use Rattle.narrowing.specs.Columns.{each, size, extract, deposit}
use Rattle.narrowing.specs.Wide.{wide}
use Rattle.narrowing.proofs.ColumnsLaws.{extract_below, deposit_below, deposit_rises, extract_deposit, least_full}
use Rattle.narrowing.proofs.WideLaws.{each_length, narrow_word, full_word, full_onto, full_run, wide_run}

pub each_snoc : (f : ℕ → ℕ) (w : Word) (a : ℕ) → each f (w ++ (a ∷ [])) ≡ each f w ++ (f a ∷ [])
each_snoc f [] a = refl
each_snoc f (b ∷ w) a = ap (λ u. f b ∷ u) (each_snoc f w a)

module _ (k : ℕ) (s : ℕ → Bool) where
  abbrev ext : ℕ → ℕ
  ext = extract k s

  abbrev dep : ℕ → ℕ
  dep = deposit k s

  -- a full column before the least full one of j has a narrow column before j
  pub column_less : (a j : ℕ) → j < 2 ^ size k s → a < dep j → ext a < j
  column_less a j h l = elim (dec_lt (ext a) j) [
    | yes g ↦ g
    | no g ↦ elim (ℕ_discrete j (ext a)) [
      | yes e ↦ (let o = least_full k s a in let e' = ap dep e in let z : ⊥ = omega arith in absurd z)
      | no n ↦ (let r = deposit_rises k s j (ext a) (omega arith) (extract_below k s a) in let o = least_full k s a in let z : ⊥ = omega arith in absurd z)
    ]
  ]

  -- so a word before the least full word of a narrow one has a narrow word before that
  pub less_narrow : (u : Word) {w y : Word} → Less w y → y ≡ each dep u → Columns (size k s) u → Less (each ext w) u
  less_narrow [] (at_once h g) e c = cc
  less_narrow [] (later h g) e c = cc
  less_narrow [] (shorter h) e c = let l = ap length e in let z : ⊥ = omega arith in absurd z
  less_narrow (j ∷ u) (at_once {x = x} {y = y} {u = w} {v = v} h g) e c =
      let ej : y ≡ dep j = cc in
      let eu : v ≡ each dep u = cc in
      let l₁ = each_length ext w in
      let l₂ = each_length dep u in
      let l₃ = ap length eu in
      at_once (column_less x j c.0 (omega arith)) (omega arith)
  less_narrow (j ∷ u) (later {x = x} {u = w} {v = v} h g) e c =
      let ej : x ≡ dep j = cc in
      let eu : v ≡ each dep u = cc in
      let l₁ = each_length ext w in
      let l₂ = each_length dep u in
      let l₃ = ap length eu in
      let r = less_narrow u h eu c.1 in
      let i : ext x ≡ j = ap ext ej ∙ extract_deposit k s j c.0 in
      subst (λ z. Less (z ∷ each ext w) (j ∷ u)) (sym i) (later r (omega arith))
  less_narrow (j ∷ u) (shorter {u = w} {v = y} h) e c =
      let l₁ = each_length ext w in
      let l₂ = each_length dep (j ∷ u) in
      let l₃ = ap length e in
      shorter (omega arith)

  -- least full words stand in the order of their narrow ones
  pub less_full : {u w : Word} → Less u w → Columns (size k s) w → Less (each dep u) (each dep w)
  less_full (at_once {x = x} {y = y} {u = u} {v = v} h g) c = at_once (deposit_rises k s x y h c.0) (each_length dep u ∙ g ∙ sym (each_length dep v))
  less_full (later {u = u} {v = v} h g) c = later (less_full h c.1) (each_length dep u ∙ g ∙ sym (each_length dep v))
  less_full (shorter {u = u} {v = v} h) c = let l = each_length dep u in let l' = each_length dep v in shorter (omega arith)

  leq_full : (u w : Word) → Leq u w → Columns (size k s) w → Leq (each dep u) (each dep w)
  leq_full u w (inl e) c = inl (ap (each dep) e)
  leq_full u w (inr h) c = inr (less_full h c)

  -- the least full word of a word's narrow one is not later
  pub least_word : (w : Word) → Leq (each dep (each ext w)) w
  least_word [] = inl refl
  least_word (a ∷ w) = by (least_word w) (least_full k s a)
    where
      l : length (each dep (each ext w)) ≡ length w
      l = each_length dep (each ext w) ∙ each_length ext w

      by : Leq (each dep (each ext w)) w → dep (ext a) ≤ a → Leq (dep (ext a) ∷ each dep (each ext w)) (a ∷ w)
      by h g = elim (ℕ_discrete (dep (ext a)) a) [
        | yes e ↦ elim h [ inl i ↦ inl (ap₂ (λ b u. b ∷ u) e i) | inr i ↦ inr (subst (λ b. Less (dep (ext a) ∷ each dep (each ext w)) (b ∷ w)) e (later i l)) ]
        | no n ↦ inr (at_once (omega arith) l)
      ]

  columns_snoc : (v : ℕ) (u : Word) (b : ℕ) → Columns v u → b < 2 ^ v → Columns v (u ++ (b ∷ []))
  columns_snoc v [] b h g = (g, tt)
  columns_snoc v (a ∷ u) b h g = (h.0, columns_snoc v u b h.1 g)

  snoc_leq : (u : Word) (a b : ℕ) → a ≤ b → Leq (u ++ (a ∷ [])) (u ++ (b ∷ []))
  snoc_leq u a b h = elim (ℕ_discrete a b) [ yes e ↦ inl (ap (λ c. u ++ (c ∷ [])) e) | no n ↦ inr (less_last u a b (omega arith)) ]

  -- a narrow word not later than another and a column
  pub snoc_full : (w u : Word) (b : ℕ) → Columns (size k s) u → Leq w (u ++ (ext b ∷ [])) → Leq (each dep w) (each dep u ++ (b ∷ []))
  snoc_full w u b c l = leq_trans (each dep w) (each dep u ++ (dep (ext b) ∷ [])) (each dep u ++ (b ∷ []))
      (subst (Leq (each dep w)) (each_snoc dep u (ext b)) (leq_full w (u ++ (ext b ∷ [])) l (columns_snoc (size k s) u (ext b) c (extract_below k s b))))
      (snoc_leq (each dep u) (dep (ext b)) b (least_full k s b))

  module _ (t : ℕ → ℕ → ℕ) (m : ℕ) where
    pub ranked_wide : Connected (size k s) m t → (ws : ℕ → Word) → Ranked (size k s) m t ws → Ranked k m (wide k s t) (λ j. each dep (ws j))
    ranked_wide g ws r = record {
      empty = ap (each dep) r.empty;
      columns = λ j h. full_word k s (ws j) (r.columns j h);
      arrives = λ j h. full_run k s t 0 (ws j) (r.columns j h) ∙ r.arrives j h;
      least = λ p b h c. snoc_full (ws (t p (ext b))) (ws p) b (r.columns p h) (r.least p (ext b) h (extract_below k s b));
      sorted = λ p q l h. less_full (r.sorted p q l h) (r.columns q h);
    }

    pub ordered_wide : Connected (size k s) m t → Ordered (size k s) m t → Ordered k m (wide k s t)
    ordered_wide g o = (λ j. each dep (o.0 j), ranked_wide g o.0 o.1)

    module _ (g : Connected k m (wide k s t)) (ws : ℕ → Word) (r : Ranked k m (wide k s t) ws) where
      -- no word before a class's first word leads there
      first_there : (j : ℕ) → j < m → (u : Word) → Columns k u → Less u (ws j) → run (wide k s t) 0 u ≡ j → ⊥
      first_there j h u c l e = (first_word k m (wide k s t) ws g r (λ w. eqb (run (wide k s t) 0 w) j ≡ true) (λ q. eqb q j)
          record { connected = g; says = λ w _. (λ p. p, λ p. p) } j h (same j) (λ i l. other i j l)).2 u c l (subst (λ q. eqb q j ≡ true) (sym e) (same j))
        where
          same : (j : ℕ) → eqb j j ≡ true
          same j = elim (eqb_tells j j) [ inl p ↦ p.0 | inr p ↦ absurd (p.1 refl) ]

          other : (i j : ℕ) → i < j → eqb i j ≡ false
          other i j l = elim (eqb_tells i j) [ inl p ↦ (let e = p.1 in let z : ⊥ = omega arith in absurd z) | inr p ↦ p.0 ]

      -- so first words have no other sets than those that are chosen
      pub spelled : (j : ℕ) → j < m → each dep (each ext (ws j)) ≡ ws j
      spelled j h = elim (least_word (ws j)) [
        | inl e ↦ e
        | inr l ↦ absurd (first_there j h (each dep (each ext (ws j))) (full_word k s (each ext (ws j)) (narrow_word k s (ws j) (r.columns j h))) l
            (full_run k s t 0 (each ext (ws j)) (narrow_word k s (ws j) (r.columns j h)) ∙ sym (wide_run k s t 0 (ws j)) ∙ r.arrives j h))
      ]

      -- a word that is not later than the least full word of a narrow one
      leq_narrow : (j : ℕ) → j < m → (u : Word) → Columns (size k s) u → Leq (ws j) (each dep u) → Leq (each ext (ws j)) u
      leq_narrow j h u c (inl e) = inl (ap (each ext) e ∙ full_onto k s u c)
      leq_narrow j h u c (inr l) = inr (less_narrow u l refl c)

      pub ranked_narrow : Ranked (size k s) m t (λ j. each ext (ws j))
      ranked_narrow = record {
        empty = ap (each ext) r.empty;
        columns = λ j h. narrow_word k s (ws j) (r.columns j h);
        arrives = λ j h. sym (wide_run k s t 0 (ws j)) ∙ r.arrives j h;
        least = λ p b h c.
            (let e : ext (dep b) ≡ b = extract_deposit k s b c in
            let l : Leq (ws (t p b)) (ws p ++ (dep b ∷ [])) = subst (λ z. Leq (ws (t p z)) (ws p ++ (dep b ∷ []))) e (r.least p (dep b) h (deposit_below k s b)) in
            let f : ws p ++ (dep b ∷ []) ≡ each dep (each ext (ws p) ++ (b ∷ [])) = ap (λ u. u ++ (dep b ∷ [])) (sym (spelled p h)) ∙ sym (each_snoc dep (each ext (ws p)) b) in
            leq_narrow (t p b) (subst (λ z. t p z < m) e (g.closed p (dep b) h (deposit_below k s b))) (each ext (ws p) ++ (b ∷ [])) (columns_snoc (size k s) (each ext (ws p)) b (narrow_word k s (ws p) (r.columns p h)) c) (subst (Leq (ws (t p b))) f l));
        sorted = λ p q l h. less_narrow (each ext (ws q)) (r.sorted p q l h) (sym (spelled q h)) (narrow_word k s (ws q) (r.columns q h));
      }
