-- A search over narrow columns is one over full columns, where steps go by the narrow columns alone.
use Rattle.std.proofs.Common.{◌≡◌, ℕ, ◌^◌, ◌<◌, ◌⊎◌, Bool, [], ◌∷◌, ◌++◌, sym, refl, ap, ◌∙◌, subst, inl, inr, arith}
use native.Mathlib.Decide.{dec_lt}
use Rattle.words.specs.Runs.{run}
use Rattle.words.specs.Words.{Word, Columns}
use Rattle.automata.specs.Search.{Before, Explored, Exploring, TooMany}
use Rattle.narrowing.specs.Columns.{each, size, extract, deposit}
use Rattle.narrowing.specs.Wide.{Sees, wide}
use Rattle.narrowing.proofs.ColumnsLaws.{extract_below, deposit_below, deposit_rises, extract_deposit}
use Rattle.narrowing.proofs.WideLaws.{connected_wide, full_word}
use Rattle.narrowing.proofs.OrderedLaws.{column_less, each_snoc, ordered_wide, less_full, snoc_full}

module _ (k : ℕ) (s : ℕ → Bool) {S : Type 0} (step small : S → ℕ → S) (sees : Sees k (extract k s) step small) (z : S) where
  abbrev ext : ℕ → ℕ
  ext = extract k s

  abbrev dep : ℕ → ℕ
  dep = deposit k s

  pub explored_wide : (m : ℕ) (at : ℕ → S) (t : ℕ → ℕ → ℕ) → Explored (size k s) small z m at t → Explored k step z m at (wide k s t)
  explored_wide m at t x = record {
    connected = connected_wide k s t m x.connected;
    first = x.first;
    steps = λ q a h c. x.steps q (ext a) h (extract_below k s a) ∙ sym (sees (at q) a c);
    differ = x.differ;
    ordered = ordered_wide k s t m x.connected x.ordered;
  }

  sees_run : (y : S) (u : Word) → Columns (size k s) u → run step y (each dep u) ≡ run small y u
  sees_run y [] h = refl
  sees_run y (j ∷ u) h = ap (λ x. run step x (each dep u)) (sees y (dep j) (deposit_below k s j) ∙ ap (small y) (extract_deposit k s j h.0)) ∙ sees_run (small y j) u h.1

  -- the full column before which those stand whose narrow columns come before column a
  abbrev Bound : ℕ → ℕ → Type 0
  Bound a n = ((a < 2 ^ size k s) × (n ≡ dep a)) ⊎ ((a < 2 ^ size k s → ⊥) × (n ≡ 2 ^ k))

  bound_of : (a : ℕ) → (n : ℕ) × Bound a n
  bound_of a = elim (dec_lt a (2 ^ size k s)) [ yes h ↦ (dep a, inl (h, refl)) | no h ↦ (2 ^ k, inr (h, refl)) ]

  abbrev bound : ℕ → ℕ
  bound a = (bound_of a).0

  to_narrow : (p b i a : ℕ) → b < 2 ^ k → Before p b i (bound a) → Before p (ext b) i a
  to_narrow p b i a h (inl l) = inl l
  to_narrow p b i a h (inr (e, l)) = inr (
    e,
    elim (bound_of a).1 [
      | inl y ↦ column_less k s b a y.0 (subst (λ n. b < n) y.1 l)
      | inr y ↦ (let g = extract_below k s b in omega (arith, y.0))
    ],
  )

  to_full : (p b i a : ℕ) → b < 2 ^ size k s → Before p b i a → Before p (dep b) i (bound a)
  to_full p b i a h (inl l) = inl l
  to_full p b i a h (inr (e, l)) = inr (
    e,
    elim (bound_of a).1 [
      | inl y ↦ subst (λ n. dep b < n) (sym y.1) (deposit_rises k s b a l y.0)
      | inr y ↦ subst (λ n. dep b < n) (sym y.1) (deposit_below k s b)
    ],
  )

  last_below : (v : ℕ) (u : Word) (b : ℕ) → Columns v (u ++ (b ∷ [])) → b < 2 ^ v
  last_below v [] b h = h.0
  last_below v (a ∷ u) b h = last_below v u b h.1

  exploring_wide : (m : ℕ) (at : ℕ → S) (t : ℕ → ℕ → ℕ) (ws : ℕ → Word) (i a : ℕ) → Exploring (size k s) small z m at t ws i a → Exploring k step z m at (wide k s t) (λ j. each dep (ws j)) i (bound a)
  exploring_wide m at t ws i a x = record {
    start = x.start;
    first = x.first;
    empty = ap (each dep) x.empty;
    columns = λ j h. full_word k s (ws j) (x.columns j h);
    comes = λ j h. sees_run z (ws j) (x.columns j h) ∙ x.comes j h;
    differ = x.differ;
    steps = λ p b o h c.
        (let (d, e, l) = x.steps p (ext b) (to_narrow p b i a c o) h (extract_below k s b) in
        (d, e ∙ sym (sees (at p) b c), snoc_full k s (ws (t p (ext b))) (ws p) b (x.columns p h) l));
    born = λ j h g.
        (let (p, b, o, hp, e) = x.born j h g in
        let c : b < 2 ^ size k s = last_below (size k s) (ws p) b (subst (Columns (size k s)) e (x.columns j g)) in
        (p, dep b, to_full p b i a c o, hp, ap (each dep) e ∙ each_snoc dep (ws p) b));
    sorted = λ p q l h. less_full k s (x.sorted p q l h) (x.columns q h);
  }

  -- so more than n things found over narrow columns are found over full ones
  pub too_many_wide : (n : ℕ) → TooMany (size k s) small z n → TooMany k step z n
  too_many_wide n y = record { found = y.found; at = y.at; δ = wide k s y.δ; ws = λ j. each dep (y.ws j); row = y.row; column = bound y.column; exploring = exploring_wide y.found y.at y.δ y.ws y.row y.column y.exploring; many = y.many }
