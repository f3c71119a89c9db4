-- What is known of a table over narrow columns holds of the table over full columns for which it
-- stands, and conversely.
use Rattle.std.proofs.Common.{◌≡◌, ℕ, suc, ◌<◌, Bool, ◌↔◌, [], ◌∷◌, length, sym, refl, ap, ap₂, ◌∙◌, subst}
use Rattle.words.specs.Runs.{run}
use Rattle.words.specs.Words.{Word, Columns}
use Rattle.automata.specs.Joined.{Joined, Written}
use Rattle.automata.specs.Subsets.{Live}
use Rattle.automata.specs.Tables.{Alike, Collapsed, Connected}
use Rattle.narrowing.specs.Columns.{each, size, extract, deposit}
use Rattle.narrowing.specs.Wide.{wide}
use Rattle.narrowing.proofs.ColumnsLaws.{extract_below, deposit_below, extract_deposit}

pub each_length : (f : ℕ → ℕ) (w : Word) → length (each f w) ≡ length w
each_length f [] = refl
each_length f (a ∷ w) = ap suc (each_length f w)

module _ (k : ℕ) (s : ℕ → Bool) where
  -- the narrow word of a word, and the least full word of a narrow one
  pub narrow_word : (w : Word) → Columns k w → Columns (size k s) (each (extract k s) w)
  narrow_word [] h = tt
  narrow_word (a ∷ w) h = (extract_below k s a, narrow_word w h.1)

  pub full_word : (u : Word) → Columns (size k s) u → Columns k (each (deposit k s) u)
  full_word [] h = tt
  full_word (j ∷ u) h = (deposit_below k s j, full_word u h.1)

  pub full_onto : (u : Word) → Columns (size k s) u → each (extract k s) (each (deposit k s) u) ≡ u
  full_onto [] h = refl
  full_onto (j ∷ u) h = ap₂ (λ a w. a ∷ w) (extract_deposit k s j h.0) (full_onto u h.1)

  module _ (t : ℕ → ℕ → ℕ) where
    pub wide_run : (q : ℕ) (w : Word) → run (wide k s t) q w ≡ run t q (each (extract k s) w)
    wide_run q [] = refl
    wide_run q (a ∷ w) = wide_run (t q (extract k s a)) w

    pub full_run : (q : ℕ) (u : Word) → Columns (size k s) u → run (wide k s t) q (each (deposit k s) u) ≡ run t q u
    full_run q u h = wide_run q (each (deposit k s) u) ∙ ap (run t q) (full_onto u h)

    pub connected_wide : (m : ℕ) → Connected (size k s) m t → Connected k m (wide k s t)
    connected_wide m g = record {
      start = g.start;
      closed = λ q a h c. g.closed q (extract k s a) h (extract_below k s a);
      reached = λ q h. (let (u, c, e) = g.reached q h in (each (deposit k s) u, full_word u c, full_run 0 u c ∙ e));
    }

    pub connected_narrow : (m : ℕ) → Connected k m (wide k s t) → Connected (size k s) m t
    connected_narrow m g = record {
      start = g.start;
      closed = λ q j h c. subst (λ b. t q b < m) (extract_deposit k s j c) (g.closed q (deposit k s j) h (deposit_below k s j));
      reached = λ q h. (let (w, c, e) = g.reached q h in (each (extract k s) w, narrow_word w c, sym (wide_run 0 w) ∙ e));
    }

    module _ (f : ℕ → Bool) where
      pub alike_wide : (p q : ℕ) → Alike (size k s) t f p q → Alike k (wide k s t) f p q
      alike_wide p q l w c = ap f (wide_run p w) ∙ l (each (extract k s) w) (narrow_word w c) ∙ sym (ap f (wide_run q w))

      pub alike_narrow : (p q : ℕ) → Alike k (wide k s t) f p q → Alike (size k s) t f p q
      alike_narrow p q l u c = sym (ap f (full_run p u c)) ∙ l (each (deposit k s) u) (full_word u c) ∙ ap f (full_run q u c)

      pub collapsed_wide : (m : ℕ) → Collapsed (size k s) m t f → Collapsed k m (wide k s t) f
      collapsed_wide m d p q hp hq l = d p q hp hq (alike_narrow p q l)

      pub collapsed_narrow : (m : ℕ) → Collapsed k m (wide k s t) f → Collapsed (size k s) m t f
      collapsed_narrow m d p q hp hq l = d p q hp hq (alike_wide p q l)

      pub live_wide : (q : ℕ) → Live (size k s) t f q ↔ Live k (wide k s t) f q
      live_wide q = (
        λ h. (let (u, c, e) = h in (each (deposit k s) u, full_word u c, ap f (full_run q u c) ∙ e)),
        λ h. (let (w, c, e) = h in (each (extract k s) w, narrow_word w c, sym (ap f (wide_run q w)) ∙ e)),
      )

      -- classes that are alike joined, and the joined table written
      pub joined_wide : (m : ℕ) (cls rep : ℕ → ℕ) (n : ℕ) → Joined (size k s) m t f cls rep n → Joined k m (wide k s t) f cls rep n
      joined_wide m cls rep n j = record {
        start = j.start;
        cls_below = j.cls_below;
        rep_below = j.rep_below;
        cls_rep = j.cls_rep;
        least = j.least;
        rising = j.rising;
        alike = λ p q hp hq e. alike_wide p q (j.alike p q hp hq e);
        apart = λ p q hp hq l. j.apart p q hp hq (alike_narrow p q l);
      }

      pub written_wide : (cls rep : ℕ → ℕ) (n : ℕ) (t' : ℕ → ℕ → ℕ) (f' : ℕ → Bool) → Written (size k s) t f cls rep n t' f' → Written k (wide k s t) f cls rep n (wide k s t') f'
      written_wide cls rep n t' f' w = record { steps = λ i a h b. w.steps i (extract k s a) h (extract_below k s a); accepts = w.accepts }
