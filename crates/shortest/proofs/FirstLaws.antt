-- From a table of a language, its classes in order: the first word of the language and the first
-- word that is not in it, or that there is none.
use Rattle.std.proofs.Common.{ℕ, ◌<◌, Bool, true, false, not, ap, ◌∙◌, sym}
use mathlib.Core.Bool.{false≢true}
use Rattle.words.specs.Languages.{Lang}
use Rattle.words.specs.Order.{Less}
use Rattle.words.specs.Words.{Word, Columns}
use Rattle.automata.specs.Search.{Ranked}
use Rattle.automata.specs.Tables.{Table}
use Rattle.words.specs.Runs.{run}
use Rattle.automata.proofs.FirstWords.{first_word}
use Rattle.automata.proofs.Tables.{run_below}
use Rattle.automata.proofs.Working.{not_table}
use Rattle.shortest.specs.First.{Foremost, Nowhere}

module _ (k : ℕ) (L : Lang) (m : ℕ) (δ : ℕ → ℕ → ℕ) (f : ℕ → Bool) (t : Table k L m δ f) where
  leads : (w : Word) → Columns k w → run δ 0 w < m
  leads w h = run_below k m δ t.connected 0 w t.connected.start h

  -- no class accepts: no word is in the language
  pub none_in : Nowhere f m true → (w : Word) → Columns k w → L w → ⊥
  none_in x w h l = false≢true (sym (x (run δ 0 w) (leads w h)) ∙ (t.says w h).1 l)

  -- every class accepts: every word is
  pub none_out : Nowhere f m false → (w : Word) → Columns k w → L w
  none_out x w h = (t.says w h).0 (x (run δ 0 w) (leads w h))

  module _ (ws : ℕ → Word) (r : Ranked k m δ ws) (j : ℕ) where
    -- the first class that accepts has the first word of the language
    pub first_in : Foremost f m true j → Columns k (ws j) × L (ws j) × ((u : Word) → Columns k u → Less u (ws j) → L u → ⊥)
    first_in x = first_word k m δ ws t.connected r L f t j x.below x.here x.before

    -- the first class that does not accept has the first word that is not in it
    pub first_out : Foremost f m false j → Columns k (ws j) × (L (ws j) → ⊥) × ((u : Word) → Columns k u → Less u (ws j) → (L u → ⊥) → ⊥)
    first_out x = first_word k m δ ws t.connected r (λ w. L w → ⊥) (λ q. not (f q)) (not_table k L m δ f t) j x.below (ap not x.here) (λ p h. ap not (x.before p h))
