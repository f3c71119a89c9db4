-- Where a claim does not mention x, `some x` of it holds exactly where it does itself; and its own
-- table, which does not look at x, works that out: nothing more is told apart.
use Rattle.std.proofs.Common.{◌≡◌, ℕ, ◌<◌, ◌≤◌, Bool, true, false, cond, ◌↔◌, List, [], ◌∷◌, sym, refl, ap, ◌∙◌, subst, inl, inr}
use mathlib.Core.Bool.{false≢true}
use mathlib.Core.Path.{fun_ext}
use Rattle.std.proofs.lemmas.Bool.Decides.{eqb_tells}
use Rattle.words.specs.Bits.{put_bit}
use Rattle.words.specs.Languages.{SameLeft}
use Rattle.words.specs.Runs.{run}
use Rattle.words.specs.Words.{Sets, Word, Columns, bit, sets}
use Rattle.words.proofs.BitsLaws.{agree_put}
use Rattle.claims.specs.Claims.{C, some, Holds, Of, has, put}
use Rattle.claims.specs.Sizes.{But, SameBut, Apart}
use Rattle.automata.specs.Tables.{Table, Exact}
use Rattle.automata.specs.Worked.{Worked}
use Rattle.automata.proofs.Agreement.{but_refl}
use Rattle.automata.proofs.Tables.{table_exact, exact_top}
use Rattle.narrowing.specs.Mentioned.{mentions}
use Rattle.narrowing.proofs.MentionedLaws.{holds_mentioned}

module _ (x : ℕ) (c : C) (absent : mentions c x ≡ false) where
  -- what is put for x makes no difference to the sets that are mentioned
  untouched : (v : Sets) (u : List Bool) (z : ℕ) → mentions c z ≡ true → put v x u z ≡ v z
  untouched v u z e = elim (eqb_tells z x) [
    | inl p ↦ absurd (false≢true (sym absent ∙ subst (λ y. mentions c y ≡ true) p.1 e))
    | inr p ↦ fun_ext λ i. ap (λ b. cond b (has u i) (v z i)) p.0
  ]

  pub some_absent : (v : Sets) → Holds (some x c) v ↔ Holds c v
  some_absent v = (
    λ p. holds_mentioned c (put v x p.0) v (λ z e. untouched v p.0 z e) p.1,
    λ p. ([], holds_mentioned c v (put v x []) (λ z e. sym (untouched v [] z e)) p),
  )

  pub table_absent : (k m : ℕ) (δ : ℕ → ℕ → ℕ) (f : ℕ → Bool) → Table k (Of c) m δ f → Table k (Of (some x c)) m δ f
  table_absent k m δ f t = record {
    connected = t.connected;
    says = λ w cw. (let s = t.says w cw in let o = some_absent (sets w) in (λ e. o.1 (s.0 e), λ p. s.1 (o.0 p)));
  }

-- words that agree in all sets but x lead to one class, where the table does not look at x
run_but : (x : ℕ) (δ : ℕ → ℕ → ℕ) → ((q a : ℕ) (b : Bool) → δ q (put_bit x b a) ≡ δ q a) → (u v : Word) → But x u v → (q : ℕ) → run δ q u ≡ run δ q v
run_but x δ blind [] [] h q = refl
run_but x δ blind [] (b ∷ v) h q = absurd h
run_but x δ blind (a ∷ u) [] h q = absurd h
run_but x δ blind (a ∷ u) (b ∷ v) h q =
    let e = agree_put x a b h.0 in
    let g = ap (δ q) e ∙ blind q a (bit x b) in
    ap (λ p. run δ p u) (sym g) ∙ run_but x δ blind u v h.1 (δ q b)

pub absent_worked : (k n x : ℕ) (c : C) (m : ℕ) (δ : ℕ → ℕ → ℕ) (f : ℕ → Bool) → Worked k n c m δ f → m ≤ n → x < k → mentions c x ≡ false → ((q a : ℕ) (b : Bool) → δ q (put_bit x b a) ≡ δ q a) → Worked k n (some x c) m δ f
absent_worked k n x c m δ f w few h absent blind = record {
  table = t;
  ordered = w.ordered;
  collapsed = w.collapsed;
  fits = (w.fits, exact_top k (Apart k (some x c)) m n δ exact few);
}
  where
    t : Table k (Of (some x c)) m δ f
    t = table_absent x c absent k m δ f w.table

    part : Exact k (SameLeft k (Of c)) m δ
    part = table_exact k (Of c) m δ f w.table w.collapsed

    whole : Exact k (SameLeft k (Of (some x c))) m δ
    whole = table_exact k (Of (some x c)) m δ f t w.collapsed

    -- each word that agrees with u leads where u does, and so where v does
    met : (u v a : Word) → Columns k v → run δ 0 u ≡ run δ 0 v → Columns k a → But x u a → (b : Word) × Columns k b × But x v b × SameLeft k (Of c) a b
    met u v a hv e ha g = (v, hv, but_refl x v, part.same a v ha hv (sym (run_but x δ blind u a g 0) ∙ e))

    met_back : (u v b : Word) → Columns k u → run δ 0 u ≡ run δ 0 v → Columns k b → But x v b → (a : Word) × Columns k a × But x u a × SameLeft k (Of c) a b
    met_back u v b hu e hb g = (u, hu, but_refl x u, part.same u b hu hb (e ∙ run_but x δ blind v b g 0))

    same_but : (u v : Word) → Columns k u → Columns k v → run δ 0 u ≡ run δ 0 v → SameBut k x (Of c) u v
    same_but u v hu hv e = (λ a ha g l. met u v a hv e ha g, λ b hb g l. met_back u v b hu e hb g)

    exact : Exact k (Apart k (some x c)) m δ
    exact = record {
      connected = w.table.connected;
      same = λ u v hu hv e. (whole.same u v hu hv e, same_but u v hu hv e);
      apart = λ u v hu hv l. whole.apart u v hu hv l.0;
    }
