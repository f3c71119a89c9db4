-- Working a claim out, part by part: what each part hands on, or that the claim does not fit.
use Rattle.std.proofs.Common.{◌≡◌, ℕ, ◌^◌, ◌<◌, ◌≤◌, Bool, true, not, ◌&&◌, ◌↔◌, ◌++◌, refl, ap}
use Rattle.words.specs.Languages.{Lang, SameLeft}
use Rattle.words.specs.Words.{Columns, Word}
use Rattle.claims.specs.Claims.{C, Of, and1, not1, some}
use Rattle.claims.specs.Sizes.{Apart, Fits}
use Rattle.automata.specs.Joined.{Joined, Written}
use Rattle.automata.specs.Product.{Pair, left, pair, right, step_pair}
use Rattle.automata.specs.Search.{Explored, TooMany}
use Rattle.automata.specs.Subsets.{Completes, Live, accepts_set, start_set, step_set}
use Rattle.automata.specs.Tables.{Exact, Table}
use Rattle.words.specs.Runs.{run}
use Rattle.automata.specs.Worked.{Shown, Worked}
use Rattle.automata.proofs.Beyond.{Beyond, some_beyond}
use Rattle.automata.proofs.Decisions.{not_same, not_true}
use Rattle.automata.proofs.Explored.{explored_exact, explored_table}
use Rattle.automata.proofs.Exploring.{too_many}
use Rattle.automata.proofs.FirstWords.{ordered_same}
use Rattle.automata.proofs.Joined.{written_collapsed, written_ordered, written_table}
use Rattle.automata.proofs.Product.{product_exact, product_from, product_table, product_to}
use Rattle.automata.proofs.Subsets.{accepts_says, but_left, subset_apart, subset_ext, subset_same, subset_says}
use Rattle.automata.proofs.Tables.{collapsed_same, exact_top, table_exact, table_same}

-- not: the same classes
pub not_table : (k : ℕ) (L : Lang) (m : ℕ) (δ : ℕ → ℕ → ℕ) (f : ℕ → Bool) → Table k L m δ f → Table k (λ w. L w → ⊥) m δ (λ q. not (f q))
not_table k L m δ f t = record {
  connected = t.connected;
  says = λ w h.
      (let s = t.says w h in let n = not_true (f (run δ 0 w)) in (λ e l. n.0 e (s.1 l), λ g. n.1 (λ e. g (s.0 e))));
}

pub shown_not : (k n : ℕ) (c : C) (m : ℕ) (δ : ℕ → ℕ → ℕ) (f g : ℕ → Bool) → Shown k n c m δ f → ((q : ℕ) → q < m → g q ≡ not (f q)) → Shown k n (not1 c) m δ g
shown_not k n c m δ f g t e = record {
  table = table_same k (Of (not1 c)) m δ δ (λ q. not (f q)) g (not_table k (Of c) m δ f t.table) (λ q a _ _. refl) e;
  ordered = t.ordered;
  fits = t.fits;
}

pub worked_not : (k n : ℕ) (c : C) (m : ℕ) (δ : ℕ → ℕ → ℕ) (f g : ℕ → Bool) → Worked k n c m δ f → ((q : ℕ) → q < m → g q ≡ not (f q)) → Worked k n (not1 c) m δ g
worked_not k n c m δ f g t e = record {
  table = table_same k (Of (not1 c)) m δ δ (λ q. not (f q)) g (not_table k (Of c) m δ f t.table) (λ q a _ _. refl) e;
  ordered = t.ordered;
  fits = t.fits;
  collapsed = collapsed_same k m δ δ (λ q. not (f q)) g t.table.connected (λ p q hp hq a. t.collapsed p q hp hq (λ x hx. not_same (f (run δ p x)) (f (run δ q x)) (a x hx))) (λ q a _ _. refl) e;
}

-- A table is the same with other functions that agree with its own on its classes, as where it is
-- copied.
pub shown_same : (k n : ℕ) (c : C) (m : ℕ) (δ δ' : ℕ → ℕ → ℕ) (f f' : ℕ → Bool) → Shown k n c m δ f → ((q a : ℕ) → q < m → a < 2 ^ k → δ' q a ≡ δ q a) → ((q : ℕ) → q < m → f' q ≡ f q) → Shown k n c m δ' f'
shown_same k n c m δ δ' f f' t leads ends = record { table = table_same k (Of c) m δ δ' f f' t.table leads ends; ordered = ordered_same k m δ δ' t.table.connected t.ordered leads; fits = t.fits }

-- With its classes that are alike joined it is exact.
pub joined_worked : (k n : ℕ) (c : C) (m : ℕ) (δ : ℕ → ℕ → ℕ) (f : ℕ → Bool) → Shown k n c m δ f → (cls rep : ℕ → ℕ) (r : ℕ) → Joined k m δ f cls rep r → (δ' : ℕ → ℕ → ℕ) (f' : ℕ → Bool) → Written k δ f cls rep r δ' f' → Worked k n c r δ' f'
joined_worked k n c m δ f t cls rep r j δ' f' w = record {
  table = written_table k m δ f f cls rep r δ' f' t.table.connected j (λ q _. refl) w (Of c) t.table;
  ordered = written_ordered k m δ f f cls rep r δ' f' t.table.connected j (λ q _. refl) w t.ordered;
  collapsed = written_collapsed k m δ f f cls rep r δ' f' t.table.connected j (λ q _. refl) w;
  fits = t.fits;
}

-- and: the pairs of classes; g is the acceptance that stands in memory
module _ (k n : ℕ) (c e : C) (m m₁ : ℕ) (δ δ₁ : ℕ → ℕ → ℕ) (f f₁ : ℕ → Bool) (t : Worked k n c m δ f) (t₁ : Worked k n e m₁ δ₁ f₁) where
  exact_c : Exact k (SameLeft k (Of c)) m δ
  exact_c = table_exact k (Of c) m δ f t.table t.collapsed

  exact_e : Exact k (SameLeft k (Of e)) m₁ δ₁
  exact_e = table_exact k (Of e) m₁ δ₁ f₁ t₁.table t₁.collapsed

  pub shown_and : (o : ℕ) (at : ℕ → Pair) (γ : ℕ → ℕ → ℕ) (g : ℕ → Bool) → Explored k (step_pair δ δ₁) (pair 0 0) o at γ → o ≤ n → ((i : ℕ) → i < o → g i ≡ (f (left (at i)) && f₁ (right (at i)))) → Shown k n (and1 c e) o γ g
  shown_and o at γ g x h same = record {
    table = table_same k (Of (and1 c e)) o γ γ (λ i. f (left (at i)) && f₁ (right (at i))) g (product_table k (Of c) (Of e) m m₁ δ δ₁ f f₁ t.table t₁.table o at γ x) (λ q a _ _. refl) same;
    ordered = x.ordered;
    fits = (t.fits, t₁.fits, exact_top k (Apart k (and1 c e)) o n γ (product_exact k (Of c) (Of e) m m₁ δ δ₁ exact_c exact_e o at γ x) h);
  }

  pub many_and : TooMany k (step_pair δ δ₁) (pair 0 0) n → Fits k n (and1 c e) → ⊥
  many_and y ft = too_many k (step_pair δ δ₁) (pair 0 0) n y (Apart k (and1 c e)) (product_to k (Of c) (Of e) m m₁ δ δ₁ exact_c exact_e) (product_from k (Of c) (Of e) m m₁ δ δ₁ exact_c exact_e) ft.2

-- some: the sets of live classes; g is the acceptance that stands in memory
module _ (k n x : ℕ) (c : C) (m : ℕ) (δ : ℕ → ℕ → ℕ) (f : ℕ → Bool) (t : Worked k n c m δ f) (h : x < k) (live : ℕ → Bool) (bounded : (q : ℕ) → live q ≡ true → q < m) (is : (q : ℕ) → q < m → (live q ≡ true) ↔ Live k δ f q) where
  left_some : (u v : Word) → SameLeft k (Beyond x (Of c)) u v → SameLeft k (Of (some x c)) u v
  left_some u v l y hy = (λ p. (some_beyond x c (v ++ y)).1 ((l y hy).0 ((some_beyond x c (u ++ y)).0 p)), λ p. (some_beyond x c (u ++ y)).1 ((l y hy).1 ((some_beyond x c (v ++ y)).0 p)))

  some_to : (u v : Word) → Columns k u → Columns k v → run (step_set m δ live x) (start_set live) u ≡ run (step_set m δ live x) (start_set live) v → Apart k (some x c) u v
  some_to u v hu hv e =
      let sb = subset_same k x m δ f live h t.table.connected is (Of c) t.table u v hu hv (λ q hq. ap (λ X. X q) e) in
      (left_some u v (but_left k x (Of c) h u v hu hv sb), sb)

  some_from : (u v : Word) → Columns k u → Columns k v → Apart k (some x c) u v → run (step_set m δ live x) (start_set live) u ≡ run (step_set m δ live x) (start_set live) v
  some_from u v hu hv a = subset_ext m δ live x bounded u v (subset_apart k x m δ f live h t.table.connected is (Of c) t.table t.collapsed u v hu hv a.1)

  pub many_some : TooMany k (step_set m δ live x) (start_set live) n → Fits k n (some x c) → ⊥
  many_some y ft = too_many k (step_set m δ live x) (start_set live) n y (Apart k (some x c)) some_to some_from ft.1

  pub shown_some : (o : ℕ) (at : ℕ → ℕ → Bool) (γ : ℕ → ℕ → ℕ) (completed g : ℕ → Bool) → Explored k (step_set m δ live x) (start_set live) o at γ → o ≤ n → ((q : ℕ) → q < m → (completed q ≡ true) ↔ Completes x δ f q) → ((i : ℕ) → i < o → g i ≡ accepts_set m completed (at i)) → Shown k n (some x c) o γ g
  shown_some o at γ completed g e few ha same =
      let acc : (ℕ → Bool) → Bool = accepts_set m completed in
      let tb : Table k (Of (some x c)) o γ (λ i. acc (at i)) = explored_table k (step_set m δ live x) (start_set live) o at γ e (Of (some x c)) acc (λ w hw.
      (let l = subset_says k x m δ f live h t.table.connected is (Of c) t.table w hw in
      let y = accepts_says m completed (Completes x δ f) ha (run (step_set m δ live x) (start_set live) w) in
      let z = some_beyond x c w in
      (λ p. z.1 (l.0 (y.0 p)), λ p. y.1 (l.1 (z.0 p))))) in
      record {
        table = table_same k (Of (some x c)) o γ γ (λ i. acc (at i)) g tb (λ q a _ _. refl) same;
        ordered = e.ordered;
        fits = (t.fits, exact_top k (Apart k (some x c)) o n γ (explored_exact k (step_set m δ live x) (start_set live) o at γ e (Apart k (some x c)) some_to some_from) few);
      }
