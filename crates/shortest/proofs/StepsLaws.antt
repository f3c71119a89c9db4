-- What each cell of the pass keeps, and what is known at its end.
use Rattle.std.proofs.Common.{◌≡◌, ℕ, zero, suc, ◌+◌, ◌^◌, ◌<◌, ◌≤◌, List, [], ◌∷◌, ◌++◌, length, get_or, set, sym, ap, ◌∙◌, inl, inr, arith}
use native.Mathlib.Decide.{ℕ_discrete, dec_lt}
use Rattle.std.proofs.lemmas.List.{get_or-set_same, get_or-set_other}
use Rattle.words.specs.Words.{Word}
use Rattle.automata.specs.Search.{Before, Ordered, Ranked}
use Rattle.automata.specs.Tables.{Connected}
use Rattle.automata.proofs.FirstWords.{all_rows, next_cell}
use Rattle.shortest.specs.Spell.{word}
use Rattle.shortest.proofs.SpellLaws.{word_start, word_step}

-- words ws end with the steps of m classes, and the cells before row i, column a, lead to these
-- classes
pub record Ended (k n : ℕ) (δ : ℕ → ℕ → ℕ) (ws : ℕ → Word) (m : ℕ) (prev via : List ℕ) (i a : ℕ) : Type 0 where
  pub seen : (p b : ℕ) → Before p b i a → p < n → b < 2 ^ k → δ p b < m
  pub last : (j : ℕ) → 0 < j → j < m → ws j ≡ ws (get_or prev j 0) ++ (get_or via j 0 ∷ [])

-- the pass has come to row i, column a, and m of n classes are noted
pub record Noting (k n : ℕ) (δ : ℕ → ℕ → ℕ) (m : ℕ) (prev via : List ℕ) (i a : ℕ) : Type 0 where
  pub some : 0 < m
  pub few : m ≤ n
  pub falls : (j : ℕ) → 0 < j → j < m → get_or prev j 0 < j
  pub ended : (ws : ℕ → Word) → Ranked k n δ ws → Ended k n δ ws m prev via i a

module _ {k n : ℕ} {δ : ℕ → ℕ → ℕ} {m : ℕ} {prev via : List ℕ} {i : ℕ} where
  -- past its last column a row is done
  pub noting_row : Noting k n δ m prev via i (2 ^ k) → Noting k n δ m prev via (i + 1) 0
  noting_row x = record {
    some = x.some;
    few = x.few;
    falls = x.falls;
    ended = λ ws r. (let e = x.ended ws r in record { seen = λ p b o hp hb. e.seen p b (earlier p b o hb) hp hb; last = e.last });
  }
    where
      earlier : (p b : ℕ) → Before p b (i + 1) 0 → b < 2 ^ k → Before p b i (2 ^ k)
      earlier p b o hb = elim (ℕ_discrete p i) [ yes e ↦ inr (e, hb) | no d ↦ inl (elim o [ inl l ↦ omega arith | inr l ↦ (let z : ⊥ = omega (arith, l.1) in absurd z) ]) ]

  connected : {a : ℕ} → ((q a : ℕ) → q < n → a < 2 ^ k → δ q a < n) → Noting k n δ m prev via i a → (ws : ℕ → Word) → Ranked k n δ ws → Connected k n δ
  connected closed x ws r = (let s = x.some in let f = x.few in record { start = omega arith; closed = closed; reached = λ q h. (ws q, r.columns q h, r.arrives q h) })

  module _ {a : ℕ} (closed : (q a : ℕ) → q < n → a < 2 ^ k → δ q a < n) (x : Noting k n δ m prev via i a) (hi : i < m) (ha : a < 2 ^ k) where
    -- a cell that leads past the classes noted leads to the next, whose first word ends there
    next : (ws : ℕ → Word) → Ranked k n δ ws → m ≤ δ i a → (δ i a ≡ m) × (ws m ≡ ws i ++ (a ∷ []))
    next ws r h = next_cell k n δ ws (connected closed x ws r) r m i a x.some (let f = x.few in omega arith) ha (x.ended ws r).seen h

    seen_more : (l p b : ℕ) → m ≤ l → δ i a < l → ((p b : ℕ) → Before p b i a → p < n → b < 2 ^ k → δ p b < m) → Before p b i (a + 1) → p < n → b < 2 ^ k → δ p b < l
    seen_more l p b h g seen o hp hb = elim o [
      | inl e ↦ (let s = seen p b (inl e) hp hb in omega arith)
      | inr e ↦ elim (ℕ_discrete b a) [
        | yes z ↦ rw (e.0, z) g
        | no z ↦ (let s = seen p b (inr (e.0, omega (arith, e.1))) hp hb in omega arith)
      ]
    ]

    pub noting_old : (δ i a ≡ m → ⊥) → Noting k n δ m prev via i (a + 1)
    noting_old d = record {
      some = x.some;
      few = x.few;
      falls = x.falls;
      ended = λ ws r. record {
        seen = λ p b. seen_more m p b (omega arith) (elim (dec_lt (δ i a) m) [ yes l ↦ l | no l ↦ absurd (d (next ws r (omega arith)).0) ]) (x.ended ws r).seen;
        last = (x.ended ws r).last;
      };
    }

    pub noting_new : δ i a ≡ m → n ≤ length prev → n ≤ length via → Noting k n δ (m + 1) (set prev m i) (set via m a) i (a + 1)
    noting_new e fp fv = record {
      some = omega arith;
      few = room;
      falls = λ j g h. elim (ℕ_discrete j m) [ yes s ↦ rw (s, prev_here) hi | no d ↦ rw (prev_old j d) (x.falls j g (omega arith)) ];
      ended = λ ws r. record {
        seen = λ p b. seen_more (m + 1) p b (omega arith) (omega arith) (x.ended ws r).seen;
        last = λ j g h. elim (ℕ_discrete j m) [
          | yes s ↦ rw (s, prev_here, via_here) (next ws r (omega arith)).1
          | no d ↦ rw (prev_old j d, via_old j d) ((x.ended ws r).last j g (omega arith))
        ];
      };
    }
      where
        room : m + 1 ≤ n
        room = let f = x.few in let c = closed i a (omega arith) ha in omega arith

        prev_here : get_or (set prev m i) m 0 ≡ i
        prev_here = get_or-set_same prev m i 0 (omega (arith, room))

        prev_old : (j : ℕ) → (j ≡ m → ⊥) → get_or (set prev m i) j 0 ≡ get_or prev j 0
        prev_old j d = get_or-set_other prev m j i 0 d

        via_here : get_or (set via m a) m 0 ≡ a
        via_here = get_or-set_same via m a 0 (omega (arith, room))

        via_old : (j : ℕ) → (j ≡ m → ⊥) → get_or (set via m a) j 0 ≡ get_or via j 0
        via_old j d = get_or-set_other via m j a 0 d

  -- the words read off are the first words
  pub noting_words : Noting k n δ m prev via i 0 → (ws : ℕ → Word) → Ranked k n δ ws → (j : ℕ) → j < m → word prev via j ≡ ws j
  noting_words x ws r j h = words j j (omega arith) h
    where
      words : (t j : ℕ) → j ≤ t → j < m → word prev via j ≡ ws j
      words t zero g h = word_start prev via ∙ sym r.empty
      words zero (suc j) g h = let z : ⊥ = omega arith in absurd z
      words (suc t) (suc j) g h =
          let p = x.falls (suc j) (omega arith) h in
          word_step prev via (suc j) (omega arith) (λ q l o. x.falls q l (omega arith))
          ∙ ap (λ w. w ++ (get_or via (suc j) 0 ∷ [])) (words t (get_or prev (suc j) 0) (omega arith) (omega arith))
          ∙ sym ((x.ended ws r).last (suc j) (omega arith) h)

  -- where all rows of the classes noted are read, these are all classes
  pub noting_all : ((q a : ℕ) → q < n → a < 2 ^ k → δ q a < n) → Noting k n δ m prev via i 0 → m ≤ i → Ordered k n δ → n ≤ m
  noting_all closed x h o = all_rows k n δ o.0 (connected closed x o.0 o.1) o.1 m x.some (λ p b hp hq hb. (x.ended o.0 o.1).seen p b (inl (omega arith)) hq hb)
