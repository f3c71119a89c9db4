-- Splitting by the parts that wait: what one column, one part and all of them keep.
use Rattle.std.proofs.Common.{◌≡◌, ℕ, ◌+◌, ◌^◌, ◌<◌, ◌≤◌, ◌↔◌, Bool, true, false, eqb, leb, List, get_or, sym, refl, ap, ◌∙◌, subst, inl, inr, arith}
use Rattle.std.proofs.lemmas.Bool.{leb-true, le-leb}
use Rattle.std.proofs.lemmas.Bool.Decides.{leb_tells}
use Rattle.automata.specs.Joined.{Stable}
use Rattle.automata.proofs.Decisions.{eqb_true}
use Rattle.splitting.specs.Splitting.{Splits, Cut}
use Rattle.splitting.specs.Places.{Arranged, Marked, Unmarked, Grown, Members}
use Rattle.splitting.specs.Cutting.{Cutting}
use Rattle.splitting.specs.Repeats.{Repeat}
use Rattle.splitting.specs.Split.{Waiting, Cleft}
use Rattle.splitting.proofs.CuttingLaws.{parts_alone}
use Rattle.splitting.proofs.PlacesLaws.{not_marked}
use Rattle.splitting.proofs.SplittingLaws.{splitting_start, splits_take, splits_column, splits_skip, splitting_next, splitting_end}

-- two tests that are true at once
bool_same : (a b : Bool) → (a ≡ true → b ≡ true) → (b ≡ true → a ≡ true) → a ≡ b
bool_same true b f g = sym (f refl)
bool_same false true f g = g refl
bool_same false false f g = refl

-- classes that were marked are cut from those that were not, and of the pieces of a part the new
-- one waits
module _ {m n n' : ℕ} {Also : ℕ → Type 0} {order place part begin end cut order' place' cut' touched' part'' begin'' end'' cut'' : List ℕ} {tail' : ℕ} (a : Arranged m n order place part begin end cut) (u : Unmarked n begin cut)
    (g : Grown m n Also place part begin end cut order' place' cut' touched' tail') (k : Cutting m n order' place' part begin end cut' n' part'' begin'' end'' cut'') (w : Unmarked n' begin'' cut'') where
  module _ (Y : ℕ → Bool) (done : ℕ) (is : (q : ℕ) → q < m → (Y q ≡ true) ↔ Also q) (few : done ≤ n) where
    -- the marked classes are those of Y
    marks : (q : ℕ) → q < m → Marked place' part cut' q → Y q ≡ true
    marks q h e = elim (g.only q h e) [ inl o ↦ absurd (not_marked a u q h o) | inr o ↦ (is q h).1 o ]

    marked : (q : ℕ) → q < m → Y q ≡ true → Marked place' part cut' q
    marked q h e = g.new q h ((is q h).0 e)

    same_marks : (p q : ℕ) → p < m → q < m → Y p ≡ Y q → Marked place' part cut' p ↔ Marked place' part cut' q
    same_marks p q hp hq e = (λ x. marked q hq (sym e ∙ marks p hp x), λ x. marked p hp (e ∙ marks q hq x))

    none : (p q : ℕ) → p < m → q < m → Marked place' part'' cut'' p ↔ Marked place' part'' cut'' q
    none p q hp hq = (λ x. absurd (not_marked k.arranged w p hp x), λ x. absurd (not_marked k.arranged w q hq x))

    new_waits : (p : ℕ) → n ≤ get_or part'' p 0 → leb done (get_or part'' p 0) ≡ true
    new_waits p h = le-leb done (get_or part'' p 0) (omega arith)

    pub cut_marked : Cut m Y (λ q. get_or part q 0) (leb done) (λ q. get_or part'' q 0) (leb done)
    cut_marked = record {
      finer = λ p q hp hq e. (k.recut.told p q hp hq e (none p q hp hq)).0;
      told = λ p q hp hq e. (let t = (k.recut.told p q hp hq e (none p q hp hq)).1 in bool_same (Y p) (Y q) (λ x. marks q hq (t.0 (marked p hp x))) (λ x. marks p hp (t.1 (marked q hq x))));
      same = λ p q hp hq e y. (k.recut.same p q hp hq e (same_marks p q hp hq y)).0;
      kept = λ p hp e. elim (k.recut.kept p hp) [ inl s ↦ rw s e | inr l ↦ new_waits p l ];
      pieces = λ p q hp hq e d. elim (k.recut.kept p hp) [
        | inr l ↦ inl (new_waits p l)
        | inl s ↦ elim (k.recut.kept q hq) [ inr l ↦ inr (new_waits q l) | inl t ↦ absurd (d (s ∙ e ∙ sym t)) ]
      ];
    }

  pub cleft_marked : (to : ℕ → ℕ) (members : List ℕ) (size : ℕ) → ((q : ℕ) → q < m → Also q ↔ ((i : ℕ) × (i < size) × (get_or members i 0 ≡ to q))) → Cleft m n to members size part n' order' place' part'' begin'' end'' cut''
  cleft_marked to members size are = record {
    more = k.more;
    arranged = k.arranged;
    clean = w;
    cleft = λ Y done is few. cut_marked Y done (λ q h. (λ e. (are q h).1 ((is q h).0 e), λ e. (is q h).1 ((are q h).0 e))) few;
  }

  -- all classes were one part, and are parted by acceptance
  pub waiting_start : (k' : ℕ) (δ : ℕ → ℕ → ℕ) (f : ℕ → Bool) → ((q : ℕ) → q < m → get_or part q 0 ≡ 0) → 1 ≤ n → ((q : ℕ) → q < m → (f q ≡ true) ↔ Also q) → Waiting k' m δ f n' 1 order' place' part'' begin'' end'' cut''
  waiting_start k' δ f one l is =
      let t = cut_marked f 1 is l in
      record {
        arranged = k.arranged;
        clean = w;
        splitting = splitting_start k' m δ f (λ q. get_or part'' q 0) (leb 1)
            (λ p q hp hq e. t.same p q hp hq (one p hp ∙ sym (one q hq)) e) t.told
            (λ p q hp hq d. t.pieces p q hp hq (one p hp ∙ sym (one q hq)) d);
      }

-- the parts are split by the columns before c, by part b as it was
pub record SplitTo (k m : ℕ) (δ : ℕ → ℕ → ℕ) (b c : ℕ) (part : List ℕ) (n : ℕ) (order' place' part' begin' end' cut' : List ℕ) : Type 0 where
  pub arranged : Arranged m n order' place' part' begin' end' cut'
  pub clean : Unmarked n begin' cut'
  pub later : b < n
  pub splits : Splits m δ (λ q. eqb (get_or part q 0) b) c (λ q. get_or part q 0) (leb b) (λ q. get_or part' q 0) (leb (b + 1))

module _ {k m : ℕ} {δ : ℕ → ℕ → ℕ} {b : ℕ} where
  pub split_none : {f : ℕ → Bool} {n : ℕ} {order place part begin end cut : List ℕ} → Waiting k m δ f n b order place part begin end cut → b < n → SplitTo k m δ b 0 part n order place part begin end cut
  split_none {part = part} w l = record {
    arranged = w.arranged;
    clean = w.clean;
    later = l;
    splits = splits_take m δ b (λ q. get_or part q 0) (leb b) (leb (b + 1)) (λ i d e. (let h = leb-true b i e in le-leb (b + 1) i (omega arith)));
  }

  pub split_more : {c n n' size : ℕ} {part members order' place' part' begin' end' cut' order'' place'' part'' begin'' end'' cut'' : List ℕ} → ((q : ℕ) → q < m → δ q c < m) → Members m part b members size → SplitTo k m δ b c part n order' place' part' begin' end' cut' → Cleft m n (λ q. δ q c) members size part' n' order'' place'' part'' begin'' end'' cut'' → SplitTo k m δ b (c + 1) part n' order'' place'' part'' begin'' end'' cut''
  split_more {c} {size = size} {part} {members} {part' = part'} {part'' = part''} closed x s t = record {
    arranged = t.arranged;
    clean = t.clean;
    later = omega (arith, s.later, t.more);
    splits = splits_column m δ (λ q. eqb (get_or part q 0) b) c (λ q. get_or part q 0) (leb b) (λ q. get_or part' q 0) (leb (b + 1)) (λ q. get_or part'' q 0) (leb (b + 1)) s.splits
        (t.cleft (λ q. eqb (get_or part (δ q c) 0) b) (b + 1)
        (λ q h. (λ e. x.all (δ q c) (closed q h) ((eqb_true (get_or part (δ q c) 0) b).0 e), λ e. (let (i, l, y) = e in (eqb_true (get_or part (δ q c) 0) b).1 (ap (λ r. get_or part r 0) (sym y) ∙ x.of i l))))
        (omega (arith, s.later)));
  }

  -- a column that repeats an earlier one is passed over
  pub split_skip : {c n : ℕ} {part order' place' part' begin' end' cut' : List ℕ} → Repeat m δ c → SplitTo k m δ b c part n order' place' part' begin' end' cut' → SplitTo k m δ b (c + 1) part n order' place' part' begin' end' cut'
  split_skip {c} {part = part} {part' = part'} r s = record {
    arranged = s.arranged;
    clean = s.clean;
    later = s.later;
    splits = splits_skip m δ (λ q. eqb (get_or part q 0) b) c r.b (λ q. get_or part q 0) (leb b) (λ q. get_or part' q 0) (leb (b + 1)) s.splits r.earlier r.alike;
  }

  pub waiting_next : {f : ℕ → Bool} {c n n' : ℕ} {order place part begin end cut order' place' part' begin' end' cut' : List ℕ} → ((q a : ℕ) → q < m → a < 2 ^ k → δ q a < m) → c ≡ 2 ^ k → Waiting k m δ f n b order place part begin end cut → SplitTo k m δ b c part n' order' place' part' begin' end' cut' → Waiting k m δ f n' (b + 1) order' place' part' begin' end' cut'
  waiting_next {f} {part = part} {part' = part'} closed e w s = record {
    arranged = s.arranged;
    clean = s.clean;
    splitting = splitting_next k m δ f closed b (λ q. get_or part q 0) (leb b) (λ q. get_or part' q 0) (leb (b + 1)) w.splitting (subst (λ c. Splits m δ (λ q. eqb (get_or part q 0) b) c (λ q. get_or part q 0) (leb b) (λ q. get_or part' q 0) (leb (b + 1))) e s.splits);
  }

-- no part waits
pub waiting_end : {k m n done : ℕ} {δ : ℕ → ℕ → ℕ} {f : ℕ → Bool} {order place part begin end cut : List ℕ} → ((q a : ℕ) → q < m → a < 2 ^ k → δ q a < m) → Waiting k m δ f n done order place part begin end cut → n ≤ done → Stable k m δ f (λ q. get_or part q 0)
waiting_end {k} {m} {n} {done} {δ} {f} {part = part} closed w l = splitting_end k m δ f closed (λ q. get_or part q 0) (leb done) w.splitting
    (λ q h. elim (leb_tells done (get_or part q 0)) [ inl i ↦ (let b = w.arranged.parts.below q h in let j = i.1 in let z : ⊥ = omega arith in absurd z) | inr i ↦ i.0 ])

-- every class is alone
pub waiting_alone : {k m n done : ℕ} {δ : ℕ → ℕ → ℕ} {f : ℕ → Bool} {order place part begin end cut : List ℕ} → Waiting k m δ f n done order place part begin end cut → n ≡ m → Stable k m δ f (λ q. get_or part q 0)
waiting_alone {δ = δ} {part = part} w e = record {
  whole = w.splitting.whole;
  accepts = w.splitting.accepts;
  steps = λ p q a hp hq ha s. ap (λ p. get_or part (δ p a) 0) (parts_alone w.arranged w.clean e p q hp hq s);
}
