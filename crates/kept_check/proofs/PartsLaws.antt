-- A row shows that a claim does not follow exactly if it does of one of its parts.
use Rattle.std.proofs.Common.{◌≡◌, ℕ, suc, Bool, T, ltb, ◌⊎◌, ◌↔◌, List, [], ◌∷◌, ◌++◌, ◌-◌, ◌≤◌, length, take, drop, get_or, sym, ap, ◌∙◌, arith, inl, inr}
use Rattle.std.proofs.lemmas.List.{take_all}
use Rattle.words.specs.Words.{Word, Columns}
use Rattle.claims.proofs.FrontLaws.{both_passed, pass_both}
use Rattle.formulas.specs.declared.name.Name.{Name}
use Rattle.formulas.specs.declared.name.Name.TheVariants.{OfPlace, OfGroup}
use Rattle.formulas.specs.declared.formula.Formula.{Formula}
use Rattle.formulas.specs.declared.formula.Formula.TheVariants.{True, Same, Less, In, Sub, Count, Not', And', Or', Implies', Some1', All1', Some2', All2'}
use Rattle.formulas.specs.Names.{names}
use Rattle.rows.specs.Limits.{groups_ok}
use Rattle.rows.specs.Rows.{step}
use Rattle.keeping.specs.Breaches.{names_ok}
use Rattle.keeping.specs.Kept.{OfRow}
use Rattle.keeping.specs.declared.moment.Moment.{Moment}
use Rattle.keeping.specs.declared.moment.Moment.TheVariants.{Start, Step}
use Rattle.keeping.proofs.KeptLaws.{broken_in_parts}
use Rattle.rules.proofs.ChangedLaws.{true_is}
use Rattle.kept_claims.specs.Breach.{Breaks, Broken}
use Rattle.kept_claims.specs.declared.kept.Keeping.{Keeping}
use Rattle.kept_check.specs.Parts.{parts, NamesOk, BrokenAny, BreaksAny}

-- names of two lists are so if those of both together are
names_apart : (ok : ℕ → Bool) (l m : List Name) → T (groups_ok ok (l ++ m)) → T (groups_ok ok l) × T (groups_ok ok m)
names_apart ok [] m t = (tt, t)
names_apart ok (OfPlace x ∷ l) m t = absurd t
names_apart ok (OfGroup x ∷ l) m t =
    let (p, q) = both_passed (ok x) (groups_ok ok (l ++ m)) t in
    let (r, s) = names_apart ok l m q in
    (pass_both (ok x) (groups_ok ok l) p r, s)

names_together : (b : ℕ) (ds es : List Formula) → NamesOk b ds → NamesOk b es → NamesOk b (ds ++ es)
names_together b [] es h g = g
names_together b (d ∷ ds) es h g = (h.0, names_together b ds es h.1 g)

pub parts_named : (b : ℕ) (d : Formula) → T (names_ok b d) → NamesOk b (parts d)
parts_named b True t = (true_is _ t, tt)
parts_named b (Same x y) t = (true_is _ t, tt)
parts_named b (Less x y) t = (true_is _ t, tt)
parts_named b (In x y) t = (true_is _ t, tt)
parts_named b (Sub x y) t = (true_is _ t, tt)
parts_named b (Count x y) t = (true_is _ t, tt)
parts_named b (Not' p x) t = (true_is _ t, tt)
parts_named b (And' p x q y) t =
    let (l, r) = names_apart (λ n. ltb n (suc b)) (names x) (names y) t in
    names_together b (parts x) (parts y) (parts_named b x l) (parts_named b y r)
parts_named b (Or' p x q y) t = (true_is _ t, tt)
parts_named b (Implies' p x q y) t = (true_is _ t, tt)
parts_named b (Some1' x p y) t = (true_is _ t, tt)
parts_named b (All1' x p y) t = (true_is _ t, tt)
parts_named b (Some2' x p y) t = (true_is _ t, tt)
parts_named b (All2' x p y) t = (true_is _ t, tt)

-- a list that is not empty is its first item and the others
pub first_and_rest : {A : Type 0} (xs : List A) (x : A) → 1 ≤ length xs → x ≡ get_or xs 0 x → xs ≡ x ∷ take (length xs - 1) (drop 1 xs)
first_and_rest [] x h e = let z : ⊥ = omega arith in absurd z
first_and_rest (y ∷ l) x h e =
    let n : length (y ∷ l) - 1 ≡ length l = omega arith in
    let same : l ≡ take (length (y ∷ l) - 1) l = sym (ap (λ m. take m l) n ∙ take_all (length l) l (omega arith)) in
    ap (λ z. z ∷ l) (sym e) ∙ ap (λ m. x ∷ m) same

module _ (k : Keeping) where
  any_left : (ds es : List Formula) (w : Word) → BrokenAny k ds w → BrokenAny k (ds ++ es) w
  any_left [] es w h = absurd h
  any_left (d ∷ ds) es w (inl h) = inl h
  any_left (d ∷ ds) es w (inr h) = inr (any_left ds es w h)

  any_right : (ds es : List Formula) (w : Word) → BrokenAny k es w → BrokenAny k (ds ++ es) w
  any_right [] es w h = h
  any_right (d ∷ ds) es w h = inr (any_right ds es w h)

  any_apart : (ds es : List Formula) (w : Word) → BrokenAny k (ds ++ es) w → BrokenAny k ds w ⊎ BrokenAny k es w
  any_apart [] es w h = inr h
  any_apart (d ∷ ds) es w (inl h) = inl (inl h)
  any_apart (d ∷ ds) es w (inr h) = elim (any_apart ds es w h) [ inl p ↦ inl (inr p) | inr q ↦ inr q ]

  alone : (d : Formula) (w : Word) → BrokenAny k (d ∷ []) w ↔ Broken k d w
  alone d w = (λ h. elim h [ inl p ↦ p | inr n ↦ absurd n ], λ p. inl p)

  pub parts_broken : (d : Formula) → T (names_ok k.rule.now.bits d) → (w : Word) → Columns k.rule.now.bits w → BrokenAny k (parts d) w ↔ Broken k d w
  parts_broken True t w h = alone True w
  parts_broken (Same x y) t w h = alone (Same x y) w
  parts_broken (Less x y) t w h = alone (Less x y) w
  parts_broken (In x y) t w h = alone (In x y) w
  parts_broken (Sub x y) t w h = alone (Sub x y) w
  parts_broken (Count x y) t w h = alone (Count x y) w
  parts_broken (Not' p x) t w h = alone (Not' p x) w
  parts_broken (And' p x q y) t w h =
      let r = k.rule.now in
      let (l, m) = names_apart (λ n. ltb n (suc r.bits)) (names x) (names y) t in
      let both = broken_in_parts r.layout r.bits r.table.items k.start.now k.claim.value (And' p x q y) x y l (λ u. (λ e. e, λ e. e)) w h in
      let first = parts_broken x l w h in
      let second = parts_broken y m w h in (
        λ n. both.1 (elim (any_apart (parts x) (parts y) w n) [ inl e ↦ inl (first.0 e) | inr e ↦ inr (second.0 e) ]),
        λ n. elim (both.0 n) [ inl e ↦ any_left (parts x) (parts y) w (first.1 e) | inr e ↦ any_right (parts x) (parts y) w (second.1 e) ],
      )
  parts_broken (Or' p x q y) t w h = alone (Or' p x q y) w
  parts_broken (Implies' p x q y) t w h = alone (Implies' p x q y) w
  parts_broken (Some1' x p y) t w h = alone (Some1' x p y) w
  parts_broken (All1' x p y) t w h = alone (All1' x p y) w
  parts_broken (Some2' x p y) t w h = alone (Some2' x p y) w
  parts_broken (All2' x p y) t w h = alone (All2' x p y) w

  -- at one moment
  module _ (m : Moment) (w : Word) where
    at_apart : (ds es : List Formula) → BreaksAny k (ds ++ es) m w → BreaksAny k ds m w ⊎ BreaksAny k es m w
    at_apart [] es h = inr h
    at_apart (d ∷ ds) es (inl h) = inl (inl h)
    at_apart (d ∷ ds) es (inr h) = elim (at_apart ds es h) [ inl p ↦ inl (inr p) | inr q ↦ inr q ]

    at_alone : (d : Formula) → BreaksAny k (d ∷ []) m w → Breaks k d m w
    at_alone d h = elim h [ inl p ↦ p | inr n ↦ absurd n ]

  -- what one side shows, both do
  of_first : (m : Moment) (w : Word) (d x : Formula) → ((u : Word) → OfRow k.rule.now.bits d u → OfRow k.rule.now.bits x u) → Breaks k x m w → Breaks k d m w
  of_first Start w d x e h = (h.0, λ o. h.1 (e w o))
  of_first Step w d x e h = (h.0, λ o. h.1 (e (step k.rule.now.layout k.rule.now.bits k.rule.now.table.items w) o))

  pub parts_break : (m : Moment) (w : Word) (d : Formula) → BreaksAny k (parts d) m w → Breaks k d m w
  parts_break m w True h = at_alone m w True h
  parts_break m w (Same x y) h = at_alone m w (Same x y) h
  parts_break m w (Less x y) h = at_alone m w (Less x y) h
  parts_break m w (In x y) h = at_alone m w (In x y) h
  parts_break m w (Sub x y) h = at_alone m w (Sub x y) h
  parts_break m w (Count x y) h = at_alone m w (Count x y) h
  parts_break m w (Not' p x) h = at_alone m w (Not' p x) h
  parts_break m w (And' p x q y) h = elim (at_apart m w (parts x) (parts y) h) [
    | inl e ↦ of_first m w (And' p x q y) x (λ u o. o.0) (parts_break m w x e)
    | inr e ↦ of_first m w (And' p x q y) y (λ u o. o.1) (parts_break m w y e)
  ]
  parts_break m w (Or' p x q y) h = at_alone m w (Or' p x q y) h
  parts_break m w (Implies' p x q y) h = at_alone m w (Implies' p x q y) h
  parts_break m w (Some1' x p y) h = at_alone m w (Some1' x p y) h
  parts_break m w (All1' x p y) h = at_alone m w (All1' x p y) h
  parts_break m w (Some2' x p y) h = at_alone m w (Some2' x p y) h
  parts_break m w (All2' x p y) h = at_alone m w (All2' x p y) h
