-- A claim follows at a moment exactly if each of its parts does.
use Rattle.std.proofs.Common.{ℕ, suc, Bool, T, ltb, ◌⊎◌, List, [], ◌∷◌, ◌++◌, inl, inr}
use Rattle.words.specs.Words.{Word, Columns}
use Rattle.claims.proofs.FrontLaws.{both_passed, pass_both}
use Rattle.formulas.specs.declared.name.Name.{Name}
use Rattle.formulas.specs.declared.name.Name.TheVariants.{OfPlace, OfGroup}
use Rattle.formulas.specs.declared.formula.Formula.{Formula}
use Rattle.formulas.specs.declared.formula.Formula.TheVariants.{True, Same, Less, In, Sub, Count, Not', And', Or', Implies', Some1', All1', Some2', All2'}
use Rattle.formulas.specs.Names.{names}
use Rattle.rows.specs.Limits.{groups_ok}
use Rattle.rows.specs.Rows.{step}
use Rattle.keeping.specs.Breaches.{names_ok}
use Rattle.keeping.specs.Kept.{OfRow, Starts}
use Rattle.keeping.specs.declared.moment.Moment.{Moment}
use Rattle.keeping.specs.declared.moment.Moment.TheVariants.{Start, Step}
use Rattle.keeping.proofs.KeptLaws.{after_columns}
use Rattle.keeping.proofs.SaysLaws.{decided}
use Rattle.kept_claims.specs.Breach.{Breaks}
use Rattle.kept_claims.specs.declared.kept.Keeping.{Keeping}
use Rattle.kept_check.specs.Parts.{parts, BreaksAny}
use Rattle.kept_check.proofs.PartsLaws.{parts_break}
use Rattle.strengthen.specs.Follow.{FollowedOf, AllFollow, Follows}
use Rattle.strengthen.specs.declared.follow.Followed.{Followed}
use Rattle.strengthen.specs.declared.follow.Followed.TheVariants as followed

pub names_apart : (ok : ℕ → Bool) (l m : List Name) → T (groups_ok ok (l ++ m)) → T (groups_ok ok l) × T (groups_ok ok m)
names_apart ok [] m t = (tt, t)
names_apart ok (OfPlace x ∷ l) m t = absurd t
names_apart ok (OfGroup x ∷ l) m t =
    let (p, q) = both_passed (ok x) (groups_ok ok (l ++ m)) t in
    let (r, s) = names_apart ok l m q in
    (pass_both (ok x) (groups_ok ok l) p r, s)

pub names_both : (ok : ℕ → Bool) (l m : List Name) → T (groups_ok ok l) → T (groups_ok ok m) → T (groups_ok ok (l ++ m))
names_both ok [] m t s = s
names_both ok (OfPlace x ∷ l) m t s = absurd t
names_both ok (OfGroup x ∷ l) m t s = let (p, q) = both_passed (ok x) (groups_ok ok l) t in pass_both (ok x) (groups_ok ok (l ++ m)) p (names_both ok l m q s)

-- one of the formulas does not hold of the row
abbrev AnyFails : ℕ → Word → List Formula → Type 0
AnyFails b u [] = ⊥
AnyFails b u (d ∷ ds) = (OfRow b d u → ⊥) ⊎ AnyFails b u ds

module _ (b : ℕ) (u : Word) (h : Columns b u) where
  fails_left : (ds es : List Formula) → AnyFails b u ds → AnyFails b u (ds ++ es)
  fails_left [] es n = absurd n
  fails_left (d ∷ ds) es (inl n) = inl n
  fails_left (d ∷ ds) es (inr n) = inr (fails_left ds es n)

  fails_right : (ds es : List Formula) → AnyFails b u es → AnyFails b u (ds ++ es)
  fails_right [] es n = n
  fails_right (d ∷ ds) es n = inr (fails_right ds es n)

  part_fails : (d : Formula) → T (names_ok b d) → (OfRow b d u → ⊥) → AnyFails b u (parts d)
  part_fails True t n = inl n
  part_fails (Same x y) t n = inl n
  part_fails (Less x y) t n = inl n
  part_fails (In x y) t n = inl n
  part_fails (Sub x y) t n = inl n
  part_fails (Count x y) t n = inl n
  part_fails (Not' p x) t n = inl n
  part_fails (And' p x q y) t n =
      let (l, r) = names_apart (λ z. ltb z (suc b)) (names x) (names y) t in
      elim (decided b x l u h) [
        | inl o ↦ fails_right (parts x) (parts y) (part_fails y r (λ m. n (o, m)))
        | inr o ↦ fails_left (parts x) (parts y) (part_fails x l o)
      ]
  part_fails (Or' p x q y) t n = inl n
  part_fails (Implies' p x q y) t n = inl n
  part_fails (Some1' x p y) t n = inl n
  part_fails (All1' x p y) t n = inl n
  part_fails (Some2' x p y) t n = inl n
  part_fails (All2' x p y) t n = inl n

module _ (k : Keeping) where
  abbrev b : ℕ
  b = k.rule.now.bits

  abbrev after : Word → Word
  after w = step k.rule.now.layout k.rule.now.bits k.rule.now.table.items w

  start_any : (w : Word) → Starts k.rule.now.bits k.start.now w → (ds : List Formula) → AnyFails k.rule.now.bits w ds → BreaksAny k ds Start w
  start_any w s [] n = n
  start_any w s (d ∷ ds) (inl n) = inl (s, n)
  start_any w s (d ∷ ds) (inr n) = inr (start_any w s ds n)

  step_any : (w : Word) → OfRow k.rule.now.bits k.claim.value w → (ds : List Formula) → AnyFails k.rule.now.bits (step k.rule.now.layout k.rule.now.bits k.rule.now.table.items w) ds → BreaksAny k ds Step w
  step_any w o [] n = n
  step_any w o (d ∷ ds) (inl n) = inl (o, n)
  step_any w o (d ∷ ds) (inr n) = inr (step_any w o ds n)

  -- where a row shows that a claim does not follow, it shows so of a part of it
  part_breaks : (d : Formula) → T (names_ok k.rule.now.bits d) → (m : Moment) (w : Word) → Columns k.rule.now.bits w → Breaks k d m w → BreaksAny k (parts d) m w
  part_breaks d t Start w h p = start_any w p.0 (parts d) (part_fails k.rule.now.bits w h d t p.1)
  part_breaks d t Step w h p = step_any w p.0 (parts d) (part_fails k.rule.now.bits (after w) (after_columns k.rule.now.layout k.rule.now.bits k.rule.now.table.items w) d t p.1)

  pub by_parts : (d : Formula) → T (names_ok k.rule.now.bits d) → (m : Moment) (f : Followed) → AllFollow k (parts d) m f → Follows k d m f
  by_parts d t m followed.Always n = λ w h p. n w h (part_breaks d t m w h p)
  by_parts d t m (followed.Not r) p = (p.0, parts_break k m r.items d p.1)
  by_parts d t m followed.TooLarge p = tt

  -- the first part follows, and what is found of the others
  pub first_follows : (d : Formula) (ds : List Formula) (m : Moment) → ((w : Word) → Columns k.rule.now.bits w → Breaks k d m w → ⊥) → (f : Followed) → AllFollow k ds m f → AllFollow k (d ∷ ds) m f
  first_follows d ds m n followed.Always o = λ w h p. elim p [ inl q ↦ n w h q | inr q ↦ o w h q ]
  first_follows d ds m n (followed.Not r) p = (p.0, inr p.1)
  first_follows d ds m n followed.TooLarge p = tt
