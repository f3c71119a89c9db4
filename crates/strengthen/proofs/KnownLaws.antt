-- What is known of choices: what a row refutes, what a round leaves, and what it takes to be kept.
use Rattle.std.proofs.Common.{◌≡◌, T, ℕ, zero, suc, ◌<◌, ◌≤◌, Bool, true, false, ◌⊎◌, ◌↔◌, List, [], ◌∷◌, length, slice_index_or, refl, sym, ◌∙◌, subst, inl, inr, arith}
use Rattle.words.specs.Words.{Word, Columns}
use Rattle.formulas.specs.Names.{Among}
use Rattle.rows.specs.Rows.{step}
use Rattle.rows.specs.declared.rule.Layout.{Layout}
use Rattle.rows.specs.Rules.{Line}
use Rattle.keeping.specs.Kept.{OfRow, Starts}
use Rattle.keeping.specs.declared.moment.Moment.{Moment}
use Rattle.keeping.specs.declared.moment.Moment.TheVariants.{Start, Step}
use Rattle.keeping.proofs.KeptLaws.{after_columns}
use Rattle.keeping.proofs.SaysLaws.{decided}
use Rattle.keeping.specs.Breaches.{names_ok}
use Rattle.keeping.specs.Kept as kept
use Rattle.kept_claims.specs.Breach.{Kept, Breaks}
use Rattle.kept_claims.specs.declared.kept.Keeping.{Keeping}
use Rattle.kept_check.specs.Told.{Told}
use Rattle.kept_check.specs.declared.answer.Answer.{Answer}
use Rattle.kept_check.specs.declared.answer.Answer.TheVariants as answer
use Rattle.rule_check.specs.declared.memory.Memory.{Memory}
use Rattle.formulas.specs.declared.formula.Formula.{Formula}
use Rattle.rules.specs.declared.rule.Rule.{Rule}
use Rattle.rows.proofs.Bools.{bool_apart}
use Rattle.rules.proofs.ChangedLaws.{is_true}
use Rattle.strengthening.specs.Choices.{AllHold}
use Rattle.strengthen.specs.Follow.{Follows}
use Rattle.strengthen.specs.Known.{Begins, Without, IsJudged, judged_of, said_of}
use Rattle.strengthen.specs.Listed.{Below, Has, IsWith, KeptWith, claim_at, claims_with}
use Rattle.strengthen.specs.declared.listed.Listed.{Listed}
use Rattle.strengthen.specs.declared.follow.Followed.{Followed}
use Rattle.strengthen.specs.declared.follow.Followed.TheVariants as followed
use Rattle.strengthen.proofs.ListedLaws.{claim_names, claim_holds, chosen_all, among_below}

by : (P : Type 0) → P ⊎ (P → ⊥) → ((P → ⊥) → ⊥) → P
by P (inl p) n = p
by P (inr q) n = absurd (n q)

false_or_true : (x : Bool) → (x ≡ false) ⊎ (x ≡ true)
false_or_true false = inl refl
false_or_true true = inr refl

module _ (g : Listed) where
  -- a claim that no row of the start shows not to follow begins
  pub begins : (j : ℕ) → j ≤ length g.helpers.now → Follows g.keeping.now (claim_at g j) Start followed.Always → Begins g j
  begins j h n w c s = by (OfRow g.keeping.now.rule.now.bits (claim_at g j) w) (decided g.keeping.now.rule.now.bits (claim_at g j) (claim_names g j h) w c) (λ q. n w c (s, q))

  -- and one that a row shows not to is in no choice that is kept
  pub without : (j : ℕ) (w : Word) → Columns g.keeping.now.rule.now.bits w → Breaks g.keeping.now (claim_at g j) Start w → Without g j
  without j w c p is l m kept = p.1 (claim_holds g is w (kept.starts w c p.0) j m)

  pub said_begins : (j : ℕ) → j ≤ length g.helpers.now → (f : Followed) → Follows g.keeping.now (claim_at g j) Start f → (said_of f).0 ≡ true → Begins g j
  said_begins j h followed.Always o e = begins j h o
  said_begins j h (followed.Not r) o e = absurd (bool_apart e refl)
  said_begins j h followed.TooLarge o e = absurd (bool_apart e refl)

  pub said_left : (j : ℕ) (f : Followed) → Follows g.keeping.now (claim_at g j) Start f → (said_of f).1 ≡ false → Without g j
  said_left j followed.Always o e = absurd (bool_apart refl e)
  said_left j (followed.Not r) o e = without j r.items o.0 o.1
  said_left j followed.TooLarge o e = absurd (bool_apart refl e)

  -- all of which a choice can be hold of a row: then what does not hold of the row after is in no choice that is kept
  pub dropped : (left : List Bool) → ((j : ℕ) → j ≤ length g.helpers.now → slice_index_or left j true ≡ false → Without g j) → (choice : List ℕ) →
      ((i : ℕ) → suc i ≤ length g.helpers.now → slice_index_or left (suc i) true ≡ true → Among i choice) → (w : Word) → Columns g.keeping.now.rule.now.bits w →
      AllHold g.keeping.now.rule.now.bits (claims_with g choice) w → (j : ℕ) →
      (OfRow g.keeping.now.rule.now.bits (claim_at g j) (step g.keeping.now.rule.now.layout g.keeping.now.rule.now.bits g.keeping.now.rule.now.table.items w) → ⊥) → Without g j
  dropped left none choice all w c h j n is l m kept = n (claim_holds g is after (kept.stays w c holds) j m)
    where
      after : Word
      after = step g.keeping.now.rule.now.layout g.keeping.now.rule.now.bits g.keeping.now.rule.now.table.items w

      one : (i : ℕ) → Among i is → OfRow g.keeping.now.rule.now.bits (claim_at g (suc i)) w
      one i a =
          let below = among_below (length g.helpers.now) is l i a in
          elim (false_or_true (slice_index_or left (suc i) true)) [
            | inl e ↦ absurd (none (suc i) (omega arith) e is l a kept)
            | inr e ↦ claim_holds g choice w h (suc i) (all i (omega arith) e)
          ]

      holds : AllHold g.keeping.now.rule.now.bits (claims_with g is) w
      holds = (h.0, chosen_all g.keeping.now.rule.now.bits g.helpers.now is w one)

-- One formula of the same rule and start says that the claim holds and all that are chosen do: what is so of it is so of the choice.
module _ (g : Listed) (is : List ℕ) (k : Keeping) (w : IsWith g is k) where
  abbrev r : Rule
  r = g.keeping.now.rule.now

  abbrev after : Word → Word
  after u = step g.keeping.now.rule.now.layout g.keeping.now.rule.now.bits g.keeping.now.rule.now.table.items u

  named : T (names_ok g.keeping.now.rule.now.bits k.claim.value)
  named = subst (λ (x : Rule). T (names_ok x.bits k.claim.value)) w.of_rule (is_true _ k.names)

  -- it is kept with the choice if the claim and all that are chosen begin, and together they follow by a step
  pub kept_by_steps : ((j : ℕ) → Has is j → Begins g j) → Follows k k.claim.value Step followed.Always → KeptWith g is
  kept_by_steps b n = record {
    starts = λ u c s. (b zero tt u c s, chosen_all g.keeping.now.rule.now.bits g.helpers.now is u (λ i m. b (suc i) m u c s));
    stays = λ u c h. (w.says (after u)).0 (by (OfRow g.keeping.now.rule.now.bits k.claim.value (after u)) (decided g.keeping.now.rule.now.bits k.claim.value named (after u) (after_columns g.keeping.now.rule.now.layout g.keeping.now.rule.now.bits g.keeping.now.rule.now.table.items u)) (λ q. steps u c ((w.says u).1 h, q)));
  }
    where
      FollowsIn : Rule → Type 0
      FollowsIn x = (u : Word) → Columns x.bits u → OfRow x.bits k.claim.value u × (OfRow x.bits k.claim.value (step x.layout x.bits x.table.items u) → ⊥) → ⊥

      steps : FollowsIn g.keeping.now.rule.now
      steps = subst FollowsIn w.of_rule n

  -- it is if the formula is kept
  pub kept_whole : Kept k → KeptWith g is
  kept_whole n = record {
    starts = λ u c s. (w.says u).0 (o.starts u c s);
    stays = λ u c h. (w.says (after u)).0 (o.stays u c ((w.says u).1 h));
  }
    where
      KeptIn : Rule → List Formula → Type 0
      KeptIn x l = kept.Kept x.layout x.bits x.table.items l k.claim.value

      o : KeptIn g.keeping.now.rule.now g.keeping.now.start.now
      o = subst (λ l. KeptIn g.keeping.now.rule.now l) w.of_start (subst (λ x. KeptIn x k.start.now) w.of_rule n)

  -- and it is not if a row shows that the formula is not
  pub not_kept : (m : Moment) (u : Word) → Columns k.rule.now.bits u → Breaks k k.claim.value m u → KeptWith g is → ⊥
  not_kept m u c p = at m (subst (λ l. BreaksIn g.keeping.now.rule.now l) w.of_start (subst (λ x. BreaksIn x k.start.now) w.of_rule (c, p)))
    where
      BreaksIn : Rule → List Formula → Type 0
      BreaksIn x l = Columns x.bits u × kept.Breaks x.layout x.bits x.table.items l k.claim.value k.claim.value m u

      at : (n : Moment) → Columns g.keeping.now.rule.now.bits u × kept.Breaks g.keeping.now.rule.now.layout g.keeping.now.rule.now.bits g.keeping.now.rule.now.table.items g.keeping.now.start.now k.claim.value k.claim.value n u → KeptWith g is → ⊥
      at Start q kept = q.1.1 ((w.says u).1 (kept.starts u q.0 q.1.0))
      at Step q kept = q.1.1 ((w.says (after u)).1 (kept.stays u q.0 ((w.says u).0 q.1.0)))

  -- of a row that shows it, all that are chosen hold
  pub all_hold : (u : Word) → Columns k.rule.now.bits u → Breaks k k.claim.value Step u → Columns g.keeping.now.rule.now.bits u × AllHold g.keeping.now.rule.now.bits (claims_with g is) u
  all_hold u c p = (let q = subst (λ (x : Rule). Columns x.bits u × OfRow x.bits k.claim.value u) w.of_rule (c, p.0) in (q.0, (w.says u).0 q.1))

  pub told_judged : (y : Memory) (a : Answer) → Told k y a → IsJudged g y is (judged_of a)
  told_judged y answer.Kept t = kept_whole t.0
  told_judged y (answer.NotKept x) t = not_kept x.moment x.row.items t.first.columns t.moment
  told_judged y (answer.TooLarge x) t = record { keeping = k; is_with = w; large = t }
