-- From what is found of a claim's parts, by which no row shows that it is not kept or which row does so first, to the claim.
use Rattle.words.specs.Words.{Word, Columns}
use Rattle.rows.specs.RowClaims.{First as FirstRow}
use Rattle.keeping.specs.declared.moment.Moment.{Moment}
use Rattle.keeping.proofs.KeptLaws.{at_every_time, kept_or_broken}
use Rattle.rules.proofs.ChangedLaws.{is_true}
use Rattle.kept_claims.specs.Breach.{Kept, Breaks, Broken}
use Rattle.kept_claims.specs.declared.kept.Keeping.{Keeping}
use Rattle.kept_check.specs.Parts.{parts, BrokenAny, BreaksAny}
use Rattle.kept_check.specs.Told.{AlwaysHolds}
use Rattle.kept_check.proofs.PartsLaws.{parts_broken, parts_break}

module _ (k : Keeping) where
  pub none_broken : ((w : Word) → Columns k.rule.now.bits w → BrokenAny k (parts k.claim.value) w → ⊥) → (w : Word) → Columns k.rule.now.bits w → Broken k k.claim.value w → ⊥
  none_broken n w h b = n w h ((parts_broken k k.claim.value (is_true _ k.names) w h).1 b)

  pub first_broken : (w : Word) → FirstRow k.rule.now.bits (BrokenAny k (parts k.claim.value)) w → FirstRow k.rule.now.bits (Broken k k.claim.value) w
  first_broken w f = record {
    columns = f.columns;
    holds = (parts_broken k k.claim.value (is_true _ k.names) w f.columns).0 f.holds;
    first = λ u h l b. f.first u h l ((parts_broken k k.claim.value (is_true _ k.names) u h).1 b);
  }

  pub first_moment : (m : Moment) (w : Word) → BreaksAny k (parts k.claim.value) m w → Breaks k k.claim.value m w
  first_moment m w h = parts_break k m w k.claim.value h

  -- where no row shows that it is not kept, it is, and so it holds at every time
  pub kept : ((w : Word) → Columns k.rule.now.bits w → Broken k k.claim.value w → ⊥) → Kept k × AlwaysHolds k
  kept n =
      let r = k.rule.now in
      let is = (kept_or_broken r.layout r.bits r.table.items k.start.now k.claim.value (is_true _ k.names)).1 n in
      (is, at_every_time r.layout r.bits r.table.items k.start.now k.claim.value is)
