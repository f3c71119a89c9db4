-- What is kept holds at every time; it is kept, or a row shows that it is not; and of two claims together it shows it of one.
use Rattle.std.proofs.Common.{ℕ, zero, suc, ◌⊎◌, List, sym, subst, inl, inr}
use Rattle.words.specs.Words.{Word, Columns}
use Rattle.rows.specs.declared.rule.Layout.{Layout}
use Rattle.rows.specs.Rules.{Line}
use Rattle.rows.specs.Rows.{before_first, behind_last, step}
use Rattle.rows.proofs.StepLaws.{step_columns}
use Rattle.keeping.specs.Kept.{OfRow, Kept, Broken}
use Rattle.keeping.specs.Laws.{AtEveryTime, KeptOrBroken, BrokenInParts}
use Rattle.keeping.proofs.SaysLaws.{decided}

-- the row after has columns of so many bits as well
pub after_columns : (s : Layout) (b : ℕ) (R : List Line) (w : Word) → Columns b (step s b R w)
after_columns s b R w = step_columns b R (before_first s w) w (behind_last s w)

pub at_every_time : AtEveryTime
at_every_time s b R start c kept rows run h begins t = (go t).1
  where
    go : (t : ℕ) → Columns b (rows t) × OfRow b c (rows t)
    go zero = (h, kept.starts (rows 0) h begins)
    go (suc t) =
        let (columns, holds) = go t in
        let e = sym (run t) in
        (subst (Columns b) e (after_columns s b R (rows t)), subst (OfRow b c) e (kept.stays (rows t) columns holds))

pub kept_or_broken : KeptOrBroken
kept_or_broken s b R start c t = (to, from)
  where
    to : Kept s b R start c → (w : Word) → Columns b w → Broken s b R start c c w → ⊥
    to k w h (inl p) = p.1 (k.starts w h p.0)
    to k w h (inr p) = p.1 (k.stays w h p.0)

    by : (P : Type 0) → P ⊎ (P → ⊥) → ((P → ⊥) → ⊥) → P
    by P (inl p) n = p
    by P (inr q) n = absurd (n q)

    from : ((w : Word) → Columns b w → Broken s b R start c c w → ⊥) → Kept s b R start c
    from n = record {
      starts = λ w h p. by (OfRow b c w) (decided b c t w h) (λ q. n w h (inl (p, q)));
      stays = λ w h p. by (OfRow b c (step s b R w)) (decided b c t (step s b R w) (after_columns s b R w)) (λ q. n w h (inr (p, q)));
    }

pub broken_in_parts : BrokenInParts
broken_in_parts s b R start c d e f t both w h = (to, from)
  where
    -- where both do not hold, the first does not or the second does not
    one : (u : Word) → Columns b u → (OfRow b d u → ⊥) → (OfRow b e u → ⊥) ⊎ (OfRow b f u → ⊥)
    one u k n = elim (decided b e t u k) [ inl p ↦ inr (λ q. n ((both u).1 (p, q))) | inr p ↦ inl p ]

    to : Broken s b R start c d w → Broken s b R start c e w ⊎ Broken s b R start c f w
    to (inl p) = elim (one w h p.1) [ inl q ↦ inl (inl (p.0, q)) | inr q ↦ inr (inl (p.0, q)) ]
    to (inr p) = elim (one (step s b R w) (after_columns s b R w) p.1) [ inl q ↦ inl (inr (p.0, q)) | inr q ↦ inr (inr (p.0, q)) ]

    from : Broken s b R start c e w ⊎ Broken s b R start c f w → Broken s b R start c d w
    from (inl (inl p)) = inl (p.0, λ q. p.1 ((both w).0 q).0)
    from (inl (inr p)) = inr (p.0, λ q. p.1 ((both (step s b R w)).0 q).0)
    from (inr (inl p)) = inl (p.0, λ q. p.1 ((both w).0 q).1)
    from (inr (inr p)) = inr (p.0, λ q. p.1 ((both (step s b R w)).0 q).1)
