-- What finding a set leaves in memory.
use Rattle.std.proofs.Common.{◌≡◌, ℕ, ◌<◌, List, Option, Some, None, sym, refl, ap, ◌∙◌, subst, inl, inr, arith, below_more, MatchOption}
use Rattle.bitsets.specs.Bitrows.{has, row_at, member, Below}
use Rattle.bitsets.specs.Intern.{Interned, Fresh, Again}
use Rattle.bitsets.proofs.InternLaws.{interned_kept}
use Rattle.worklist.specs.Search.{Begun, Followed, Grown}
use Rattle.project.proofs.SubsetsLaws.{start_below, step_below}
use Rattle.project.specs.Subsets.{step_of, start_of, Held, memory}
use Rattle.project.specs.declared.projection.Projection.{Projection}
use Rattle.tables.specs.Cells.{entry}

-- the start alone is found
first_interned : (sets : List ℕ) (w : ℕ) (heads links buckets : List ℕ) (r : Option ℕ) → MatchOption r (Fresh sets w 0 heads links buckets) (Again sets w 0 heads links buckets) → Interned sets w 1 heads links buckets
first_interned sets w heads links buckets None x = x.interned
first_interned sets w heads links buckets (Some j) x = let z : ⊥ = omega (arith, x.earlier) in absurd z

pub begun : (p : Projection) (most : ℕ) (sets heads links buckets sets' heads' links' buckets' : List ℕ) (r : Option ℕ) → member sets' p.w 0 ≡ start_of p → MatchOption r (Fresh sets' p.w 0 heads' links' buckets') (Again sets' p.w 0 heads' links' buckets') → Begun (memory p most sets heads links buckets) (memory p most sets' heads' links' buckets')
begun p most sets heads links buckets sets' heads' links' buckets' r e x = record {
  automaton = refl;
  room = refl;
  holds = record {
    interned = first_interned sets' p.w heads' links' buckets' r x;
    below = λ j h. (let z : j ≡ 0 = omega arith in rw (z, e) (start_below p.t.table.classes p.dead (entry p.t.table.rows.now p.t.table.width) p.x.0));
  };
  first = e;
}

module _ (p : Projection) (most : ℕ) (i a : ℕ) {sets heads links buckets : List ℕ} {m : ℕ} (y : Held p sets heads links buckets m) (sets' : List ℕ) (made : member sets' p.w m ≡ step_of p (member sets p.w i) a) (kept : (j : ℕ) → j < m → row_at sets' p.w j ≡ row_at sets p.w j) where
  same : (j : ℕ) → j < m → member sets' p.w j ≡ member sets p.w j
  same j h = ap has (kept j h)

  pub next_interned : Interned sets' p.w m heads links buckets
  next_interned = interned_kept sets sets' p.w m heads links buckets kept y.interned

  below : (j : ℕ) → j < m → Below p.t.table.classes (member sets' p.w j)
  below j h = subst (Below p.t.table.classes) (sym (same j h)) (y.below j h)

  new_below : Below p.t.table.classes (member sets' p.w m)
  new_below = subst (Below p.t.table.classes) (sym made) (step_below p.t.table.classes p.dead (entry p.t.table.rows.now p.t.table.width) p.x.0 (member sets p.w i) a)

  module _ (heads' links' buckets' : List ℕ) where
    again_holds : (n j : ℕ) → Again sets' p.w m heads' links' buckets' j → Grown m j n → Held p sets' heads' links' buckets' n
    again_holds n j x (inl h) = rw h.1 record { interned = x.interned; below = below }
    again_holds n j x (inr h) = let z : ⊥ = omega (arith, x.earlier, h.0) in absurd z

    pub followed_again : (j : ℕ) → Again sets' p.w m heads' links' buckets' j → Followed (memory p most sets heads links buckets) (memory p most sets' heads' links' buckets') m i a j
    followed_again j x = record { automaton = refl; room = refl; holds = λ n h. again_holds n j x h; kept = same; here = ap has x.same ∙ made; old_or_new = inl x.earlier }

    fresh_holds : (n : ℕ) → Fresh sets' p.w m heads' links' buckets' → Grown m m n → Held p sets' heads' links' buckets' n
    fresh_holds n x (inl h) = let z : ⊥ = omega (arith, h.0) in absurd z
    fresh_holds n x (inr h) = rw h.1 record { interned = x.interned; below = below_more _ m below new_below }

    pub followed_fresh : Fresh sets' p.w m heads' links' buckets' → Followed (memory p most sets heads links buckets) (memory p most sets' heads' links' buckets') m i a m
    followed_fresh x = record { automaton = refl; room = refl; holds = λ n h. fresh_holds n x h; kept = same; here = made; old_or_new = inr (refl, λ j h e. x.differs j h (same j h ∙ e ∙ sym made)) }
