-- Working a part out, by its sign: what is made of the results of its parts.
use Rattle.std.proofs.Common.{◌≡◌, ℕ, ◌^◌, ◌<◌, Bool, not, List, [], None, Some, Option, sym, ap, ◌∙◌, subst, ⊎_elim, ◌≤◌}
use Rattle.claims.specs.Claims.{C, and1, atom, not1}
use Rattle.claims.specs.Fronts.{Front}
use Rattle.claims.specs.Sizes.{Fits}
use Rattle.kinds.specs.declared.atom.Atom.{Atom}
use Rattle.claims.proofs.FrontLaws.{same_front}
use Rattle.atoms.specs.AtomTable.{Exact as ExactTable}
use Rattle.automata.proofs.Working.{shown_not, worked_not}
use Rattle.narrowing.specs.Columns.{size}
use Rattle.narrowing.specs.Mentioned.{named}
use Rattle.narrowing.specs.Wide.{wide}
use Rattle.narrowing.proofs.ColumnsLaws.{size_same}
use Rattle.selection.specs.Selections.{chosen, count}
use Rattle.selection.specs.declared.selection.Selection.{Selection}
use Rattle.tables.specs.Cells.{accepts, entry}
use Rattle.tables.specs.declared.sheet.Sheet.{Sheet}
use Rattle.construct.specs.declared.wanted.Wanted.{Wanted}
use Rattle.construct.specs.declared.wanted.Wanted.TheVariants.{Exact, Any}
use Rattle.construct.specs.declared.part.Part.{Part}
use Rattle.construct.specs.Stands.{Meets, Result, Stands}
use Rattle.construct.specs.WorkOut.{Halves, WorkedOut}
use Rattle.construct.proofs.StandsLaws.{out_of, result_swap, stands_wanted}

-- The bytes are no claim that fits: so it is where a part of the claim does not.
abbrev pub Unfit : ℕ → ℕ → List ℕ → Type 0
Unfit k n b = (c : C) → Front k c b [] → Fits k n c → ⊥

pub part_unfit : (k n : ℕ) (c d : C) (b p : List ℕ) → Front k c b [] → Front k d p [] → (Fits k n c → Fits k n d) → Unfit k n p → Unfit k n b
part_unfit k n c d b p f g h y e i t = y d g (h (subst (Fits k n) (sym (same_front k k c e b [] [] f i).0) t))

-- A claim without parts.
pub few_sets : (sets : Selection) (k : ℕ) (a : Atom) (v : ℕ) → sets.of ≡ k → ((z : ℕ) → chosen sets z ≡ named a z) → size k (named a) ≤ v → count sets ≤ v
few_sets sets k a v e m l = subst (λ n. n ≤ v) (sym (size_same k (chosen sets) (named a) m) ∙ ap (λ i. size i (chosen sets)) (sym e)) l

pub leaf_held : (k : ℕ) (s u : Sheet) (a : Atom) (sets : Selection) (m : ℕ) → sets.of ≡ k → ((z : ℕ) → chosen sets z ≡ named a z) → count sets ≤ s.shape.sets → ExactTable sets s u (atom a) m → Result Exact k s u (atom a) (Some record { sets = sets; classes = m })
leaf_held k s u a sets m of named narrow y = (
  y.shape,
  record { few = rw y.shape y.few; of = of; mentioned = named; narrow = rw y.shape narrow; meets = rw y.shape y.worked },
)

pub leaf_out : (wanted : Wanted) (k : ℕ) (a : Atom) (b : List ℕ) (s u : Sheet) (r : Option Part) → Front k (atom a) b [] → Result Exact k s u (atom a) r → WorkedOut wanted k b s u r
leaf_out wanted k a b s u None f y = out_of wanted k (atom a) b s u None f y
leaf_out wanted k a b s u (Some p) f y = out_of wanted k (atom a) b s u (Some p) f (y.0, stands_wanted wanted k u (atom a) p y.1)

-- Not: the same table, with what accepts turned.
not_meets : (wanted : Wanted) (k n : ℕ) (d : C) (m : ℕ) (δ : ℕ → ℕ → ℕ) (f g : ℕ → Bool) → Meets wanted k n d m δ f → ((q : ℕ) → q < m → g q ≡ not (f q)) → Meets wanted k n (not1 d) m δ g
not_meets Exact k n d m δ f g t e = worked_not k n d m δ f g t e
not_meets Any k n d m δ f g t e = shown_not k n d m δ f g t e

pub not_result : (wanted : Wanted) (k : ℕ) (s t u : Sheet) (d : C) (p : Part) → (t.shape ≡ s.shape) × Stands wanted k t d p → u.shape ≡ t.shape → u.rows.now ≡ t.rows.now → ((q : ℕ) → q < p.classes → accepts u.accept.now q ≡ not (accepts t.accept.now q)) → Result wanted k s u (not1 d) (Some p)
not_result wanted k s t u d p x h r e = (
  h ∙ x.0,
  record {
    few = rw h x.1.few;
    of = x.1.of;
    mentioned = x.1.mentioned;
    narrow = rw h x.1.narrow;
    meets = rw (h, r) (not_meets wanted p.sets.of t.shape.most d p.classes (wide p.sets.of (chosen p.sets) (entry t.rows.now (2 ^ count p.sets))) (accepts t.accept.now) (accepts u.accept.now) x.1.meets e);
  },
)

-- And: both parts, in either order.
module _ (k : ℕ) (s u : Sheet) (b longer shorter : List ℕ) (h : Halves k b longer shorter) where
  pub and_out : (wanted : Wanted) (r : Option Part) → Result wanted k s u (and1 h.one h.other) r → WorkedOut wanted k b s u r
  and_out wanted r y = ⊎_elim (λ f. out_of wanted k (and1 h.one h.other) b s u r f y) (λ f. out_of wanted k (and1 h.other h.one) b s u r f (result_swap wanted k s u h.one h.other r y)) h.either

  pub longer_unfit : Unfit k s.shape.most longer → Unfit k s.shape.most b
  longer_unfit y = and_out Exact None (λ t. y h.one h.long t.0)

  pub shorter_unfit : Unfit k s.shape.most shorter → Unfit k s.shape.most b
  shorter_unfit y = and_out Exact None (λ t. y h.other h.short t.1)
