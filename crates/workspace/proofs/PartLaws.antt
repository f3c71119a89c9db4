-- What is read of a claim that bytes begin with, from what is read of its parts.
use Rattle.std.proofs.Common.{◌≡◌, ℕ, ◌-◌, ◌<◌, ◌≤◌, max, Bool, false, not, ◌||◌, ◌&&◌, List, ◌∷◌, ◌++◌, [], length, take, drop, sym, ap, ◌∙◌, subst, arith, inl, inr, le→leb, lt→ltb}
use Rattle.std.proofs.lemmas.Bool.Decides.{eqb_tells}
use Rattle.std.proofs.lemmas.List.{take_rest}
use Rattle.kinds.specs.Atoms.{row_of, sets_of}
use Rattle.kinds.specs.declared.atom.Atom.{Atom}
use Rattle.claims.specs.Claims.{C, atom, not1, and1, some}
use Rattle.claims.specs.Fronts.{Front, NoFront}
use Rattle.claims.specs.Rows.{Claim, row}
use Rattle.claims.proofs.ClaimLaws.{claim_bounds}
use Rattle.claims.proofs.FrontLaws.{front_not, front_and, front_some, same_front}
use Rattle.narrowing.specs.Columns.{size}
use Rattle.narrowing.specs.Mentioned.{named, mentions, widest}
use Rattle.narrowing.proofs.ColumnsLaws.{size_same}
use Rattle.narrowing.proofs.MentionedLaws.{widest_fits}
use Rattle.selection.specs.Selections.{chosen, count}
use Rattle.selection.specs.declared.selection.Selection.{Selection}
use Rattle.workspace.specs.Extents.{Read}
use Rattle.workspace.specs.declared.part.Part.{Part}

-- how many sets a selection has, if its sets are those of m
size_is : (k : ℕ) (q : Selection) (m : ℕ → Bool) → q.of ≡ k → ((z : ℕ) → chosen q z ≡ m z) → count q ≡ size k m
size_is k q m e h = ap (λ k. size k (chosen q)) e ∙ size_same k (chosen q) m h

pub read_atom : (k : ℕ) (a : Atom) (s : List ℕ) (p : Part) → row_of a ++ p.rest.now ≡ s → sets_of a ≤ k → p.sets.of ≡ k → ((z : ℕ) → chosen p.sets z ≡ named a z) → p.widest ≡ count p.sets → Read k (atom a) s p
read_atom k a s p e l i h g = record {
  front = record { rows = e; fine = le→leb (sets_of a) k l };
  of = i;
  sets = h;
  widest = g ∙ size_is k p.sets (mentions (atom a)) i h;
}

pub read_not : (k : ℕ) (c : C) (r s : List ℕ) (p : Part) → 4 ∷ r ≡ s → Read k c r p → Read k (not1 c) s p
read_not k c r s p e f = record { front = front_not k c r s p.rest.now e f.front; of = f.of; sets = f.sets; widest = f.widest }

pub read_and : (k : ℕ) (c d : C) (r s : List ℕ) (a b p : Part) → 5 ∷ r ≡ s → Read k c r a → Read k d a.rest.now b → p.rest.now ≡ b.rest.now → p.sets.of ≡ a.sets.of → ((z : ℕ) → chosen p.sets z ≡ (chosen a.sets z || chosen b.sets z)) →
    p.widest ≡ max (count p.sets) (max a.widest b.widest) → Read k (and1 c d) s p
read_and k c d r s a b p e f g t i h w =
    let o : p.sets.of ≡ k = i ∙ f.of in
    let m : (z : ℕ) → chosen p.sets z ≡ mentions (and1 c d) z = λ z. h z ∙ ap (λ x. x || chosen b.sets z) (f.sets z) ∙ ap (λ x. mentions c z || x) (g.sets z) in
    record {
      front = subst (λ t. Front k (and1 c d) s t) (sym t) (front_and k c d r s a.rest.now b.rest.now e f.front g.front);
      of = o;
      sets = m;
      widest = w ∙ ap (λ x. max x (max a.widest b.widest)) (size_is k p.sets (mentions (and1 c d)) o m) ∙ ap (λ x. max (size k (mentions (and1 c d))) (max x b.widest)) f.widest ∙ ap (λ x. max (size k (mentions (and1 c d))) (max (widest k c) x)) g.widest;
    }

pub read_some : (k x : ℕ) (c : C) (r s : List ℕ) (a p : Part) → 6 ∷ x ∷ r ≡ s → x < k → Read k c r a → p.rest.now ≡ a.rest.now → p.sets.of ≡ a.sets.of → chosen p.sets x ≡ false → ((z : ℕ) → (z ≡ x → ⊥) → chosen p.sets z ≡ chosen a.sets z) →
    p.widest ≡ max (count p.sets) a.widest → Read k (some x c) s p
read_some k x c r s a p e l f t i gone others w =
    let o : p.sets.of ≡ k = i ∙ f.of in
    let m : (z : ℕ) → chosen p.sets z ≡ mentions (some x c) z = λ z. elim (eqb_tells z x) [
      | inl q ↦ ap (chosen p.sets) q.1 ∙ gone ∙ sym (ap (λ b. not b && mentions c z) q.0)
      | inr q ↦ others z q.1 ∙ f.sets z ∙ sym (ap (λ b. not b && mentions c z) q.0)
    ] in
    record {
      front = subst (λ t. Front k (some x c) s t) (sym t) (front_some k x c r s a.rest.now e (lt→ltb x k l) f.front);
      of = o;
      sets = m;
      widest = w ∙ ap (λ z. max z a.widest) (size_is k p.sets (mentions (some x c)) o m) ∙ ap (λ z. max (size k (mentions (some x c))) z) f.widest;
    }

-- behind the first byte of a claim stands the claim, and nothing behind it
claim_front : (s : List ℕ) (k : ℕ) (c : C) → Claim s k c → Front k c (take (length s - 1) (drop 1 s)) []
claim_front s k c y =
    let e = y.rows in
    let d : drop 1 s ≡ row c = ap (drop 1) (sym e) in
    rw (take_rest s 1) ((claim_bounds s k c y).front (drop 1 s) (cc))

-- so a claim is read there
pub is_read : (s : List ℕ) (k : ℕ) (c : C) → Claim s k c → NoFront k (take (length s - 1) (drop 1 s)) → ⊥
is_read s k c y n = n c [] (claim_front s k c y)

-- of the sets that it is about no part mentions more
pub read_claim : (s : List ℕ) (k : ℕ) (c d : C) (p : Part) → Claim s k c → Read k d (take (length s - 1) (drop 1 s)) p → (p.widest ≡ widest k c) × (p.widest ≤ k) × (k ≤ 12)
read_claim s k c d p y f =
    let e : d ≡ c = (same_front k k d c _ _ _ f.front (claim_front s k c y)).0 in
    let w : p.widest ≡ widest k c = f.widest ∙ ap (widest k) e in
    let l = widest_fits k c in
    (w, omega arith, (claim_bounds s k c y).high)
