-- What is asked, item by item.
use Rattle.std.proofs.Common.{◌≡◌, ℕ, suc, ◌<◌, ◌↔◌, is_some, List, [], ◌∷◌, ◌++◌, length, refl, sym, subst, ap, ◌∙◌, append_assoc, arith}
use Rattle.std.proofs.lemmas.List.{map-append, append-nil}
use Rattle.formulas.specs.Meaning.{Env, Meaning}
use Rattle.trees.specs.declared.tree.Name.{Name}
use Rattle.trees.specs.Tree.{Expr}
use Rattle.trees.specs.declared.tree.Item.{Item}
use Rattle.trees.specs.declared.tree.Item.TheVariants.{Free as Declares, Row, Predicate as defined, Assert, Formula}
use Rattle.resolve.specs.Spaces.{bounds}
use Rattle.resolve.specs.Says.{Context, nothing, holds, define, declare, in_row, count, text_from}
use Rattle.resolve.specs.declared.scope.Free.{Free}
use Rattle.resolve.specs.declared.scope.Kind.{Kind}
use Rattle.resolve.specs.declared.asked.Stated.{Stated}
use Rattle.resolve.specs.declared.asked.Asked.{Asked}
use Rattle.resolve.specs.Asks.{free, declared, all_hold, Renders, Written, Asks, AsksMore}
use Rattle.resolve.proofs.Iff.{iff_and}

pub all_hold_more : (l : List Stated) (s : Stated) (e : Env) → all_hold (l ++ (s ∷ [])) e ↔ (all_hold l e × Meaning s.formula.value e)
all_hold_more [] s e = (λ h. (tt, h.0), λ h. (h.1, tt))
all_hold_more (t ∷ l) s e =
    let rest = all_hold_more l s e in
    (λ h. ((h.0, (rest.0 h.1).0), (rest.0 h.1).1), λ h. (h.0.0, rest.1 (h.0.1, h.1)))

pub nothing_more : (old : Asked) (items : List Item) (n : ℕ) (s : Env → Context) → length items < 1 → AsksMore old old (declared items) (λ l m. Written items n s l m)
nothing_more old [] n s le = record {
  names = sym (append-nil (free old.free.items));
  assumed = [];
  claimed = [];
  with_assumed = sym (append-nil old.assumed.items);
  with_claimed = sym (append-nil old.claimed.items);
  written = (refl, refl);
}
nothing_more old (item ∷ items) n s le = absurd (omega arith)

-- one assumption more, then the rest
pub assumed_more : (old mid new : Asked) (more : List (Name × Kind)) (items : List Item) (n : ℕ) (s : Env → Context) (x : Stated) (a : Expr) →
    mid.free.items ≡ old.free.items → mid.assumed.items ≡ old.assumed.items ++ (x ∷ []) → mid.claimed.items ≡ old.claimed.items → Renders x a s →
    AsksMore mid new more (λ l m. Written items n s l m) → AsksMore old new more (λ l m. Written (Assert a ∷ items) n s l m)
assumed_more old mid new more items n s x a f p q r m = record {
  names = m.names ∙ ap (λ l. free l ++ more) f;
  assumed = x ∷ m.assumed;
  claimed = m.claimed;
  with_assumed = m.with_assumed ∙ ap (λ l. l ++ m.assumed) p ∙ append_assoc old.assumed.items (x ∷ []) m.assumed;
  with_claimed = m.with_claimed ∙ ap (λ l. l ++ m.claimed) q;
  written = (r, m.written);
}

pub claimed_more : (old mid new : Asked) (more : List (Name × Kind)) (items : List Item) (n : ℕ) (s : Env → Context) (x : Stated) (a : Expr) →
    mid.free.items ≡ old.free.items → mid.claimed.items ≡ old.claimed.items ++ (x ∷ []) → mid.assumed.items ≡ old.assumed.items → Renders x a s →
    AsksMore mid new more (λ l m. Written items n s l m) → AsksMore old new more (λ l m. Written (Formula a ∷ items) n s l m)
claimed_more old mid new more items n s x a f p q r m = record {
  names = m.names ∙ ap (λ l. free l ++ more) f;
  assumed = m.assumed;
  claimed = x ∷ m.claimed;
  with_assumed = m.with_assumed ∙ ap (λ l. l ++ m.assumed) q;
  with_claimed = m.with_claimed ∙ ap (λ l. l ++ m.claimed) p ∙ append_assoc old.claimed.items (x ∷ []) m.claimed;
  written = (r, m.written);
}

-- one name more, then the rest
pub name_more : (old mid new : Asked) (more : List (Name × Kind)) (rest : List Stated → List Stated → Type 0) (x : Free) →
    mid.free.items ≡ old.free.items ++ (x ∷ []) → mid.assumed.items ≡ old.assumed.items → mid.claimed.items ≡ old.claimed.items →
    AsksMore mid new more rest → AsksMore old new ((x.name.now, x.kind) ∷ more) rest
name_more old mid new more rest x f a c m = record {
  names = m.names ∙ ap (λ l. free l ++ more) f ∙ ap (λ l. l ++ more) (map-append (λ (y : Free). (y.name.now, y.kind)) old.free.items (x ∷ [])) ∙ append_assoc (free old.free.items) ((x.name.now, x.kind) ∷ []) more;
  assumed = m.assumed;
  claimed = m.claimed;
  with_assumed = m.with_assumed ∙ ap (λ l. l ++ m.assumed) a;
  with_claimed = m.with_claimed ∙ ap (λ l. l ++ m.claimed) c;
  written = m.written;
}

pub rest_same : (old new : Asked) (more : List (Name × Kind)) (r t : List Stated → List Stated → Type 0) → ((l m : List Stated) → r l m → t l m) → AsksMore old new more r → AsksMore old new more t
rest_same old new more r t is m = record {
  names = m.names;
  assumed = m.assumed;
  claimed = m.claimed;
  with_assumed = m.with_assumed;
  with_claimed = m.with_claimed;
  written = is m.assumed m.claimed m.written;
}

renders_where : (x : Stated) (a : Expr) (s t : Env → Context) → ((e : Env) → s e ≡ t e) → Renders x a s → Renders x a t
renders_where x a s t is r = record {
  expr = r.expr;
  means = λ e. subst (λ c. Meaning x.formula.value e ↔ holds a.kind c) (is e) (r.means e);
  row = λ e. sym (ap (λ c. is_some (bounds c.space)) (is e)) ∙ r.row e;
}

written_where : (items : List Item) (n : ℕ) (s t : Env → Context) (l m : List Stated) → ((e : Env) → s e ≡ t e) → Written items n s l m → Written items n t l m
written_where [] n s t l m is w = w
written_where (Declares sort names ∷ items) n s t l m is w = written_where items (count n names.items) _ _ l m (λ e. ap (λ c. declare sort names.items n e c) (is e)) w
written_where (Row r ∷ items) n s t l m is w = written_where items (suc n) _ _ l m (λ e. ap (λ c. in_row r n e c) (is e)) w
written_where (defined p ∷ items) n s t l m is w = written_where items n _ _ l m (λ e. ap (λ c. define p c) (is e)) w
written_where (Assert a ∷ items) n s t [] m is w = w
written_where (Assert a ∷ items) n s t (x ∷ l) m is w = (renders_where x a s t is w.0, written_where items n s t l m is w.1)
written_where (Formula a ∷ items) n s t l [] is w = w
written_where (Formula a ∷ items) n s t l (x ∷ m) is w = (renders_where x a s t is w.0, written_where items n s t l m is w.1)

-- the same is written where the names stand for the same and the count is the same
pub written_same : (items : List Item) (j n : ℕ) (s t : Env → Context) → j ≡ n → ((e : Env) → s e ≡ t e) → (l m : List Stated) → Written items j s l m → Written items n t l m
written_same items j n s t e is l m w = written_where items n s t l m is (subst (λ k. Written items k s l m) e w)

-- what is written is true of exactly the places and sets of which the text is
pub written_holds : (items : List Item) (n : ℕ) (s : Env → Context) (l m : List Stated) → Written items n s l m → (e : Env) →
    (all_hold l e ↔ (text_from items n e (s e)).assumed) × (all_hold m e ↔ (text_from items n e (s e)).claimed)
written_holds [] n s l m w e = ((λ h. tt, λ h. subst (λ k. all_hold k e) (sym w.0) tt), (λ h. tt, λ h. subst (λ k. all_hold k e) (sym w.1) tt))
written_holds (Declares sort names ∷ items) n s l m w e = written_holds items (count n names.items) _ l m w e
written_holds (Row r ∷ items) n s l m w e = written_holds items (suc n) _ l m w e
written_holds (defined p ∷ items) n s l m w e = written_holds items n _ l m w e
written_holds (Assert a ∷ items) n s [] m w e = absurd w
written_holds (Assert a ∷ items) n s (x ∷ l) m w e = let rest = written_holds items n s l m w.1 e in (iff_and (w.0.means e) rest.0, rest.1)
written_holds (Formula a ∷ items) n s l [] w e = absurd w
written_holds (Formula a ∷ items) n s l (x ∷ m) w e = let rest = written_holds items n s l m w.1 e in (rest.0, iff_and (w.0.means e) rest.1)

-- a whole text
pub all_asked : (old new : Asked) (items : List Item) → old.free.items ≡ [] → old.assumed.items ≡ [] → old.claimed.items ≡ [] →
    AsksMore old new (declared items) (λ l m. Written items 0 (λ e. nothing) l m) → Asks items new
all_asked old new items f a c m =
    let assumed = m.with_assumed ∙ ap (λ l. l ++ m.assumed) a in
    let claimed = m.with_claimed ∙ ap (λ l. l ++ m.claimed) c in
    let written = subst (λ l. Written items 0 (λ e. nothing) l new.claimed.items) (sym assumed) (subst (λ l. Written items 0 (λ e. nothing) m.assumed l) (sym claimed) m.written) in
    record {
      names = m.names ∙ ap (λ l. free l ++ declared items) f;
      written = written;
      assumed = λ e. (written_holds items 0 (λ e. nothing) new.assumed.items new.claimed.items written e).0;
      claimed = λ e. (written_holds items 0 (λ e. nothing) new.assumed.items new.claimed.items written e).1;
    }
