-- What an expression's loops keep, and what a list of expressions is as part of a tree.
use Rattle.std.proofs.Common.{ℕ, zero, suc, ◌-◌, ◌<◌, ◌≡◌, max, List, [], ◌∷◌, ◌++◌, true, false, Some, None, Result, Ok, Err, refl, sym, ap, ◌∙◌, arith, string_bytes, Vec, Global}
use mathlib.Core.Former.{Count}
use Rattle.trees.specs.declared.tree.Name.{Name}
use Rattle.trees.specs.declared.tree.Binary.{Binary}
use Rattle.trees.specs.Tree.{Expr}
use Rattle.trees.specs.declared.tree.ExprKind.{ExprKind, Listed, Listed', Call, Call', Row_of-ExprKind-Listed-0-2 as Exprs, end_of-ExprKind-Listed-0-2 as end, more_of-ExprKind-Listed-0-2 as more_of, items-the_row-ExprKind-Listed-0-2 as items_of, items_hidden-the_row-ExprKind-Listed-0-2-0 as items_hidden}
use Rattle.syntax.specs.declared.fault.Fault.{Fault}
use Rattle.syntax.specs.declared.fault.Fault.TheVariants.{Expected, Byte, LargeNumber, Deep, Memory}
use Rattle.tokens.specs.declared.kind.Kind.{Kind}
use Rattle.tokens.specs.declared.kind.Kind.TheVariants as kind
use Rattle.tokens.specs.Words.{Word}
use Rattle.syntax.specs.Plain.{Plain, joined, listed, call, Plains, none, more}
use Rattle.syntax.specs.Parsing.{Stop, Reader, ◌>>=◌, right_of, operator, begins, tail, behind, within, operand, climb, parse, more_items, items, up_to, push, depth, depths}
use Rattle.syntax.specs.Views.{Fails, view, views, view_all}

views_are : (n : _) (row : Exprs n) → views row ≡ view_all (items_of n row)
views_are n end = refl
views_are n (more_of x _ rest) = ap (more (view x)) (views_are _ rest)

abbrev row_of : ExprKind → (n : Count) × Exprs n
row_of (Listed' shape row) = (_, row)
row_of (Call' f shape row) = (_, row)
row_of _ = (_, end)

pub listed_view : (all : Vec Expr Global) → view (Listed all) ≡ listed (view_all all.items)
listed_view all =
    let row = row_of (Listed all) in
    ap listed (views_are row.0 row.1 ∙ ap view_all (items_hidden all))

pub call_view : (f : Name) (all : Vec Expr Global) → view (Call f all) ≡ call (string_bytes f.text) (view_all all.items)
call_view f all =
    let row = row_of (Call f all) in
    ap (call (string_bytes f.text)) (views_are row.0 row.1 ∙ ap view_all (items_hidden all))

pub view_push : (xs : List Expr) (x : Expr) → view_all (xs ++ x ∷ []) ≡ push (view_all xs) (view x.kind)
view_push [] x = refl
view_push (y ∷ xs) x = ap (more (view y.kind)) (view_push xs x)

pub depths_push : (ts : Plains) (t : Plain) → depths (push ts t) ≡ max (depths ts) (depth t)
depths_push none t = omega arith
depths_push (more s ts) t = let h = depths_push ts t in omega (arith, h)

-- where a part fails and the whole then fails so, the fault is the whole's
pub fails_on : {Y Z : Type 0} (e : Fault) (r : Result Y Stop) (z : Result Z Stop) → Fails e r → ((s : Stop) → r ≡ Err s → z ≡ Err s) → Fails e z
fails_on (Expected w p) r z h f = f _ h
fails_on (Byte p) r z h f = h
fails_on (LargeNumber p) r z h f = f _ h
fails_on (Deep p) r z h f = f _ h
fails_on Memory r z h f = tt

pub parse_open : (n calls m : ℕ) (ws : List Word) → 0 < calls → parse n calls m ws ≡ (operand (parse n (calls - 1)) n ws >>= λ t. climb (parse n (calls - 1)) n m t.0 t.1)
parse_open n zero m ws lt = absurd (omega (arith, lt))
parse_open n (suc c) m ws lt = let e : suc c - 1 ≡ c = omega arith in rw e refl

pub opened : (n calls m : ℕ) (ws : List Word) (t : Plain) (rest : List Word) → 0 < calls → operand (parse n (calls - 1)) n ws ≡ Ok (t, rest) → parse n calls m ws ≡ climb (parse n (calls - 1)) n m t rest
opened n calls m ws t rest lt e = parse_open n calls m ws lt ∙ rw e refl

pub opened_fails : (n calls m : ℕ) (ws : List Word) (s : Stop) → 0 < calls → operand (parse n (calls - 1)) n ws ≡ Err s → parse n calls m ws ≡ Err s
opened_fails n calls m ws s lt e = parse_open n calls m ws lt ∙ rw e refl

-- one operator more
pub next_operator : (p : Reader) (k m r : ℕ) (b : Binary) (left right t : Plain) (ws behind rest : List Word) → 0 < k → operator m ws ≡ Some b → behind ≡ tail ws → r ≡ right_of b → p r behind ≡ Ok (right, rest) → within (joined b left right) ≡ Ok t → (j : ℕ) × (k ≡ suc j) × (climb p k m left ws ≡ climb p j m t rest)
next_operator p zero m r b left right t ws behind rest lt o bt l e w = absurd (omega (arith, lt))
next_operator p (suc k) m r b left right t ws behind rest lt o bt l e w = (k, refl, rw o (rw (sym bt) (rw (sym l) (rw e (rw w refl)))))

-- what stands right of it fails
pub right_fails : (p : Reader) (k m r : ℕ) (b : Binary) (left : Plain) (ws behind : List Word) (s : Stop) → 0 < k → operator m ws ≡ Some b → behind ≡ tail ws → r ≡ right_of b → p r behind ≡ Err s → climb p k m left ws ≡ Err s
right_fails p zero m r b left ws behind s lt o bt l e = absurd (omega (arith, lt))
right_fails p (suc k) m r b left ws behind s lt o bt l e = rw o (rw (sym bt) (rw (sym l) (rw e refl)))

pub join_fails : (p : Reader) (k m r : ℕ) (b : Binary) (left right : Plain) (ws behind rest : List Word) (s : Stop) → 0 < k → operator m ws ≡ Some b → behind ≡ tail ws → r ≡ right_of b → p r behind ≡ Ok (right, rest) → within (joined b left right) ≡ Err s → climb p k m left ws ≡ Err s
join_fails p zero m r b left right ws behind rest s lt o bt l e w = absurd (omega (arith, lt))
join_fails p (suc k) m r b left right ws behind rest s lt o bt l e w = rw o (rw (sym bt) (rw (sym l) (rw e (rw w refl))))

pub no_operator : (p : Reader) (k m : ℕ) (left : Plain) (ws : List Word) → operator m ws ≡ None → climb p k m left ws ≡ Ok (left, ws)
no_operator p zero m left ws o = refl
no_operator p (suc k) m left ws o = rw o refl

pub first_item : (p : Reader) (n : ℕ) (k : Kind) (ws rest : List Word) (t : Plain) (acc : Plains) → p 0 ws ≡ Ok (t, rest) → acc ≡ more t none → items p n k ws ≡ up_to k (more_items p n acc rest)
first_item p n k ws rest t acc e a = rw e (rw a refl)

pub next_item : (p : Reader) (k : ℕ) (acc longer : Plains) (ws behind rest : List Word) (t : Plain) → 0 < k → begins kind.Comma ws ≡ true → behind ≡ tail ws → p 0 behind ≡ Ok (t, rest) → longer ≡ push acc t → (j : ℕ) × (k ≡ suc j) × (more_items p k acc ws ≡ more_items p j longer rest)
next_item p zero acc longer ws behind rest t lt b bt e a = absurd (omega (arith, lt))
next_item p (suc k) acc longer ws behind rest t lt b bt e a = (k, refl, rw b (rw (sym bt) (rw e (rw a refl))))

pub item_fails : (p : Reader) (k : ℕ) (acc : Plains) (ws behind : List Word) (s : Stop) → 0 < k → begins kind.Comma ws ≡ true → behind ≡ tail ws → p 0 behind ≡ Err s → more_items p k acc ws ≡ Err s
item_fails p zero acc ws behind s lt b bt e = absurd (omega (arith, lt))
item_fails p (suc k) acc ws behind s lt b bt e = rw b (rw (sym bt) (rw e refl))

pub no_item : (p : Reader) (k : ℕ) (acc : Plains) (ws : List Word) → begins kind.Comma ws ≡ false → more_items p k acc ws ≡ Ok (acc, ws)
no_item p zero acc ws b = refl
no_item p (suc k) acc ws b = rw b refl

pub closed_fails : (k : Kind) (ts : Plains) (ws : List Word) (s : Stop) → behind k ws ≡ Err s → up_to k (Ok (ts, ws)) ≡ Err s
closed_fails k ts ws s e = rw e refl

pub closed : (k : Kind) (ts : Plains) (ws rest : List Word) → behind k ws ≡ Ok rest → up_to k (Ok (ts, ws)) ≡ Ok (ts, rest)
closed k ts ws rest e = rw e refl
