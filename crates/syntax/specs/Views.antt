-- What the contracts of reading see of the code's values: trees without places, and what a fault says of reading.
use Rattle.std.specs.Prelude.{ℕ, ◌≡◌, List, [], ◌∷◌, map, Result, Ok, Err, string_bytes}
use Rattle.trees.specs.declared.tree.Name.{Name}
use Rattle.trees.specs.Tree.{Expr}
use Rattle.trees.specs.declared.tree.ExprKind.{ExprKind}
use Rattle.trees.specs.declared.tree.ExprKind.TheVariants.{True, False, Empty, Number, Named, Listed', Unary', Binary', Bound', Call', Count'}
use Rattle.trees.specs.declared.tree.ExprKind.{Row_of-ExprKind-Listed-0-2 as Exprs, end_of-ExprKind-Listed-0-2 as end, more_of-ExprKind-Listed-0-2 as more_of}
use Rattle.tokens.specs.declared.token.NoToken.{NoToken}
use Rattle.tokens.specs.declared.token.NoToken.TheVariants as no_token
use Rattle.syntax.specs.declared.fault.Fault.{Fault}
use Rattle.syntax.specs.declared.fault.Fault.TheVariants.{Expected, Byte, LargeNumber, Deep, Memory}
use Rattle.syntax.specs.Plain.{Plain, yes, no, nowhere, number, named, listed, prefixed, joined, bound, call, counted, Plains, none, more}
use Rattle.syntax.specs.Parsing.{Stop, wrong, beyond}

abbrev pub names_of : List Name → List (List ℕ)
names_of xs = map (λ x. string_bytes x.text) xs

-- a tree without places
abbrev mutual
  pub view : ExprKind → Plain
  view True = yes
  view False = no
  view Empty = nowhere
  view (Number n) = number n
  view (Named x) = named (string_bytes x.text)
  view (Listed' shape all) = listed (views all)
  view (Unary' u _ x _) = prefixed u (view x)
  view (Binary' b _ x _ _ y _) = joined b (view x) (view y)
  view (Bound' q sort xs _ x _) = bound q sort (names_of xs.items) (view x)
  view (Call' f shape all) = call (string_bytes f.text) (views all)
  view (Count' _ x _ m r) = counted (view x) m.kind r.kind

  pub views : {m : _} → Exprs m → Plains
  views end = none
  views (more_of x _ rest) = more (view x) (views rest)

abbrev pub view_all : List Expr → Plains
view_all [] = none
view_all (x ∷ xs) = more (view x.kind) (view_all xs)

-- the fault that a text without tokens has
abbrev pub fault_of : NoToken → Fault
fault_of (no_token.Byte s) = Byte s
fault_of no_token.Memory = Memory

-- what a fault says of reading: it cannot be read so, or something is too large; of memory it says nothing
abbrev pub Fails : {Y : Type 0} → Fault → Result Y Stop → Type 0
Fails (Expected w s) read = read ≡ Err wrong
Fails (Byte s) read = ⊥
Fails (LargeNumber s) read = read ≡ Err beyond
Fails (Deep s) read = read ≡ Err beyond
Fails Memory read = Unit {0}

-- what was returned, as seen by `see`, is what reading gives, unless memory ran out
abbrev pub Gives : {X Y : Type 0} → (X → Y) → Result X Fault → Result Y Stop → Type 0
Gives see (Ok x) read = read ≡ Ok (see x)
Gives see (Err e) read = Fails e read
