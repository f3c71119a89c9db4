-- What is said of a list of expressions is said of the values of each.
use Rattle.std.proofs.Common.{◌≡◌, ◌∙◌, ap, ◌↔◌, List, map, string_bytes, Vec, Global}
use mathlib.Core.Former.{Count}
use Rattle.trees.specs.Tree.{Expr}
use Rattle.trees.specs.declared.tree.Name.{Name}
use Rattle.trees.specs.declared.tree.ExprKind.{ExprKind, Row_of-ExprKind-Listed-0-2 as Exprs, end_of-ExprKind-Listed-0-2 as end, Listed, Listed', Call, Call', items_hidden-the_row-ExprKind-Listed-0-2-0 as items_hidden}
use Rattle.resolve.specs.Says.{Context, Value, value, values, set, each_place, holds}
use Rattle.resolve.proofs.Iff.{along_list}
use Rattle.resolve.proofs.ValuesLaws.{values_are}

abbrev row_of : ExprKind → (n : Count) × Exprs n
row_of (Listed' shape row) = (_, row)
row_of (Call' f shape row) = (_, row)
row_of _ = (_, end)

pub listed_says : (all : Vec Expr Global) (s : Context) → value (Listed all) s ≡ set (each_place (map (λ a. value a.kind s) all.items))
listed_says all s =
    let row = row_of (Listed all) in
    let same : values row.1 s ≡ map (λ a. value a.kind s) all.items = values_are row.0 row.1 s ∙ ap (λ l. map (λ a. value a.kind s) l) (items_hidden all) in
    ap (λ l. set (each_place l)) same

pub call_says : (f : Name) (all : Vec Expr Global) (s : Context) → holds (Call f all) s ↔ s.says (string_bytes f.text) (map (λ a. value a.kind s) all.items)
call_says f all s =
    let row = row_of (Call f all) in
    let same : values row.1 s ≡ map (λ a. value a.kind s) all.items = values_are row.0 row.1 s ∙ ap (λ l. map (λ a. value a.kind s) l) (items_hidden all) in
    along_list (λ (l : List Value). s.says (string_bytes f.text) l) _ _ same
