-- The names that a text declares, as they stand there.
use Rattle.std.proofs.Common.{◌≡◌, ℕ, List, [], ◌∷◌, ◌++◌, map, ◌+◌, length, string_bytes, refl, ap, arith}
use Rattle.trees.specs.declared.tree.Name.{Name}
use Rattle.trees.specs.declared.tree.Sort.{Sort}
use Rattle.trees.specs.declared.tree.Sort.TheVariants.{Place, Set}
use Rattle.resolve.specs.Kinds.{kind_of}
use Rattle.resolve.specs.declared.scope.Kind.{Kind}
use Rattle.resolve.specs.declared.scope.Kind.TheVariants as kind
use Rattle.claim_report.specs.Named.{other_name, row_name, other_names, row_names}

pub names_first : (sort : Sort) (names : List Name) (more : List (Name × Kind)) →
    other_names (map (λ x. (x, kind_of sort)) names ++ more) ≡ map (λ x. string_bytes x.text) names ++ other_names more
names_first sort [] more = refl
names_first Place (x ∷ names) more = ap (λ l. string_bytes x.text ∷ l) (names_first Place names more)
names_first Set (x ∷ names) more = ap (λ l. string_bytes x.text ∷ l) (names_first Set names more)

-- none of them is the row's
pub rows_behind : (sort : Sort) (names : List Name) (more : List (Name × Kind)) → row_names (map (λ x. (x, kind_of sort)) names ++ more) ≡ row_names more
rows_behind sort [] more = refl
rows_behind Place (x ∷ names) more = rows_behind Place names more
rows_behind Set (x ∷ names) more = rows_behind Set names more

-- each declared name is one of both sorts
pub names_length : (l : List (Name × Kind)) → length (other_names l ++ row_names l) ≡ length l
names_length l = both l
  where
    append_length : (k m : List (List ℕ)) → length (k ++ m) ≡ length k + length m
    append_length [] m = let e : length m ≡ 0 + length m = omega arith in e
    append_length (x ∷ k) m = let e = append_length k m in omega arith

    one : (k : Kind) (x : List ℕ) → length (other_name k x) + length (row_name k x) ≡ 1
    one kind.Place x = refl
    one kind.Set x = refl
    one kind.Row x = refl

    parts : (l : List (Name × Kind)) → length (other_names l) + length (row_names l) ≡ length l
    parts [] = refl
    parts (d ∷ l) =
        let x = string_bytes d.0.text in
        let a = append_length (other_name d.1 x) (other_names l) in
        let b = append_length (row_name d.1 x) (row_names l) in
        let o = one d.1 x in
        let p = parts l in
        omega arith

    both : (l : List (Name × Kind)) → length (other_names l ++ row_names l) ≡ length l
    both l = let a = append_length (other_names l) (row_names l) in let p = parts l in omega arith
