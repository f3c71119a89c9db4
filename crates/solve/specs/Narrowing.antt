-- Which part of a text is named where its claim is too large.
use Rattle.std.specs.Prelude.{◌≡◌, ℕ, cond, List, [], ◌∷◌, ◌++◌, Option, Some, None}
use Rattle.std.specs.List.{list_any}
use Rattle.workspace.specs.Floor.{Room}
use Rattle.formulas.specs.declared.name.Name.{Name}
use Rattle.formulas.specs.declared.formula.Formula.{Formula}
use Rattle.formulas.specs.Names.{names, same_name}
use Rattle.formula_claims.specs.Claimed.{Claimed}
use Rattle.trees.specs.declared.position.Span.{Span}
use Rattle.trees.specs.declared.tree.Item.{Item}
use Rattle.resolve.specs.Asks.{Asks}
use Rattle.resolve.specs.Faults.{Among}
use Rattle.parts.specs.Parts.{Piece, Within, piece_of, parts, statements}
use Rattle.parts.specs.declared.parts.Part.{Part}
use Rattle.resolve.specs.declared.asked.Asked.{Asked}
use Rattle.solve.specs.Telling.{IsWithin}

-- the name behind those that are there, unless it is one of them
abbrev pub with_name : List Name → Name → List Name
with_name l x = cond (list_any (λ y. same_name y x) l) l (l ++ (x ∷ []))

abbrev pub with_names : List Name → List Name → List Name
with_names l [] = l
with_names l (x ∷ more) = with_names (with_name l x) more

-- the names that are free in a formula, each once
abbrev pub own_names : Formula → List Name
own_names a = with_names [] (names a)

-- the formula by itself has a claim, about its own names, and n classes can be told apart at it in 4 MiB
abbrev pub CanBeJudged : ℕ → Formula → Type 0
CanBeJudged n a = (bytes : List ℕ) × Claimed (own_names a) a bytes × Room bytes n

-- more than n classes have to be told apart at the formula's claim
abbrev pub IsLarge : ℕ → Formula → Type 0
IsLarge n a = CanBeJudged n a × (IsWithin (own_names a) a n → ⊥)

-- n classes suffice for the formula's claim, if that can be judged
abbrev pub IsSmall : ℕ → Formula → Type 0
IsSmall n a = CanBeJudged n a → IsWithin (own_names a) a n

-- each of the pieces is small
abbrev pub AllSmall : ℕ → List Piece → Type 0
AllSmall n l = (p : Piece) → Among p l → IsSmall n p.formula

-- one of the pieces that is large; none where each is small
abbrev pub IsLargeOf : ℕ → List Piece → Option Part → Type 0
IsLargeOf n l None = AllSmall n l
IsLargeOf n l (Some p) = Among (piece_of p) l × IsLarge n p.formula.now

-- a piece is large, and none of its parts is
abbrev pub IsInnermost : ℕ → Piece → Type 0
IsInnermost n p = IsLarge n p.formula × AllSmall n (parts p)

-- the span is that of an innermost large part of an assumption or a claim; or none of these is large
abbrev pub NamesPart : List Item → Asked → ℕ → Option Span → Type 0
NamesPart items asked n None = AllSmall n (statements items asked)
NamesPart items asked n (Some span) = (whole : Piece) × (part : Piece) × Among whole (statements items asked) × Within whole part × IsInnermost n part × (span ≡ part.expr.span)

-- the same of what a text asks
abbrev pub Narrowest : List Item → ℕ → Option Span → Type 0
Narrowest items n found = (asked : Asked) × Asks items asked × NamesPart items asked n found
