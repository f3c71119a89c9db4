-- What an answer says of a text, for all places and finite sets that its declared names can stand for.
use Rattle.std.specs.Prelude.{ℕ, suc, ◌%◌, ◌^◌, List, [], ◌∷◌, Option, Some, None, map, length, ◌⊎◌}
use Rattle.words.specs.Words.{Word, Columns, bit, sets}
use Rattle.words.specs.Order.{Less}
use Rattle.kinds.specs.Relations.{Only}
use Rattle.claims.specs.Sizes.{Fits}
use Rattle.formulas.specs.Sets.{lowest}
use Rattle.formulas.specs.Meaning.{Env}
use Rattle.formula_claims.specs.Claimed.{whole, sets_needed}
use Rattle.trees.specs.declared.tree.Name.{Name}
use Rattle.trees.specs.declared.tree.Item.{Item}
use Rattle.resolve.specs.Says.{text}
use Rattle.resolve.specs.Asks.{declared}
use Rattle.resolve.specs.declared.scope.Kind.{Kind}
use Rattle.resolve.specs.declared.scope.Kind.TheVariants.{Place, Set, Row}
use Rattle.rows.specs.RowClaims.{marked, First}
use Rattle.translation.specs.Settles.{Singles, env_of}
use Rattle.formula_claims.specs.Listed.{listed}
use Rattle.solve.specs.Questions.{Assumed, HoldsOf, FailsOf, Puts, names_of, others_in, row_in}
use Rattle.solve.specs.declared.answer.Answer.{Answer}
use Rattle.solve.specs.declared.answer.Answer.TheVariants.{Always, Unmet, Never, Both, TooLarge}

-- the places and sets that a row shows: bit x of a column says whether the declared name with number x has the place
abbrev pub shown : Word → Env
shown w = record { places = λ x. lowest (map (bit x) w); groups = λ x. map (bit x) w }

-- the name with number n has one place, if it is a place's
abbrev pub Marked : Kind → ℕ → Word → Type 0
Marked Place n w = (i : ℕ) × Only (sets w) n i
Marked Set n w = Unit {0}
Marked Row n w = Unit {0}

-- the row gives the declared names, numbered from n on, places and sets
abbrev pub IsRow : ℕ → List (Name × Kind) → Word → Type 0
IsRow n [] w = Unit {0}
IsRow n (d ∷ l) w = Marked d.1 n w × IsRow (suc n) l w

-- w is the first row that shows places and sets of which P is true
pub record FirstRow (l : List (Name × Kind)) (P : Env → Type 0) (w : Word) : Type 0 where
  pub row : IsRow 0 l w
  pub holds : P (shown w)
  pub first : (u : Word) → Columns (length l) u → Less u w → IsRow 0 l u → P (shown u) → ⊥

-- a word without the bit of the row, which stands behind the other k
abbrev pub unmarked : Option ℕ → Word → Word
unmarked None w = w
unmarked (Some k) w = map (λ a. a % 2 ^ k) w

-- the row w, a place for each column, shows places and sets of which P is true: bit x says whether the declared name with number x has the place, and the row has all places of the word
abbrev pub RowShows : List Item → (Env → Type 0) → Word → Type 0
RowShows items P w =
    let l = names_of items in
    let u = marked (length (others_in items)) w in
    Singles (listed l) l (sets u) × P (env_of (listed l) u)

-- w is the first word that shows such places and sets; where a row is spoken of, the first row; where a ring is, the first ring, as the row of its places from place 0 on
abbrev pub FirstShown : Option ℕ → List Item → (Env → Type 0) → Word → Type 0
FirstShown None items P w = FirstRow (declared items) P w
FirstShown (Some r) items P w = First (length (others_in items)) (RowShows items P) w

-- more than n classes have to be told apart at the claim of P
abbrev pub Large : List Item → ℕ → (Env → Type 0) → Type 0
Large items n P = (bytes : List ℕ) × (p : Puts (names_of items) P bytes) × (Fits (sets_needed (names_of items) p.formula) n (whole (names_of items) p.formula) → ⊥)

-- an answer is true of the text
abbrev pub Answers : List Item → Answer → Type 0
Answers items Always = ((e : Env) → Assumed items e → (text items e).claimed) × (e : Env) × Assumed items e
Answers items Unmet = (e : Env) → Assumed items e → ⊥
Answers items Never = ((e : Env) → Assumed items e → (text items e).claimed → ⊥) × (e : Env) × Assumed items e
Answers items (Both u v) = FirstShown (row_in items) items (HoldsOf items) u.items × FirstShown (row_in items) items (FailsOf items) v.items
Answers items (TooLarge n) = Large items n (HoldsOf items) ⊎ Large items n (FailsOf items)
