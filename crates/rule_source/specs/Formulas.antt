-- What a formula of a rule file says: what its words say of a row with its ends, or of a ring, behind lines that declare the bits and the row.
use Rattle.std.specs.Prelude.{◌≡◌, ℕ, List, [], ◌∷◌, ◌++◌, ◌↔◌, Option, Some, None, codes, map, string_bytes}
use Rattle.std.specs.List.{AllZip, filter_map, join_by}
use Rattle.formulas.specs.Meaning.{Env, Meaning}
use Rattle.formulas.specs.declared.formula.Formula.{Formula}
use Rattle.rows.specs.declared.rule.Layout.{Layout}
use Rattle.rows.specs.declared.rule.Layout.TheVariants as layout
use Rattle.trees.specs.declared.tree.Item.{Item}
use Rattle.trees.specs.declared.tree.Item.TheVariants.{Free, Row, Formula as claimed}
use Rattle.trees.specs.declared.tree.Row.{Row as Named}
use Rattle.trees.specs.declared.tree.Ends.{Ends}
use Rattle.trees.specs.declared.tree.Ends.TheVariants.{Last, Round}
use Rattle.trees.specs.declared.tree.Sort.TheVariants.{Set}
use Rattle.syntax.specs.Reads.{IsReadAs}
use Rattle.syntax.specs.Views.{names_of}
use Rattle.resolve.specs.Says.{text}
use Rattle.rule_file.specs.Claims.{bytes_of}
use Rattle.rule_file.specs.declared.token.Token.{Token}
use Rattle.rule_file.specs.declared.tree.Line.{Line}
use Rattle.rule_file.specs.declared.tree.Statement.{Statement}
use Rattle.rule_file.specs.declared.tree.Statement.TheVariants as statement
use Rattle.rule_source.specs.Layouts.{places_line, places_of}
use Rattle.rule_source.specs.Names.{names_after}
use Rattle.rule_source.specs.declared.bits.Bits.{Bits}
use Rattle.rule_source.specs.declared.formula.About.{About}
use Rattle.rule_source.specs.declared.formula.About.TheVariants as about
use Rattle.rule_source.specs.declared.formula.About.TheVariants.{Row, Step}

-- the names of the bits
abbrev pub names_now : Bits → List (List ℕ)
names_now b = map (λ n. n.now) b.names.items

-- a line that declares sets of these names
abbrev pub declaration : List (List ℕ) → List ℕ
declaration names = codes "var2 " ++ join_by (λ n. n) (codes ", ") names ++ codes ";\n"

-- the lines before a formula: the bits of the row, the row or the ring, and behind it the bits of the row after one step if the formula is about that row too
abbrev pub before : Layout → About → List (List ℕ) → List (List ℕ) → List ℕ
before s about.Row now after = declaration now ++ places_line s
before s about.Step now after = declaration now ++ places_line s ++ declaration after

-- a formula behind those lines
abbrev pub declared : Layout → About → List (List ℕ) → List (List ℕ) → List ℕ → List ℕ
declared s a now after formula = before s a now after ++ formula ++ codes "\n;\n"

-- a row's last place is called `last`; a ring goes round
abbrev pub EndsAs : Layout → Ends → Type 0
EndsAs layout.Line (Last x) = string_bytes x.text ≡ codes "last"
EndsAs layout.Ring Round = Unit {0}
EndsAs _ _ = ⊥

-- the places are called `row` and end with a last one, or `ring` and go round
abbrev pub IsRow : Layout → Named → Type 0
IsRow s r = (string_bytes r.places.text ≡ places_of s) × EndsAs s r.ends

-- declarations of sets with these names and of the row, and one formula
abbrev pub AreOne : Layout → About → List Item → List (List ℕ) → List (List ℕ) → Type 0
AreOne s about.Row (Free Set bits ∷ Row r ∷ claimed said ∷ []) now after = (names_of bits.items ≡ now) × IsRow s r
AreOne s about.Step (Free Set bits ∷ Row r ∷ Free Set next ∷ claimed said ∷ []) now after = (names_of bits.items ≡ now) × IsRow s r × (names_of next.items ≡ after)
AreOne _ _ _ _ _ = ⊥

-- the bytes of a token, behind the lines that declare the sets, are read as these declarations and one formula; f is true of exactly the places and sets of which that text claims it, where the sets are numbered in the order in which they are declared: bit j is j, the row is the number of the bits, and behind it come the bits after the step
pub record FormulaOf (b : Bits) (a : About) (t : Token) (f : Formula) : Type 0 where
  pub items : List Item
  pub read : IsReadAs (declared b.layout a (names_now b) (names_after (names_now b)) (bytes_of b.text.now t)) items
  pub one : AreOne b.layout a items (names_now b) (names_after (names_now b))
  pub means : (e : Env) → Meaning f e ↔ (text items e).claimed

-- the formula of a limit
abbrev pub limit_of : Statement → Option Token
limit_of (statement.Limit h t) = Some t
limit_of _ = None

-- the formula of a line that says how a run may begin
abbrev pub start_of : Statement → Option Token
start_of (statement.Start h t) = Some t
start_of _ = None

-- the formula of a line that may help to keep a claim
abbrev pub helper_of : Statement → Option Token
helper_of (statement.Helper l t) = Some t
helper_of _ = None

-- the formulas of these lines, in their order
abbrev pub helpers_in : List Line → List Token
helpers_in ls = filter_map (λ l. helper_of l.statement) ls

-- the formulas about a row are what statements of one sort say, one for each, in their order
abbrev pub AreSaid : (Statement → Option Token) → Bits → List Line → List Formula → Type 0
AreSaid of_sort b ls fs = AllZip (FormulaOf b about.Row) (filter_map (λ l. of_sort l.statement) ls) fs

abbrev pub AreLimits : Bits → List Line → List Formula → Type 0
AreLimits b ls fs = AreSaid limit_of b ls fs

abbrev pub AreStarts : Bits → List Line → List Formula → Type 0
AreStarts b ls fs = AreSaid start_of b ls fs

abbrev pub AreHelpers : Bits → List Line → List Formula → Type 0
AreHelpers b ls fs = AreSaid helper_of b ls fs
