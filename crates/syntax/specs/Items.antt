-- The items of a text: how they are written as words, and how words are read as items.
use Rattle.std.specs.Prelude.{ℕ, zero, suc, ◌≡◌, ◌≤◌, ◌<◌, List, [], ◌∷◌, ◌++◌, true, false, map, if◌then◌else◌, Option, Some, None, Result, Ok, Err, string_bytes}
use Rattle.tokens.specs.declared.kind.Kind.{Kind}
use Rattle.tokens.specs.declared.kind.Kind.TheVariants as kind
use Rattle.trees.specs.declared.tree.Sort.{Sort}
use Rattle.trees.specs.declared.tree.Sort.TheVariants.{Place, Set}
use Rattle.trees.specs.declared.tree.Parameter.{Parameter}
use Rattle.trees.specs.declared.tree.Row.{Row as Stands}
use Rattle.trees.specs.declared.tree.Ends.{Ends}
use Rattle.trees.specs.declared.tree.Ends.TheVariants.{Last, Round}
use Rattle.trees.specs.declared.tree.Item.{Item}
use Rattle.trees.specs.declared.tree.Item.TheVariants.{Free, Row, Predicate as Defined, Assert, Formula}
use Rattle.tokens.specs.Words.{Word, word}
use Rattle.syntax.specs.Plain.{Plain, names, written, semicolon, comma, open_, close}
use Rattle.syntax.specs.Parsing.{Stop, wrong, Read, Reader, ◌>>=◌, begins, behind, tail, ascii, name, names_at, parse, depth, MOST}
use Rattle.syntax.specs.Grammar.{bare, AreNames, IsText, opens}
use Rattle.syntax.specs.Rows.{row_name, last_name, ring_name, rows_words, rings_words, behind_words, behind_row, is_rows}
use Rattle.syntax.specs.Views.{names_of, view}

-- an item without the places of its parts in the text
pub data PlainItem : Type 0 where
  free : Sort → List (List ℕ) → PlainItem
  row : List ℕ → List ℕ → PlainItem
  ring : List ℕ → PlainItem
  predicate : List ℕ → List (Sort × List ℕ) → Plain → PlainItem
  assumed : Plain → PlainItem
  claimed : Plain → PlainItem

abbrev pub view_parameter : Parameter → Sort × List ℕ
view_parameter p = (p.sort, string_bytes p.name.text)

abbrev pub view_parameters : List Parameter → List (Sort × List ℕ)
view_parameters ps = map view_parameter ps

abbrev pub view_ends : List ℕ → Ends → PlainItem
view_ends places (Last x) = row places (string_bytes x.text)
view_ends places Round = ring places

abbrev pub view_row : Stands → PlainItem
view_row r = view_ends (string_bytes r.places.text) r.ends

abbrev pub view_item : Item → PlainItem
view_item (Free sort xs) = free sort (names_of xs.items)
view_item (Row r) = view_row r
view_item (Defined p) = predicate (string_bytes p.name.text) (view_parameters p.parameters.items) (view p.body.kind)
view_item (Assert f) = assumed (view f.kind)
view_item (Formula f) = claimed (view f.kind)

abbrev pub view_items : List Item → List PlainItem
view_items is = map view_item is

-- `var1` or `var2`
abbrev pub sort_kind : Kind → Option Sort
sort_kind kind.Var1 = Some Place
sort_kind kind.Var2 = Some Set
sort_kind _ = None

abbrev pub sort_of : List Word → Option Sort
sort_of [] = None
sort_of (word k d ∷ ws) = sort_kind k

-- a sort that stands there, or else this one
abbrev pub given : Sort → Option Sort → Sort
given s None = s
given s (Some r) = r

abbrev pub behind_sort : Option Sort → List Word → List Word
behind_sort None ws = ws
behind_sort (Some r) ws = tail ws

-- further parameters behind commas, n at most; a name without a sort has the sort of the one before it
abbrev pub more_parameters : ℕ → Sort → List (Sort × List ℕ) → List Word → Read (List (Sort × List ℕ))
more_parameters zero s ps ws = Ok (ps, ws)
more_parameters (suc n) s ps ws = if begins kind.Comma ws then (do
  x ← name (behind_sort (sort_of (tail ws)) (tail ws))
  more_parameters n (given s (sort_of (tail ws))) (ps ++ (given s (sort_of (tail ws)), x.0) ∷ []) x.1) else Ok (ps, ws)

abbrev pub sorted_parameters : ℕ → List Word → Option Sort → Read (List (Sort × List ℕ))
sorted_parameters n ws None = Err wrong
sorted_parameters n ws (Some s) = do
  x ← name (tail ws)
  ps ← more_parameters n s ((s, x.0) ∷ []) x.1
  rest ← behind kind.Close ps.1
  Ok (ps.0, rest)

abbrev pub parameters_at : ℕ → List Word → Read (List (Sort × List ℕ))
parameters_at n ws = if begins kind.Close ws then Ok ([], tail ws) else sorted_parameters n ws (sort_of ws)

abbrev pub formula_at : Reader → List Word → Read Plain
formula_at p ws = do
  t ← p 0 ws
  rest ← behind kind.Semicolon t.1
  Ok (t.0, rest)

abbrev pub predicate_at : Reader → ℕ → List Word → Read PlainItem
predicate_at p n ws = do
  f ← name ws
  inside ← behind kind.Open f.1
  ps ← parameters_at n inside
  rest ← behind kind.Equal ps.1
  t ← formula_at p rest
  Ok (predicate f.0 ps.0 t.0, t.1)

abbrev pub free_at : ℕ → Sort → List Word → Read PlainItem
free_at n sort ws = do
  xs ← names_at n ws
  rest ← behind kind.Semicolon xs.1
  Ok (free sort xs.0, rest)

abbrev pub assumed_at : Reader → List Word → Read PlainItem
assumed_at p ws = do
  t ← formula_at p ws
  Ok (assumed t.0, t.1)

abbrev pub claimed_at : Reader → List Word → Read PlainItem
claimed_at p ws = do
  t ← formula_at p ws
  Ok (claimed t.0, t.1)

abbrev pub item_of : Reader → ℕ → Kind → List ℕ → List Word → Read PlainItem
item_of p n kind.Var1 d ws = free_at n Place ws
item_of p n kind.Var2 d ws = free_at n Set ws
item_of p n kind.Predicate d ws = predicate_at p n ws
item_of p n kind.Assert d ws = assumed_at p ws
item_of p n k d ws = claimed_at p (word k d ∷ ws)

abbrev pub other_at : Reader → ℕ → List Word → Read PlainItem
other_at p n [] = Err wrong
other_at p n (word k d ∷ ws) = item_of p n k d ws

-- the row and the ring, with the names that they have in every text
abbrev pub the_row : PlainItem
the_row = row row_name last_name

abbrev pub the_ring : PlainItem
the_ring = ring ring_name

-- an item, where that was said, or else another one
abbrev pub said_or : PlainItem → Option (List Word) → Read PlainItem → Read PlainItem
said_or i None other = other
said_or i (Some rest) other = Ok (i, rest)

abbrev pub item_at : Reader → ℕ → List Word → Read PlainItem
item_at p n ws = said_or the_row (behind_row ws) (said_or the_ring (behind_words rings_words ws) (other_at p n ws))

-- `ws1s;`, with which a text may begin
abbrev pub header : List Word → Result (List Word) Stop
header ws = if begins kind.Ws1s ws then behind kind.Semicolon (tail ws) else Ok ws

-- items up to the end, k at most
abbrev pub more_read : Reader → ℕ → ℕ → List PlainItem → List Word → Result (List PlainItem) Stop
more_read p n k is [] = Ok is
more_read p n zero is (w ∷ ws) = Ok is
more_read p n (suc k) is (w ∷ ws) = do
  i ← item_at p n (w ∷ ws)
  more_read p n k (is ++ i.0 ∷ []) i.1

-- what words are read as: with n words at most, and c expressions open, one within the other
abbrev pub read_words : ℕ → ℕ → List Word → Result (List PlainItem) Stop
read_words n c ws = do
  rest ← header ws
  more_read (parse n c) n n [] rest

abbrev pub sort_word : Sort → Word
sort_word Place = word kind.Var1 (118 ∷ 97 ∷ 114 ∷ 49 ∷ [])
sort_word Set = word kind.Var2 (118 ∷ 97 ∷ 114 ∷ 50 ∷ [])

abbrev pub parameters_more : List (Sort × List ℕ) → List Word → List Word
parameters_more [] rest = rest
parameters_more (p ∷ ps) rest = comma ∷ sort_word p.0 ∷ word kind.Name p.1 ∷ parameters_more ps rest

abbrev pub parameters : List (Sort × List ℕ) → List Word → List Word
parameters [] rest = rest
parameters (p ∷ ps) rest = sort_word p.0 ∷ word kind.Name p.1 ∷ parameters_more ps rest

abbrev pub equal : Word
equal = word kind.Equal (61 ∷ [])

-- the words of an item, and then other words
abbrev pub written_item : PlainItem → List Word → List Word
written_item (free sort xs) rest = sort_word sort ∷ names xs (semicolon ∷ rest)
written_item (row places last) rest = rows_words ++ rest
written_item (ring places) rest = rings_words ++ rest
written_item (predicate f ps t) rest = word kind.Predicate (112 ∷ 114 ∷ 101 ∷ 100 ∷ []) ∷ word kind.Name f ∷ open_ ∷ parameters ps (close ∷ equal ∷ written t (semicolon ∷ rest))
written_item (assumed t) rest = word kind.Assert (97 ∷ 115 ∷ 115 ∷ 101 ∷ 114 ∷ 116 ∷ []) ∷ written t (semicolon ∷ rest)
written_item (claimed t) rest = written t (semicolon ∷ rest)

abbrev pub written_items : List PlainItem → List Word
written_items [] = []
written_items (i ∷ is) = written_item i (written_items is)

-- an item without parentheses, and with numbers for their digits
abbrev pub bare_item : PlainItem → PlainItem
bare_item (free sort xs) = free sort xs
bare_item (row places last) = row places last
bare_item (ring places) = ring places
bare_item (predicate f ps t) = predicate f ps (bare t)
bare_item (assumed t) = assumed (bare t)
bare_item (claimed t) = claimed (bare t)

-- a text of an expression that is not too large to be read
abbrev pub IsFormula : Plain → Type 0
IsFormula t = IsText t × (opens t < 2000) × (depth (bare t) ≤ MOST)

abbrev pub AreParameters : List (Sort × List ℕ) → Type 0
AreParameters [] = Unit {0}
AreParameters (p ∷ ps) = (ascii p.1 ≡ true) × AreParameters ps

-- a row and a ring have their names; a formula that is the name `rows` or `rings` alone stands in parentheses, since `rows;` is a row and `rings;` a ring
abbrev pub IsItem : PlainItem → Type 0
IsItem (free sort xs) = AreNames xs
IsItem (row places last) = (places ≡ row_name) × (last ≡ last_name)
IsItem (ring places) = places ≡ ring_name
IsItem (predicate f ps t) = (ascii f ≡ true) × AreParameters ps × IsFormula t
IsItem (assumed t) = IsFormula t
IsItem (claimed t) = IsFormula t × (is_rows t ≡ false)

abbrev pub AreItems : List PlainItem → Type 0
AreItems [] = Unit {0}
AreItems (i ∷ is) = IsItem i × AreItems is
