-- How words are read as a tree.
use Rattle.std.specs.Prelude.{ℕ, zero, suc, ◌+◌, ◌*◌, ◌-◌, min, max, List, [], ◌∷◌, ◌++◌, Bool, true, false, ◌&&◌, if◌then◌else◌, nat_lt, nat_le, Option, Some, None, Result, Ok, Err}
use Rattle.std.specs.Str.{bytes_eq}
use denote.Enum.Bare.{sameb}
use Rattle.tokens.specs.contracts.kind.Kind.{the_type}
use Rattle.tokens.specs.declared.kind.Kind.{Kind}
use Rattle.tokens.specs.declared.kind.Kind.TheVariants as kind
use Rattle.trees.specs.declared.tree.Unary.{Unary}
use Rattle.trees.specs.declared.tree.Unary.TheVariants as unary
use Rattle.trees.specs.declared.tree.Binary.{Binary}
use Rattle.trees.specs.declared.tree.Binary.TheVariants as binary
use Rattle.trees.specs.declared.tree.Sort.{Sort}
use Rattle.trees.specs.declared.tree.Sort.TheVariants.{Place, Set}
use Rattle.trees.specs.declared.tree.Quantifier.{Quantifier}
use Rattle.trees.specs.declared.tree.Quantifier.TheVariants as quantifier
use Rattle.tokens.specs.Words.{Word, word}
use Rattle.syntax.specs.Plain.{Plain, yes, no, nowhere, number, named, listed, prefixed, joined, bound, call, counted, Plains, none, more, mod_bytes}

-- why words are not read: they are of no such form, or what they say is larger than may be
pub data Stop : Type 0 where
  wrong : Stop
  beyond : Stop

-- what was read, and the words behind it
abbrev pub Read : Type 0 → Type 0
Read A = Result (A × List Word) Stop

infixl 10 ◌>>=◌
abbrev pub ◌>>=◌ : {A B : Type 0} → Result A Stop → (A → Result B Stop) → Result B Stop
(Ok x) >>= f = f x
(Err e) >>= f = Err e

-- how tight an operator binds, and how tight what stands right of it has to bind
abbrev pub level_of : Binary → ℕ
level_of binary.Iff = 1
level_of binary.Implies = 2
level_of binary.Or = 3
level_of binary.And = 4
level_of binary.In = 6
level_of binary.NotIn = 6
level_of binary.Sub = 6
level_of binary.Union = 9
level_of binary.Inter = 10
level_of binary.Without = 11
level_of binary.Plus = 12
level_of binary.Minus = 12
level_of _ = 7

abbrev pub right_of : Binary → ℕ
right_of binary.Iff = 1
right_of binary.Implies = 2
right_of b = suc (level_of b)

-- the operator that a kind of token is
abbrev pub binary_of : Kind → Option Binary
binary_of kind.Iff = Some binary.Iff
binary_of kind.Implies = Some binary.Implies
binary_of kind.Or = Some binary.Or
binary_of kind.And = Some binary.And
binary_of kind.In = Some binary.In
binary_of kind.NotIn = Some binary.NotIn
binary_of kind.Sub = Some binary.Sub
binary_of kind.Equal = Some binary.Equal
binary_of kind.Differs = Some binary.Differs
binary_of kind.Less = Some binary.Less
binary_of kind.AtMost = Some binary.AtMost
binary_of kind.Greater = Some binary.Greater
binary_of kind.AtLeast = Some binary.AtLeast
binary_of kind.Union = Some binary.Union
binary_of kind.Inter = Some binary.Inter
binary_of kind.Without = Some binary.Without
binary_of kind.Plus = Some binary.Plus
binary_of kind.Minus = Some binary.Minus
binary_of _ = None

-- the operator, if it binds that tight
abbrev pub if_tight : ℕ → Option Binary → Option Binary
if_tight m None = None
if_tight m (Some b) = if nat_le m (level_of b) then Some b else None

-- the operator that words begin with, if it binds that tight
abbrev pub operator : ℕ → List Word → Option Binary
operator m [] = None
operator m (word k d ∷ ws) = if_tight m (binary_of k)

abbrev pub tail : List Word → List Word
tail [] = []
tail (w ∷ ws) = ws

abbrev pub begins : Kind → List Word → Bool
begins k [] = false
begins k (word j d ∷ ws) = sameb the_type j k

-- the words behind one of a kind
abbrev pub behind : Kind → List Word → Result (List Word) Stop
behind k ws = if begins k ws then Ok (tail ws) else Err wrong

-- a number of a thousand at most
abbrev pub MOST : ℕ
MOST = 1000

-- what digits say, of which no more is told than that it is above MOST
abbrev pub value : ℕ → List ℕ → ℕ
value n [] = n
value n (b ∷ bs) = value (min (n * 10 + (b - 48)) (suc MOST)) bs

abbrev pub number_of : List ℕ → Result ℕ Stop
number_of d = if nat_lt MOST (value 0 d) then Err beyond else Ok (value 0 d)

-- how many parts of a tree stand within one another
abbrev mutual
  pub depth : Plain → ℕ
  depth (listed ts) = suc (depths ts)
  depth (prefixed u t) = suc (depth t)
  depth (joined b s t) = suc (max (depth s) (depth t))
  depth (bound q sort xs t) = suc (depth t)
  depth (call f ts) = suc (depths ts)
  depth (counted t m r) = suc (depth t)
  depth _ = 1

  pub depths : Plains → ℕ
  depths none = 0
  depths (more t ts) = max (depth t) (depths ts)

-- a tree of a thousand parts within one another at most
abbrev pub within : Plain → Result Plain Stop
within t = if nat_lt MOST (depth t) then Err beyond else Ok t

abbrev pub push : Plains → Plain → Plains
push none t = more t none
push (more s ts) t = more s (push ts t)

-- each byte is ASCII
abbrev pub ascii : List ℕ → Bool
ascii [] = true
ascii (b ∷ bs) = nat_lt b 128 && ascii bs

-- a name
abbrev pub name : List Word → Read (List ℕ)
name [] = Err wrong
name (word k d ∷ ws) = if sameb the_type k kind.Name && ascii d then Ok (d, ws) else Err wrong

-- further names behind commas, as long as there are commas, n at most
abbrev pub more_names : ℕ → List (List ℕ) → List Word → Read (List (List ℕ))
more_names zero xs ws = Ok (xs, ws)
more_names (suc n) xs ws = if begins kind.Comma ws then (do
  x ← name (tail ws)
  more_names n (xs ++ x.0 ∷ []) x.1) else Ok (xs, ws)

abbrev pub names_at : ℕ → List Word → Read (List (List ℕ))
names_at n ws = do
  x ← name ws
  more_names n (x.0 ∷ []) x.1

-- reads an expression whose operators bind that tight
abbrev pub Reader : Type 0
Reader = ℕ → List Word → Read Plain

-- how tight what stands behind a sign or word has to bind
abbrev pub lowest_of : Unary → ℕ
lowest_of unary.Not = 6
lowest_of _ = 9

-- further expressions behind commas, as long as there are commas, n at most
abbrev pub more_items : Reader → ℕ → Plains → List Word → Read Plains
more_items p zero ts ws = Ok (ts, ws)
more_items p (suc n) ts ws = if begins kind.Comma ws then (do
  t ← p 0 (tail ws)
  more_items p n (push ts t.0) t.1) else Ok (ts, ws)

-- what was read, where a sign follows that closes it
abbrev pub up_to : Kind → Read Plains → Read Plains
up_to close read = do
  ts ← read
  rest ← behind close ts.1
  Ok (ts.0, rest)

-- expressions with commas between them, up to a sign that closes them
abbrev pub items : Reader → ℕ → Kind → List Word → Read Plains
items p n close ws = up_to close (p 0 ws >>= λ t. more_items p n (more t.0 none) t.1)

-- a tree that is not too deep, and the words behind it
abbrev pub whole : Plain → List Word → Read Plain
whole t ws = do
  s ← within t
  Ok (s, ws)

abbrev pub prefix : Reader → Unary → ℕ → List Word → Read Plain
prefix p u m ws = do
  t ← p m ws
  whole (prefixed u t.0) t.1

abbrev pub quantified : Reader → ℕ → Quantifier → Sort → List Word → Read Plain
quantified p n q sort ws = do
  xs ← names_at n ws
  rest ← behind kind.Colon xs.1
  t ← p 0 rest
  whole (bound q sort xs.0 t.0) t.1

abbrev pub set_at : Reader → ℕ → List Word → Read Plain
set_at p n ws = do
  ts ← items p n kind.CloseSet ws
  whole (listed ts.0) ts.1

-- behind a name: the arguments of a predicate, if there are any
abbrev pub arguments : Reader → ℕ → List ℕ → List Word → Read Plain
arguments p n f ws = if begins kind.Close ws then Ok (call f none, tail ws) else (do
  ts ← items p n kind.Close ws
  whole (call f ts.0) ts.1)

abbrev pub named_at : Reader → ℕ → List ℕ → List Word → Read Plain
named_at p n f ws = if begins kind.Open ws then arguments p n f (tail ws) else Ok (named f, ws)

abbrev pub paren_at : Reader → List Word → Read Plain
paren_at p ws = do
  t ← p 0 ws
  rest ← behind kind.Close t.1
  Ok (t.0, rest)

abbrev pub empty_at : Reader → List Word → Read Plain
empty_at p ws = if begins kind.Open ws then (do
  t ← paren_at p (tail ws)
  whole (prefixed unary.IsEmpty t.0) t.1) else Ok (nowhere, ws)

-- whether a word is `mod`
abbrev pub is_mod : Kind → List ℕ → Bool
is_mod k d = sameb the_type k kind.Name && bytes_eq d mod_bytes

-- the words behind `mod`
abbrev pub behind_mod : List Word → Result (List Word) Stop
behind_mod [] = Err wrong
behind_mod (word k d ∷ ws) = if is_mod k d then Ok ws else Err wrong

-- a number
abbrev pub number_at : List Word → Read ℕ
number_at [] = Err wrong
number_at (word k d ∷ ws) = if sameb the_type k kind.Number then (do
  v ← number_of d
  Ok (v, ws)) else Err wrong

-- behind a set whose places are counted: of which number this is a multiple, and what besides
abbrev pub tally_at : List Word → Read (ℕ × ℕ)
tally_at ws = do
  a ← behind_mod ws
  m ← number_at a
  b ← behind kind.Equal m.1
  r ← number_at b
  Ok ((m.0, r.0), r.1)

-- what is said of the number of a set's places, from behind the sign before it
abbrev pub count_at : Reader → List Word → Read Plain
count_at p ws = do
  t ← p 9 ws
  a ← behind kind.Or t.1
  c ← tally_at a
  whole (counted t.0 c.0.0 c.0.1) c.1

-- what an operator stands between, from its first token
abbrev pub operand_of : Reader → ℕ → Kind → List ℕ → List Word → Read Plain
operand_of p n kind.True d ws = Ok (yes, ws)
operand_of p n kind.False d ws = Ok (no, ws)
operand_of p n kind.Number d ws = do
  v ← number_of d
  Ok (number v, ws)
operand_of p n kind.Name d ws = do
  f ← name (word kind.Name d ∷ ws)
  named_at p n f.0 f.1
operand_of p n kind.Empty d ws = empty_at p ws
operand_of p n kind.Open d ws = paren_at p ws
operand_of p n kind.OpenSet d ws = set_at p n ws
operand_of p n kind.Or d ws = count_at p ws
operand_of p n kind.Not d ws = prefix p unary.Not 6 ws
operand_of p n kind.Min d ws = prefix p unary.Min 9 ws
operand_of p n kind.Max d ws = prefix p unary.Max 9 ws
operand_of p n kind.Ex1 d ws = quantified p n quantifier.Some Place ws
operand_of p n kind.Ex2 d ws = quantified p n quantifier.Some Set ws
operand_of p n kind.All1 d ws = quantified p n quantifier.All Place ws
operand_of p n kind.All2 d ws = quantified p n quantifier.All Set ws
operand_of p n _ d ws = Err wrong

abbrev pub operand : Reader → ℕ → List Word → Read Plain
operand p n [] = Err wrong
operand p n (word k d ∷ ws) = operand_of p n k d ws

-- an operator with what stands left and right of it
abbrev pub join : Reader → Binary → Plain → List Word → Read Plain
join p b left ws = do
  right ← p (right_of b) ws
  whole (joined b left right.0) right.1

-- what is chosen where there is no operator, and where there is one
abbrev pub choose : {A : Type 0} → Option Binary → A → (Binary → A) → A
choose None x f = x
choose (Some b) x f = f b

-- operators behind an expression, as long as they bind that tight, n at most
abbrev pub climb : Reader → ℕ → ℕ → Plain → List Word → Read Plain
climb p zero m left ws = Ok (left, ws)
climb p (suc n) m left ws = choose (operator m ws) (Ok (left, ws)) (λ b. join p b left (tail ws) >>= λ t. climb p n m t.0 t.1)

-- an expression, with at most c open expressions, and n steps in each row of operators, expressions or names
abbrev pub parse : ℕ → ℕ → Reader
parse n zero m ws = Err beyond
parse n (suc c) m ws = operand (parse n c) n ws >>= λ t. climb (parse n c) n m t.0 t.1
