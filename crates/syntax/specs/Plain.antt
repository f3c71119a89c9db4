-- Trees without the places of their parts in the text, with each parenthesis, and how they are written as words.
use Rattle.std.specs.Prelude.{ℕ, List, [], ◌∷◌}
use Rattle.tokens.specs.declared.kind.Kind.TheVariants as kind
use Rattle.tokens.specs.Words.{Word, word}
use Rattle.trees.specs.declared.tree.Unary.{Unary}
use Rattle.trees.specs.declared.tree.Unary.TheVariants as unary
use Rattle.trees.specs.declared.tree.Binary.{Binary}
use Rattle.trees.specs.declared.tree.Binary.TheVariants as binary
use Rattle.trees.specs.declared.tree.Sort.{Sort}
use Rattle.trees.specs.declared.tree.Sort.TheVariants.{Place, Set}
use Rattle.trees.specs.declared.tree.Quantifier.{Quantifier}
use Rattle.trees.specs.declared.tree.Quantifier.TheVariants as quantifier

-- `paren` is an expression in parentheses, `digits` a number as it is written; `counted` says of a set that the number of its places is a multiple of the first number and the second besides, `tallied` the same with the numbers as they are written
mutual
  pub data Plain : Type 0 where
    yes : Plain
    no : Plain
    nowhere : Plain
    number : ℕ → Plain
    digits : List ℕ → Plain
    named : List ℕ → Plain
    paren : Plain → Plain
    listed : Plains → Plain
    prefixed : Unary → Plain → Plain
    joined : Binary → Plain → Plain → Plain
    bound : Quantifier → Sort → List (List ℕ) → Plain → Plain
    call : List ℕ → Plains → Plain
    counted : Plain → ℕ → ℕ → Plain
    tallied : Plain → List ℕ → List ℕ → Plain

  pub data Plains : Type 0 where
    none : Plains
    more : Plain → Plains → Plains

abbrev pub sign_of : Binary → Word
sign_of binary.Iff = word kind.Iff (60 ∷ 61 ∷ 62 ∷ [])
sign_of binary.Implies = word kind.Implies (61 ∷ 62 ∷ [])
sign_of binary.Or = word kind.Or (124 ∷ [])
sign_of binary.And = word kind.And (38 ∷ [])
sign_of binary.In = word kind.In (105 ∷ 110 ∷ [])
sign_of binary.NotIn = word kind.NotIn (110 ∷ 111 ∷ 116 ∷ 105 ∷ 110 ∷ [])
sign_of binary.Sub = word kind.Sub (115 ∷ 117 ∷ 98 ∷ [])
sign_of binary.Equal = word kind.Equal (61 ∷ [])
sign_of binary.Differs = word kind.Differs (126 ∷ 61 ∷ [])
sign_of binary.Less = word kind.Less (60 ∷ [])
sign_of binary.AtMost = word kind.AtMost (60 ∷ 61 ∷ [])
sign_of binary.Greater = word kind.Greater (62 ∷ [])
sign_of binary.AtLeast = word kind.AtLeast (62 ∷ 61 ∷ [])
sign_of binary.Union = word kind.Union (117 ∷ 110 ∷ 105 ∷ 111 ∷ 110 ∷ [])
sign_of binary.Inter = word kind.Inter (105 ∷ 110 ∷ 116 ∷ 101 ∷ 114 ∷ [])
sign_of binary.Without = word kind.Without (92 ∷ [])
sign_of binary.Plus = word kind.Plus (43 ∷ [])
sign_of binary.Minus = word kind.Minus (45 ∷ [])

abbrev pub quantifier_of : Quantifier → Sort → Word
quantifier_of quantifier.Some Place = word kind.Ex1 (101 ∷ 120 ∷ 49 ∷ [])
quantifier_of quantifier.Some Set = word kind.Ex2 (101 ∷ 120 ∷ 50 ∷ [])
quantifier_of quantifier.All Place = word kind.All1 (97 ∷ 108 ∷ 108 ∷ 49 ∷ [])
quantifier_of quantifier.All Set = word kind.All2 (97 ∷ 108 ∷ 108 ∷ 50 ∷ [])

abbrev pub comma : Word
comma = word kind.Comma (44 ∷ [])

abbrev pub colon : Word
colon = word kind.Colon (58 ∷ [])

abbrev pub semicolon : Word
semicolon = word kind.Semicolon (59 ∷ [])

abbrev pub open_ : Word
open_ = word kind.Open (40 ∷ [])

abbrev pub close : Word
close = word kind.Close (41 ∷ [])

abbrev pub open_set : Word
open_set = word kind.OpenSet (123 ∷ [])

abbrev pub close_set : Word
close_set = word kind.CloseSet (125 ∷ [])

abbrev pub empty_word : Word
empty_word = word kind.Empty (101 ∷ 109 ∷ 112 ∷ 116 ∷ 121 ∷ [])

-- the sign before a set whose places are counted, and behind it
abbrev pub bar : Word
bar = word kind.Or (124 ∷ [])

-- `mod`, which stands for a name elsewhere
abbrev pub mod_bytes : List ℕ
mod_bytes = 109 ∷ 111 ∷ 100 ∷ []

-- what is said of the number of a set's places, behind the set, and then other words
abbrev pub tally : List ℕ → List ℕ → List Word → List Word
tally d e rest = bar ∷ word kind.Name mod_bytes ∷ word kind.Number d ∷ sign_of binary.Equal ∷ word kind.Number e ∷ rest

-- names with commas between them, and then other words
abbrev pub names_more : List (List ℕ) → List Word → List Word
names_more [] rest = rest
names_more (x ∷ xs) rest = comma ∷ word kind.Name x ∷ names_more xs rest

abbrev pub names : List (List ℕ) → List Word → List Word
names [] rest = rest
names (x ∷ xs) rest = word kind.Name x ∷ names_more xs rest

-- the words of a tree, and then other words
abbrev mutual
  pub written : Plain → List Word → List Word
  written yes rest = word kind.True (116 ∷ 114 ∷ 117 ∷ 101 ∷ []) ∷ rest
  written no rest = word kind.False (102 ∷ 97 ∷ 108 ∷ 115 ∷ 101 ∷ []) ∷ rest
  written nowhere rest = empty_word ∷ rest
  written (number n) rest = rest
  written (digits d) rest = word kind.Number d ∷ rest
  written (named x) rest = word kind.Name x ∷ rest
  written (paren t) rest = open_ ∷ written t (close ∷ rest)
  written (listed ts) rest = open_set ∷ list ts (close_set ∷ rest)
  written (prefixed unary.Not t) rest = word kind.Not (126 ∷ []) ∷ written t rest
  written (prefixed unary.Min t) rest = word kind.Min (109 ∷ 105 ∷ 110 ∷ []) ∷ written t rest
  written (prefixed unary.Max t) rest = word kind.Max (109 ∷ 97 ∷ 120 ∷ []) ∷ written t rest
  written (prefixed unary.IsEmpty t) rest = empty_word ∷ open_ ∷ written t (close ∷ rest)
  written (joined b s t) rest = written s (sign_of b ∷ written t rest)
  written (bound q sort xs t) rest = quantifier_of q sort ∷ names xs (colon ∷ written t rest)
  written (call f ts) rest = word kind.Name f ∷ open_ ∷ list ts (close ∷ rest)
  written (counted t m r) rest = rest
  written (tallied t d e) rest = bar ∷ written t (tally d e rest)

  pub list : Plains → List Word → List Word
  list none rest = rest
  list (more t ts) rest = written t (list_more ts rest)

  pub list_more : Plains → List Word → List Word
  list_more none rest = rest
  list_more (more t ts) rest = comma ∷ written t (list_more ts rest)
