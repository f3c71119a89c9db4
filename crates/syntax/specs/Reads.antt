-- What the bytes of a text are read as.
use Rattle.std.specs.Prelude.{◌≡◌, ℕ, List, length, Ok, Some}
use Rattle.tokens.specs.Covering.{Covers}
use Rattle.tokens.specs.Scan.{scan}
use Rattle.tokens.specs.Words.{words}
use Rattle.tokens.specs.declared.token.Token.{Token}
use Rattle.trees.specs.declared.tree.Item.{Item}
use Rattle.syntax.specs.Items.{read_words, view_items}

-- the tokens of a text: they leave nothing out but blanks and comments, and each is the longest that can stand there
abbrev pub AreTokens : List ℕ → List Token → Type 0
AreTokens text all = Covers text 0 all (length text) × (scan text ≡ Some (words text all))

-- a text is read as these items: they are what its tokens are read as
abbrev pub IsReadAs : List ℕ → List Item → Type 0
IsReadAs text items = (all : List Token) × AreTokens text all × ((c : ℕ) → c ≡ 2000 → read_words (length all) c (words text all) ≡ Ok (view_items items))
