-- Which trees are written as words, with which parentheses, and what they are without them.
use Rattle.std.specs.Prelude.{ℕ, suc, ◌≡◌, ◌<◌, ◌≤◌, min, max, List, [], ◌∷◌, true}
use Rattle.trees.specs.declared.tree.Unary.TheVariants as unary
use Rattle.syntax.specs.Plain.{Plain, yes, no, nowhere, number, digits, named, paren, listed, prefixed, joined, bound, call, counted, tallied, Plains, none, more}
use Rattle.syntax.specs.Parsing.{level_of, right_of, value, MOST, ascii}

-- without parentheses, and with numbers for their digits
abbrev mutual
  pub bare : Plain → Plain
  bare (digits d) = number (value 0 d)
  bare (paren t) = bare t
  bare (listed ts) = listed (bares ts)
  bare (prefixed u t) = prefixed u (bare t)
  bare (joined b s t) = joined b (bare s) (bare t)
  bare (bound q sort xs t) = bound q sort xs (bare t)
  bare (call f ts) = call f (bares ts)
  bare (counted t m r) = counted (bare t) m r
  bare (tallied t d e) = counted (bare t) (value 0 d) (value 0 e)
  bare t = t

  pub bares : Plains → Plains
  bares none = none
  bares (more t ts) = more (bare t) (bares ts)

-- how tight an expression binds as an operand: its own operator, or anything
abbrev pub spine : Plain → ℕ
spine (joined b s t) = level_of b
spine _ = 13

-- the loosest operator that an expression leaves alone behind itself has to be less tight than this: `~`, a quantifier and a right operand take what binds tighter
abbrev pub grab : Plain → ℕ
grab (prefixed unary.Not t) = min 6 (grab t)
grab (prefixed unary.Min t) = min 9 (grab t)
grab (prefixed unary.Max t) = min 9 (grab t)
grab (joined b s t) = min (right_of b) (grab t)
grab (bound q sort xs t) = 0
grab _ = 14

abbrev pub AreAscii : List (List ℕ) → Type 0
AreAscii [] = Unit {0}
AreAscii (x ∷ xs) = (ascii x ≡ true) × AreAscii xs

abbrev pub AreNames : List (List ℕ) → Type 0
AreNames [] = ⊥
AreNames (x ∷ xs) = (ascii x ≡ true) × AreAscii xs

-- each operand binds as tight as it has to, or stands in parentheses; a set whose places are counted leaves alone the sign behind it; sets and quantifiers have something in them; numbers are written as digits
abbrev mutual
  pub IsText : Plain → Type 0
  IsText yes = Unit {0}
  IsText no = Unit {0}
  IsText nowhere = Unit {0}
  IsText (number n) = ⊥
  IsText (digits d) = value 0 d ≤ MOST
  IsText (named x) = ascii x ≡ true
  IsText (paren t) = IsText t
  IsText (listed ts) = AreSome ts
  IsText (prefixed unary.Not t) = IsText t × (6 ≤ spine t)
  IsText (prefixed unary.Min t) = IsText t × (9 ≤ spine t)
  IsText (prefixed unary.Max t) = IsText t × (9 ≤ spine t)
  IsText (prefixed unary.IsEmpty t) = IsText t
  IsText (joined b s t) = IsText s × (level_of b ≤ spine s) × (level_of b < grab s) × IsText t × (right_of b ≤ spine t)
  IsText (bound q sort xs t) = AreNames xs × IsText t
  IsText (call f ts) = (ascii f ≡ true) × AreTexts ts
  IsText (counted t m r) = ⊥
  IsText (tallied t d e) = IsText t × (9 ≤ spine t) × (3 < grab t) × (value 0 d ≤ MOST) × (value 0 e ≤ MOST)

  pub AreSome : Plains → Type 0
  AreSome none = ⊥
  AreSome (more t ts) = IsText t × AreTexts ts

  pub AreTexts : Plains → Type 0
  AreTexts none = Unit {0}
  AreTexts (more t ts) = IsText t × AreTexts ts

-- how many expressions are open within this one while it is read
abbrev mutual
  pub opens : Plain → ℕ
  opens (paren t) = suc (opens t)
  opens (listed ts) = opens_each ts
  opens (prefixed u t) = suc (opens t)
  opens (joined b s t) = max (opens s) (suc (opens t))
  opens (bound q sort xs t) = suc (opens t)
  opens (call f ts) = opens_each ts
  opens (tallied t d e) = suc (opens t)
  opens _ = 0

  pub opens_each : Plains → ℕ
  opens_each none = 0
  opens_each (more t ts) = max (suc (opens t)) (opens_each ts)
