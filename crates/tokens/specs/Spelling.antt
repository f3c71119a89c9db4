-- How tokens are written.
use Rattle.std.specs.Prelude.{ℕ, ◌≡◌, ◌⊎◌, ◌==◌, ◌&&◌, ◌||◌, nat_le, Bool, true, false, IsTrue, List, [], ◌∷◌}
use Rattle.tokens.specs.declared.kind.Kind.{Kind}
use Rattle.tokens.specs.declared.kind.Kind.TheVariants as kind

abbrev pub is_digit : ℕ → Bool
is_digit b = nat_le 48 b && nat_le b 57

-- `a` to `z`, `A` to `Z` and `_`
abbrev pub is_letter : ℕ → Bool
is_letter b = (nat_le 97 b && nat_le b 122) || ((nat_le 65 b && nat_le b 90) || (b == 95))

-- a letter, a digit, `'`, `@` or `$`
abbrev pub in_name : ℕ → Bool
in_name b = is_letter b || (is_digit b || ((b == 39) || ((b == 64) || (b == 36))))

abbrev pub each : (ℕ → Bool) → List ℕ → Bool
each p [] = true
each p (b ∷ s) = p b && each p s

-- digits, one at least
abbrev pub is_number : List ℕ → Bool
is_number [] = false
is_number (b ∷ s) = is_digit b && each is_digit s

-- a letter, and then what may stand in a name
abbrev pub is_name : List ℕ → Bool
is_name [] = false
is_name (b ∷ s) = is_letter b && each in_name s

-- a token of a kind may have these bytes: a keyword's are that word, a sign's that sign, a name's a name, a number's digits; a predicate begins with `pred` or `macro`. Of what only MONA has it says nothing
abbrev pub Spells : Kind → List ℕ → Type 0
Spells kind.Name d = IsTrue (is_name d)
Spells kind.Number d = IsTrue (is_number d)
Spells kind.Foreign d = Unit {0}
Spells kind.Predicate d = (d ≡ 112 ∷ 114 ∷ 101 ∷ 100 ∷ []) ⊎ (d ≡ 109 ∷ 97 ∷ 99 ∷ 114 ∷ 111 ∷ [])
Spells kind.Ws1s d = d ≡ 119 ∷ 115 ∷ 49 ∷ 115 ∷ []
Spells kind.Var1 d = d ≡ 118 ∷ 97 ∷ 114 ∷ 49 ∷ []
Spells kind.Var2 d = d ≡ 118 ∷ 97 ∷ 114 ∷ 50 ∷ []
Spells kind.Assert d = d ≡ 97 ∷ 115 ∷ 115 ∷ 101 ∷ 114 ∷ 116 ∷ []
Spells kind.True d = d ≡ 116 ∷ 114 ∷ 117 ∷ 101 ∷ []
Spells kind.False d = d ≡ 102 ∷ 97 ∷ 108 ∷ 115 ∷ 101 ∷ []
Spells kind.Ex1 d = d ≡ 101 ∷ 120 ∷ 49 ∷ []
Spells kind.Ex2 d = d ≡ 101 ∷ 120 ∷ 50 ∷ []
Spells kind.All1 d = d ≡ 97 ∷ 108 ∷ 108 ∷ 49 ∷ []
Spells kind.All2 d = d ≡ 97 ∷ 108 ∷ 108 ∷ 50 ∷ []
Spells kind.Empty d = d ≡ 101 ∷ 109 ∷ 112 ∷ 116 ∷ 121 ∷ []
Spells kind.Min d = d ≡ 109 ∷ 105 ∷ 110 ∷ []
Spells kind.Max d = d ≡ 109 ∷ 97 ∷ 120 ∷ []
Spells kind.In d = d ≡ 105 ∷ 110 ∷ []
Spells kind.NotIn d = d ≡ 110 ∷ 111 ∷ 116 ∷ 105 ∷ 110 ∷ []
Spells kind.Sub d = d ≡ 115 ∷ 117 ∷ 98 ∷ []
Spells kind.Union d = d ≡ 117 ∷ 110 ∷ 105 ∷ 111 ∷ 110 ∷ []
Spells kind.Inter d = d ≡ 105 ∷ 110 ∷ 116 ∷ 101 ∷ 114 ∷ []
Spells kind.Without d = d ≡ 92 ∷ []
Spells kind.Plus d = d ≡ 43 ∷ []
Spells kind.Minus d = d ≡ 45 ∷ []
Spells kind.Equal d = d ≡ 61 ∷ []
Spells kind.Differs d = d ≡ 126 ∷ 61 ∷ []
Spells kind.Less d = d ≡ 60 ∷ []
Spells kind.AtMost d = d ≡ 60 ∷ 61 ∷ []
Spells kind.Greater d = d ≡ 62 ∷ []
Spells kind.AtLeast d = d ≡ 62 ∷ 61 ∷ []
Spells kind.Not d = d ≡ 126 ∷ []
Spells kind.And d = d ≡ 38 ∷ []
Spells kind.Or d = d ≡ 124 ∷ []
Spells kind.Implies d = d ≡ 61 ∷ 62 ∷ []
Spells kind.Iff d = d ≡ 60 ∷ 61 ∷ 62 ∷ []
Spells kind.Open d = d ≡ 40 ∷ []
Spells kind.Close d = d ≡ 41 ∷ []
Spells kind.OpenSet d = d ≡ 123 ∷ []
Spells kind.CloseSet d = d ≡ 125 ∷ []
Spells kind.Comma d = d ≡ 44 ∷ []
Spells kind.Colon d = d ≡ 58 ∷ []
Spells kind.Semicolon d = d ≡ 59 ∷ []
