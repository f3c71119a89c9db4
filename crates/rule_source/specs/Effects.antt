-- What the lines of a table say: when a line counts, and what it does.
use Rattle.std.specs.Prelude.{ℕ, ◌==◌, ◌≤◌, ◌<◌, Bool, true, false, cond, Option, Some, None, All, List, [], ◌∷◌, ◌++◌, length, map}
use Rattle.std.specs.List.{filter_map, range_with_len}
use Rattle.rows.specs.Rules as rules
use Rattle.rows.specs.declared.rule.NewBit.{NewBit}
use Rattle.rows.specs.declared.rule.NewBit.TheVariants.{Fixed, AsWas}
use Rattle.rows.specs.declared.rule.Side.TheVariants as side
use Rattle.rule_file.specs.declared.token.Token.{Token}
use Rattle.rule_file.specs.declared.tree.Change.{Change}
use Rattle.rule_file.specs.declared.tree.Change.TheVariants as change
use Rattle.rule_file.specs.declared.tree.Effects.{Effects}
use Rattle.rule_file.specs.declared.tree.Line.{Line}
use Rattle.rule_file.specs.declared.tree.Motion.{Motion}
use Rattle.rule_file.specs.declared.tree.Motion.TheVariants as motion
use Rattle.rule_file.specs.declared.tree.Pattern.{Pattern}
use Rattle.rule_file.specs.declared.tree.Source.{Source}
use Rattle.rule_file.specs.declared.tree.Source.TheVariants as source
use Rattle.rule_file.specs.declared.tree.Statement.{Statement}
use Rattle.rule_file.specs.declared.tree.Statement.TheVariants as statement
use Rattle.rule_source.specs.Patterns.{literals_in, number}
use Rattle.rule_source.specs.declared.bits.Bits.{Bits}

-- the name of the bit that a change is of
abbrev pub changed : Change → Token
changed (change.Set t) = t
changed (change.Clear n t) = t
changed (change.AsWas t e s) = t

-- as a bit of the module was, or of the neighbour that is named
abbrev pub as_was : Bits → Source → NewBit
as_was b (source.Own t) = AsWas side.Own (number b t)
as_was b (source.Left l d t) = AsWas side.Left (number b t)
as_was b (source.Right r d t) = AsWas side.Right (number b t)

-- the value that a change gives its bit
abbrev pub value : Bits → Change → NewBit
value b (change.Set t) = Fixed true
value b (change.Clear n t) = Fixed false
value b (change.AsWas t e s) = as_was b s

-- what changes say of bit j
abbrev pub said_by : Bits → ℕ → Change → Option NewBit
said_by b j c = cond (number b (changed c) == j) (Some (value b c)) None

abbrev pub said : Bits → ℕ → List Change → List NewBit
said b j cs = filter_map (said_by b j) cs

abbrev pub changes : Effects → List Change
changes e = e.before.items ++ e.after.items

-- the first, or what stands for it where there is none
abbrev pub first_or : NewBit → List NewBit → NewBit
first_or d [] = d
first_or d (n ∷ ns) = n

-- bit j after the step: what the change that names it says, and where none does the bit as it was
abbrev pub bit_after : Bits → Effects → ℕ → NewBit
bit_after b e j = first_or (AsWas side.Own j) (said b j (changes e))

-- no two changes name the same bit
abbrev pub AreApart : Bits → Effects → Type 0
AreApart b e = (j : ℕ) → j < length b.names.items → length (said b j (changes e)) ≤ 1

abbrev pub moves : Motion → Bool
moves (motion.Moves t) = true
moves (motion.Waits t) = false

-- a line of the table: its pattern, each bit of the module after the step, from 0 on, and whether the module moves
abbrev pub line_in : Bits → Pattern → Effects → rules.Line
line_in b p e = record { when = literals_in b p; bits = map (bit_after b e) (range_with_len 0 (length b.names.items)); moves = moves e.motion }

abbrev pub line_by : Bits → Statement → Option rules.Line
line_by b (statement.Line p a e) = Some (line_in b p e)
line_by b _ = None

-- the lines of the table, in their order
abbrev pub table_in : Bits → List Line → List rules.Line
table_in b ls = filter_map (λ l. line_by b l.statement) ls

-- a line of the table names no bit twice
abbrev pub NamesOnce : Bits → Statement → Type 0
NamesOnce b (statement.Line p a e) = AreApart b e
NamesOnce b _ = Unit {0}

abbrev pub AllNameOnce : Bits → List Line → Type 0
AllNameOnce b ls = All (λ l. NamesOnce b l.statement) ls
