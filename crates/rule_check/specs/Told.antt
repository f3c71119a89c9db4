-- What an answer on a property says of rows, however long.
use Rattle.std.specs.Prelude.{◌≡◌, ℕ, suc, ◌+◌, ◌<◌, ◌≤◌, ◌∷◌}
use Rattle.words.specs.Words.{Word, Columns}
use Rattle.claims.specs.Claims.{C, Of}
use Rattle.claims.specs.Sizes.{Fits}
use Rattle.claims.specs.Rows.{row}
use Rattle.claims.specs.Encoded.{sets_needed}
use Rattle.workspace.specs.Floor.{NoRoomIn}
use Rattle.rows.specs.RowClaims.{marked, First as FirstRow}
use Rattle.rules.specs.Property.{Has, claim_of}
use Rattle.rules.specs.declared.rule.Rule.{Rule}
use Rattle.rules.specs.declared.property.Property.{Property}
use Rattle.rule_check.specs.declared.verdict.Verdict.{Verdict}
use Rattle.rule_check.specs.declared.verdict.Verdict.TheVariants.{Never, First, TooLarge}

-- of a claim about k sets, with at most n classes: it holds of no word; or the row's modules are those of the first word of which it holds; or n are too few
abbrev pub Found : ℕ → ℕ → C → ℕ → Verdict → Type 0
Found b k c n Never = (u : Word) → Columns k u → Of c u → ⊥
Found b k c n (First r) = (u : Word) × FirstRow k (Of c) u × ((w : Word) → Columns b w → u ≡ marked b w → r.items ≡ w)
Found b k c n (TooLarge m) = (m ≡ n) × (Fits k n c → ⊥)

-- n classes do not suffice for the claim about k sets, and these are all that are allowed or that memory of m words has room for
pub record TooManyIn (m k : ℕ) (c : C) (most n : ℕ) : Type 0 where
  pub many : Fits k n c → ⊥
  pub within : n ≤ most
  pub memory : n < most → NoRoomIn m (k ∷ row c) (n + 1)

-- of the claim that rows of modules of b bits have a property, in memory of m words: no word has it, the row is that of the first one, or the claim is too large
abbrev pub Judged : ℕ → ℕ → C → ℕ → Verdict → Type 0
Judged m b c most Never = (u : Word) → Columns (sets_needed (suc b) c) u → Of c u → ⊥
Judged m b c most (First r) = (u : Word) × FirstRow (sets_needed (suc b) c) (Of c) u × ((w : Word) → Columns b w → u ≡ marked b w → r.items ≡ w)
Judged m b c most (TooLarge n) = TooManyIn m (sets_needed (suc b) c) c most n

-- no row of modules of b bits has the property P, however long; this row is the first that has it; or the claim that tells it is too large
abbrev pub Answered : ℕ → ℕ → (Word → Type 0) → C → ℕ → Verdict → Type 0
Answered m b P c most Never = (w : Word) → Columns b w → P w → ⊥
Answered m b P c most (First w) = FirstRow b P w.items
Answered m b P c most (TooLarge n) = TooManyIn m (sets_needed (suc b) c) c most n

-- in 4 MiB
abbrev pub TooMany : ℕ → C → ℕ → ℕ → Type 0
TooMany k c most n = TooManyIn 1048576 k c most n

-- the answer on a property of the rows of a rule
abbrev pub Told : Rule → Property → ℕ → Verdict → Type 0
Told r p most v = Answered 1048576 r.bits (Has r p) (claim_of r p) most v
