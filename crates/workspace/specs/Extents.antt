-- What is read from bytes about the claim that they are, or that they begin with.
use Rattle.std.specs.Prelude.{◌≡◌, ℕ, List, Option, Some, None, MatchOption}
use Rattle.claims.specs.Claims.{C}
use Rattle.claims.specs.Fronts.{Front}
use Rattle.claims.specs.Rows.{Claim, IsClaim}
use Rattle.narrowing.specs.Mentioned.{mentions, widest}
use Rattle.selection.specs.Selections.{chosen}
use Rattle.workspace.specs.declared.extent.Extent.{Extent}
use Rattle.workspace.specs.declared.part.Part.{Part}

-- the bytes s are no claim, or one of this extent
abbrev pub IsExtent : List ℕ → Option Extent → Type 0
IsExtent s o = MatchOption o (IsClaim s → ⊥) (λ e. (c : C) × Claim s e.sets c × (e.widest ≡ widest e.sets c))

-- the most sets that any part mentions
abbrev pub widest_of : Option Extent → ℕ
widest_of None = 0
widest_of (Some e) = e.widest

-- s begins with claim c about k sets, of which p tells
pub record Read (k : ℕ) (c : C) (s : List ℕ) (p : Part) : Type 0 where
  pub front : Front k c s p.rest.now
  pub of : p.sets.of ≡ k
  pub sets : (z : ℕ) → chosen p.sets z ≡ mentions c z
  pub widest : p.widest ≡ widest k c
