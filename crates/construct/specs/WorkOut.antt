-- What working out a part says, and the memory that it is lent.
use Rattle.std.specs.Prelude.{ℕ, ◌+◌, ◌*◌, ◌^◌, ◌<◌, ◌≤◌, ◌⊎◌, List, [], length, Option}
use Rattle.claims.specs.Claims.{C, and1}
use Rattle.claims.specs.Fronts.{Front}
use Rattle.narrowing.specs.Mentioned.{widest}
use Rattle.tables.specs.declared.sheet.Shape.{Shape}
use Rattle.tables.specs.declared.sheet.Sheet.{Sheet}
use Rattle.workspace.specs.Cut.{slot_words}
use Rattle.construct.specs.declared.wanted.Wanted.{Wanted}
use Rattle.construct.specs.declared.part.Part.{Part}
use Rattle.construct.specs.Stands.{Result}

-- bytes that are one claim about k sets, and nothing behind it
abbrev pub One : ℕ → List ℕ → Type 0
One k s = (c : C) × Front k c s []

-- the bytes of a part: such a claim, of which no part mentions more than v sets
abbrev pub IsPart : ℕ → ℕ → List ℕ → Type 0
IsPart k v s = (c : C) × Front k c s [] × (widest k c ≤ v)

-- the part with bytes b is worked out as it is wanted, whichever claim about k sets it is: on a sheet
-- that was s and is u
abbrev pub WorkedOut : Wanted → ℕ → List ℕ → Sheet → Sheet → Option Part → Type 0
WorkedOut wanted k b s u r = (c : C) → Front k c b [] → Result wanted k s u c r

-- the two parts of the and with bytes s, which may stand in either order; the shorter has less than
-- half of the bytes
pub record Halves (k : ℕ) (s longer shorter : List ℕ) : Type 0 where
  pub one : C
  pub other : C
  pub long : Front k one longer []
  pub short : Front k other shorter []
  pub either : Front k (and1 one other) s [] ⊎ Front k (and1 other one) s []
  pub less : length longer < length s
  pub half : 2 * length shorter < length s
  pub bytes : 5 ≤ length s

-- so many free words are room for working out a part of b bytes: a slot for each doubling of its
-- length, less its own. A part of fewer than 2 ^ slots bytes takes as many slots: of the two parts
-- of an and the larger is worked out first, with all of them; the smaller has less than half the
-- bytes, and gets by with one fewer
pub record Lent (b : ℕ) (h : Shape) (free : ℕ) : Type 0 where
  pub slots : ℕ
  pub bytes : b < 2 ^ slots
  pub free_fits : slots * slot_words h.width h.most ≤ slot_words h.width h.most + free
