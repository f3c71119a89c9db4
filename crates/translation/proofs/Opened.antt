-- What the claims about one set or two say of sets, opened.
use Rattle.std.specs.Prelude.{◌≡◌, ℕ, suc, ◌<◌, ◌↔◌, true}
use Rattle.words.specs.Words.{Sets}
use Rattle.kinds.specs.Meaning.{related}
use Rattle.kinds.specs.Relations.{Only}
use Rattle.kinds.specs.declared.relation.Relation.TheVariants.{Within, Single, Next, Before}
use Rattle.claims.specs.Claims.{within, single, next, before, Holds}

pub within_holds : (x y : ℕ) (v : Sets) → Holds (within x y) v ↔ ((i : ℕ) → v x i ≡ true → v y i ≡ true)
within_holds x y v = related (Within x y) v

pub single_holds : (x : ℕ) (v : Sets) → Holds (single x) v ↔ ((i : ℕ) × Only v x i)
single_holds x v = related (Single x) v

pub next_holds : (x y : ℕ) (v : Sets) → Holds (next x y) v ↔ ((i : ℕ) × Only v x i × Only v y (suc i))
next_holds x y v = related (Next x y) v

pub before_holds : (x y : ℕ) (v : Sets) → Holds (before x y) v ↔ ((i : ℕ) × (j : ℕ) × Only v x i × Only v y j × (i < j))
before_holds x y v = related (Before x y) v

-- of every family: each set lies within itself
pub within_itself : (x : ℕ) (v : Sets) → Holds (within x x) v
within_itself x v = (within_holds x x v).1 (λ i h. h)
