-- Counting by a number.
use Rattle.std.specs.Prelude.{ℕ, ◌<◌, ◌≤◌, ◌↔◌}
use Rattle.kinds.specs.declared.multiple.Multiple.{Multiple}
use Rattle.claims.specs.Claims.{multiple}
use Rattle.claims.specs.Sizes.{Fits}

-- counting by m has exactly m classes
abbrev pub CountedClasses : Type 0
CountedClasses = (k n : ℕ) (m : Multiple) → m.set < k → Fits k n (multiple m) ↔ (m.remainder.modulus ≤ n)
