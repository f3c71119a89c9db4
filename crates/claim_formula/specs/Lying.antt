-- That a place lies in a set, or not in it.
use Rattle.std.specs.Prelude.{◌≡◌, ℕ, true}
use Rattle.claims.specs.Claims.{has}
use Rattle.formulas.specs.Meaning.{Env, members}
use Rattle.claim_formula.specs.declared.connect.Lies.{Lies}
use Rattle.claim_formula.specs.declared.connect.Lies.TheVariants.{In, Out}

abbrev pub LiesAs : Lies → Env → ℕ → Type 0
LiesAs (In g) e i = has (members g e) i ≡ true
LiesAs (Out g) e i = has (members g e) i ≡ true → ⊥
