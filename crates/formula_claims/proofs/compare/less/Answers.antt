use Rattle.std.proofs.Common.{ℕ, true, ◌∷◌, ◌++◌, arith}
use Rattle.std.proofs.lemmas.Grind.{common_steps}
use Rattle.formulas.specs.Names.{names_place}
use Rattle.claims.specs.Claims.{before}
use Rattle.translation.specs.Numbers.{numbers, fresh}
use Rattle.translation.specs.Translation.{about, is_place}
use Rattle.formula_claims.specs.Scope.{number_of}
use Rattle.formula_claims.specs.Points.{set_of}
use Rattle.formula_claims.proofs.PointsLaws.{about_set_is}
use Rattle.formula_claims.proofs.compare.less.Goals as goal

pub returns : goal.returns
returns c =
    let ρ = number_of c.args.scope.now in
    let l = numbers ρ (names_place c.args.s.now ++ names_place c.args.t.now) in
    let m = fresh l in
    let n = fresh (m ∷ l) in
    let inner = λ (a : ℕ). about ρ c.args.t.now n (is_place c.args.t.now ρ n) true (λ b. before a b) in
    let is_t = about_set_is ρ c.args.t.now n (is_place c.args.t.now ρ n) true (λ b. before (set_of ρ c.args.s.now m) b) in
    let is_s = about_set_is ρ c.args.s.now m (is_place c.args.s.now ρ m) true inner in
    grind (arith, common_steps, is_t, is_s)
