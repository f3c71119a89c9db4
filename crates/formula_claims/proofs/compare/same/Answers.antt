use Rattle.std.proofs.Common.{◌++◌, arith}
use Rattle.std.proofs.lemmas.Grind.{common_steps}
use Rattle.formulas.specs.Names.{names_place}
use Rattle.translation.specs.Numbers.{numbers, fresh}
use Rattle.translation.specs.Translation.{is_sure, is_place}
use Rattle.formula_claims.specs.Scope.{number_of}
use Rattle.formula_claims.proofs.PointsLaws.{about_set_is}
use Rattle.formula_claims.proofs.compare.same.Goals as goal

pub returns : goal.returns
returns c =
    let ρ = number_of c.args.scope.now in
    let m = fresh (numbers ρ (names_place c.args.s.now ++ names_place c.args.t.now)) in
    let is = about_set_is ρ c.args.t.now m (is_place c.args.t.now ρ m) (is_sure c.args.s.now) (λ b. is_place c.args.s.now ρ b) in
    grind (arith, common_steps, is)
