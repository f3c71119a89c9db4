use Rattle.std.proofs.Common.{◌++◌, arith}
use Rattle.std.proofs.lemmas.Grind.{common_steps}
use Rattle.formulas.specs.Names.{names_place, names_group}
use Rattle.translation.specs.Numbers.{numbers, fresh}
use Rattle.translation.specs.Translation.{is_sure_in, is_place, is_in}
use Rattle.formula_claims.specs.Scope.{number_of}
use Rattle.formula_claims.proofs.PointsLaws.{about_set_is}
use Rattle.formula_claims.proofs.compare.lies_in.Goals as goal

pub returns : goal.returns
returns c =
    let ρ = number_of c.args.scope.now in
    let m = fresh (numbers ρ (names_place c.args.t.now ++ names_group c.args.s.now)) in
    let is = about_set_is ρ c.args.t.now m (is_place c.args.t.now ρ m) (is_sure_in c.args.s.now) (λ b. is_in c.args.s.now ρ b) in
    grind (arith, common_steps, is)
