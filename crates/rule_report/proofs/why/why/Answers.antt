use Rattle.std.proofs.Common.{ℕ, List, All, Vec, length, map, sym, subst}
use Rattle.std.specs.Global.{Global}
use Rattle.strengthen.specs.Listed.{Below}
use Rattle.rule_report.proofs.HelpedLaws.{all_below}
use Rattle.rule_report.proofs.why.why.Goals as goal

pub whys-requires : goal.whys-requires
whys-requires g c =
    let n = length c.args.given.helpers.now in
    subst (λ (xs : List (Vec ℕ Global)). All (Below n) (map (λ v. v.items) xs)) (sym c.deref.ensures.value) (all_below n _ _ c.in_ok-choices.ensures)
