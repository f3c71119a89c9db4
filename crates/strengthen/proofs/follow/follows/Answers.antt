use Rattle.std.proofs.Common.{◌≡◌, List, map, sym, subst, arith}
use Rattle.std.proofs.lemmas.Grind.{common_steps}
use Rattle.formulas.specs.declared.formula.Formula.{Formula}
use Rattle.rules.proofs.ChangedLaws.{is_true}
use Rattle.kept_check.specs.Parts.{NamesOk, parts}
use Rattle.kept_check.proofs.PartsLaws.{parts_named}
use Rattle.strengthen.specs.Follow.{AllFollow}
use Rattle.strengthen.proofs.FollowLaws.{by_parts}
use Rattle.strengthen.proofs.follow.follows.Goals as goal

pub parts_follow-requires : goal.parts_follow-requires
parts_follow-requires g c =
    let k = c.args.asked.keeping.now in
    let items : map (λ d. d.now) c.deref.result.now ≡ parts c.args.claim.now = grind (arith, common_steps, c.deref.ensures.value, c.in_ok-put_parts.ensures, c.new-parts.ensures.items) in
    record { names = subst (λ (l : List Formula). NamesOk k.rule.now.bits l) (sym items) (parts_named k.rule.now.bits c.args.claim.now (is_true _ c.requires.names)) }

pub returns : goal.returns
returns g c =
    let k = c.args.asked.keeping.now in
    let items : map (λ d. d.now) c.deref.result.now ≡ parts c.args.claim.now = grind (arith, common_steps, c.deref.ensures.value, c.in_ok-put_parts.ensures, c.new-parts.ensures.items) in
    by_parts k c.args.claim.now (is_true _ c.requires.names) c.args.moment c.in_ok-followed.followed (subst (λ (l : List Formula). AllFollow k l c.args.moment c.in_ok-followed.followed) items c.in_ok-followed.ensures)
