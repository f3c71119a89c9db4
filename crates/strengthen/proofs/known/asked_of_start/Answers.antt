use Rattle.std.proofs.Common.{Bool, ap, sym, subst, ◌∙◌, arith}
use Rattle.formulas.specs.declared.formula.Formula.{Formula}
use Rattle.keeping.specs.Breaches.{names_ok}
use Rattle.std.specs.Prelude.{IsTrue}
use Rattle.rules.proofs.ChangedLaws.{true_is}
use Rattle.keeping.specs.declared.moment.Moment.TheVariants.{Start}
use Rattle.strengthen.specs.Follow.{Follows}
use Rattle.strengthen.specs.Listed.{claim_at}
use Rattle.strengthen.proofs.KnownLaws.{said_begins, said_left}
use Rattle.strengthen.proofs.ListedLaws.{claim_names}
use Rattle.strengthen.proofs.known.asked_of_start.Goals as goal

pub follows-requires : goal.follows-requires
follows-requires g c =
    let x = c.args.problem.given in
    record { names = subst (λ (d : Formula). IsTrue (names_ok x.keeping.now.rule.now.bits d)) (sym c.claim-claim.ensures) (true_is _ (claim_names x c.args.j c.requires)) }

pub returns-clause-begins : goal.returns-clause-begins
returns-clause-begins g c = λ e.
    (let x = c.args.problem.given in
    let o : Follows x.keeping.now (claim_at x c.args.j) Start c.in_ok-followed.followed = subst (λ (d : Formula). Follows x.keeping.now d Start c.in_ok-followed.followed) c.claim-claim.ensures c.in_ok-followed.ensures in
    said_begins x c.args.j c.requires c.in_ok-followed.followed o (sym (ap (λ (p : Bool × Bool). p.0) c.said_of.ensures) ∙ e))

pub returns-clause-left : goal.returns-clause-left
returns-clause-left g c = λ e.
    (let x = c.args.problem.given in
    let o : Follows x.keeping.now (claim_at x c.args.j) Start c.in_ok-followed.followed = subst (λ (d : Formula). Follows x.keeping.now d Start c.in_ok-followed.followed) c.claim-claim.ensures c.in_ok-followed.ensures in
    said_left x c.args.j c.in_ok-followed.followed o (sym (ap (λ (p : Bool × Bool). p.1) c.said_of.ensures) ∙ e))
