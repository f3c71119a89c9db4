use Rattle.rule_source.specs.Asking.{Asks}
use Rattle.rule_source.proofs.NamesLaws.{all_push}
use Rattle.rule_source.proofs.claimed.push_claim.Goals as goal

pub returns-in_ok-push-in-Some-clause-each : goal.returns-in_ok-push-in-Some-clause-each
returns-in_ok-push-in-Some-clause-each c =
    all_push (Asks c.args.source.now) c.args.claims.now.items c.push.new.self.items c.in_ok-claim_of-in-Some.field-0 c.in_ok-push-in-Some.ensures.items c.in_ok-claim_of-in-Some.ensures.asks
