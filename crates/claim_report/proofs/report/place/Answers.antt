use Rattle.std.proofs.Common.{Some, None, rules}
use Rattle.claim_report.proofs.report.place.Goals as goal

pub returns-in_ok-begins-in-Some : goal.returns-in_ok-begins-in-Some
returns-in_ok-begins-in-Some c = (Some c.in-Some.span, rw c.in-Some.is at c.in_ok-span.ensures, c.in_ok-begins-in-Some.ensures)

pub returns-in_ok-format-in-None : goal.returns-in_ok-format-in-None
returns-in_ok-format-in-None c = (None, rw c.in-None.is at c.in_ok-span.ensures, search (rules, c.in_ok-format-in-None.ensures.ok))
