-- The rows that show that a formula is not kept by the steps of a rule, and the claims that tell of them.
use Rattle.std.specs.Prelude.{ℕ, List, []}
use Rattle.words.specs.Words.{Word}
use Rattle.claims.specs.Claims.{C}
use Rattle.formulas.specs.declared.formula.Formula.{Formula}
use Rattle.formulas.specs.Names.{names}
use Rattle.keeping.specs.declared.moment.Moment.{Moment}
use Rattle.keeping.specs.Breaches.{breach_claim}
use Rattle.keeping.specs.Kept as kept
use Rattle.rules.specs.Changed.{changed_named}
use Rattle.rules.specs.declared.rule.Rule.{Rule}
use Rattle.kept_claims.specs.declared.kept.Keeping.{Keeping}

-- the claim is kept, as the rule's steps are
abbrev pub Kept : Keeping → Type 0
Kept k = kept.Kept k.rule.now.layout k.rule.now.bits k.rule.now.table.items k.start.now k.claim.value

-- the row shows at that moment that part d of the claim does not follow
abbrev pub Breaks : Keeping → Formula → Moment → Word → Type 0
Breaks k d m w = kept.Breaks k.rule.now.layout k.rule.now.bits k.rule.now.table.items k.start.now k.claim.value d m w

abbrev pub Broken : Keeping → Formula → Word → Type 0
Broken k d w = kept.Broken k.rule.now.layout k.rule.now.bits k.rule.now.table.items k.start.now k.claim.value d w

-- of the row after, the bits that the part names and that some line changes are sets of their own
abbrev pub changed_by : Rule → Formula → List ℕ
changed_by r d = changed_named r.bits [] (names d) r.table.items

abbrev pub claim_of : Keeping → Formula → Moment → C
claim_of k d m = breach_claim k.rule.now.layout k.rule.now.bits (changed_by k.rule.now d) k.rule.now.table.items k.start.now k.claim.value d m
