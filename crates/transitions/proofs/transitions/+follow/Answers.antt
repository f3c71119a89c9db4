use Rattle.std.proofs.Common.{◌≡◌, ◌+◌, ◌++◌, ◌∷◌, [], length, length-append, ap, ◌∙◌, arith, rules}
use Rattle.std.proofs.lemmas.Result.{on_ok_weaker}
use Rattle.transitions.specs.Patterns.{leads as c_leads}
use Rattle.transitions.specs.declared.pattern.Letter.TheVariants.{Zero, One, Any}
use Rattle.transitions.proofs.PatternLaws.{halved, any_step, both_step}
use Rattle.transitions.proofs.transitions.+follow.Goals as goal

pub follow-requires : goal.follow-requires
follow-requires t c = (omega arith, ap length c.deref.ensures.value ∙ halved c.args.row.now c.args.sets (length c.in_ok-without.field-0.without.items) (omega arith) c.requires.whole (search rules))

pub follow-requires-2 : goal.follow-requires-2
follow-requires-2 t c = (omega arith, ap length c.deref-2.ensures.value ∙ halved c.args.row.now c.args.sets (length c.in_ok-without.field-0.without.items) (omega arith) c.requires.whole (search rules))

pub follow-requires-3 : goal.follow-requires-3
follow-requires-3 t c = (omega arith, ap length c.deref-4.ensures.value ∙ halved c.args.row.now c.args.sets (length c.in_ok-without.field-0.with.items) (omega arith) c.requires.whole (search rules))

pub returns-then-eq-clause-leads : goal.returns-then-eq-clause-leads
returns-then-eq-clause-leads t c =
    let h = c.in_ok-without.ensures in
    let low = c.in_ok-without.field-0.without.items in
    let same : low ≡ c.in_ok-without.field-0.with.items = search rules in
    let path : c.deref-then-eq.result.now ≡ c.args.path.now ++ Any ∷ [] = c.deref-then-eq.ensures.value ∙ c.in_ok-any.ensures in
    on_ok_weaker c.follow.result (λ leads a. leads a ∙ ap (λ x. c_leads c.args.found.now.items a ++ x)
    (any_step c.args.path.now c.args.row.now low c.in_ok-without.field-0.with.items c.args.sets (omega arith) c.requires.whole (search rules) (search rules) c.deref-then-eq.result.now c.deref.result.now path c.deref.ensures.value same a)) c.follow.ensures.leads

pub returns-clause-leads : goal.returns-clause-leads
returns-clause-leads t c =
    let low = c.in_ok-without.field-0.without.items in
    let high = c.in_ok-without.field-0.with.items in
    let zero : c.deref-3.result.now ≡ c.args.path.now ++ Zero ∷ [] = c.deref-3.ensures.value ∙ c.in_ok-zero.ensures in
    let one : c.deref-5.result.now ≡ c.args.path.now ++ One ∷ [] = c.deref-5.ensures.value ∙ c.in_ok-one.ensures in
    on_ok_weaker c.follow-3.result (λ then a. both_step c.args.path.now c.args.row.now low high c.args.sets (omega arith) c.requires.whole (search rules) (search rules) c.deref-3.result.now c.deref-5.result.now c.deref-2.result.now c.deref-4.result.now zero one c.deref-2.ensures.value c.deref-4.ensures.value
    (c_leads c.args.found.now.items a) (c_leads c.follow-2.new.found.items a) (c_leads c.follow-3.new.found.items a) a (c.in_ok-follow.ensures.leads a) (then a)) c.follow-3.ensures.leads

pub returns-clause-letters : goal.returns-clause-letters
returns-clause-letters t c =
    let zero : length c.deref-3.result.now ≡ length c.args.path.now + 1 = ap length (c.deref-3.ensures.value ∙ c.in_ok-zero.ensures) ∙ length-append c.args.path.now (Zero ∷ []) in
    let one : length c.deref-5.result.now ≡ length c.args.path.now + 1 = ap length (c.deref-5.ensures.value ∙ c.in_ok-one.ensures) ∙ length-append c.args.path.now (One ∷ []) in
    on_ok_weaker c.follow-3.result (λ then n size all. then n (omega arith) (c.in_ok-follow.ensures.letters n (omega arith) all)) c.follow-3.ensures.letters
