use Rattle.std.proofs.Common.{◌≡◌, ℕ, List, ◌++◌, length, string_bytes, ap, sym, subst, ◌∙◌, arith}
use Rattle.strengthen.specs.Listed.{Below}
use Rattle.rule_report.specs.Why.{IsWhyOf}
use Rattle.rule_report.proofs.HelpedLaws.{below_at, whys_more}
use Rattle.rule_report.proofs.why.whys.Goals as goal

pub why_of-requires : goal.why_of-requires
why_of-requires g c =
    let n = length c.args.given.helpers.now in
    subst (λ (is : List ℕ). Below n is) (sym c.deref.ensures.value) (below_at n c.args.choices.now c.loop-choice.choice-index c.choice-item.result (omega arith) c.choice-item.is c.requires)

pub loop-choice-preserved : goal.loop-choice-preserved
loop-choice-preserved g c =
    let s = c.args.asked.source.now in
    let o = c.args.asked.options.now in
    let y = c.args.memory in
    let old = string_bytes c.loop-choice.words in
    let more = string_bytes c.in_ok-why.why in
    let why : IsWhyOf s o c.args.given y c.choice-item.result.items more = subst (λ (is : List ℕ). IsWhyOf s o c.args.given y is more) c.deref.ensures.value c.in_ok-why.ensures in
    let words : string_bytes c.push_str.new.self ≡ old ++ more = c.in_ok-push_str.ensures.bytes ∙ ap (λ (x : List ℕ). old ++ x) c.as_str.ensures.value in
    whys_more s o c.args.given y c.args.choices.now c.loop-choice.choice-index c.choice-item.result old more (string_bytes c.push_str.new.self) (omega arith) c.choice-item.is c.loop-choice.invariant why words
