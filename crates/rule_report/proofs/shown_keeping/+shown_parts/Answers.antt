use Rattle.std.proofs.Common.{◌-◌, List, ◌∷◌, length, take, drop, map, string_bytes, ap, sym, subst, arith}
use Rattle.formulas.specs.declared.formula.Formula.{Formula}
use Rattle.kept_check.proofs.PartsLaws.{first_and_rest}
use Rattle.rule_report.specs.ShownKeeping.{AreShown}
use Rattle.rule_report.proofs.shown_keeping.+shown_parts.Goals as goal

pub returns : goal.returns
returns t c =
    let o = c.args.asked.options.now in
    let k = c.args.keeping.now in
    let n = c.args.number in
    let xs = c.args.parts.now in
    let d = c.part-item.result.now in
    let rest : List Formula = map (λ x. x.now) (take (length xs - 1) (drop 1 xs)) in
    let all : AreShown o k (d ∷ rest) n (string_bytes c.in_ok-format.field-0) = (
      string_bytes c.in_ok-start.start,
      string_bytes c.in_ok-step.step,
      string_bytes c.in_ok-others.others,
      c.in_ok-start.ensures,
      c.in_ok-step.ensures,
      c.in_ok-others.ensures,
      c.in_ok-format.ensures.ok,
    ) in
    subst (λ (l : List Formula). AreShown o k l n (string_bytes c.in_ok-format.field-0)) (sym (ap (λ l. map (λ x. x.now) l) (first_and_rest xs c.part-item.result (omega (arith, c.in-len1-up.len_at_least)) c.part-item.is))) all
