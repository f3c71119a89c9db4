use Rattle.std.proofs.Common.{◌≡◌, ℕ, IfSome, List, ◌++◌, length, map, string_bytes, ap, sym, subst, ◌∙◌}
use Rattle.strengthen.specs.Listed.{Below}
use Rattle.rule_source.specs.Helpers.{helper_names}
use Rattle.rule_report.specs.Choices.{end_of}
use Rattle.rule_report.specs.Helped.{help_words}
use Rattle.rule_report.proofs.HelpedLaws.{end_below}
use Rattle.rule_report.proofs.helped.by_helpers.Goals as goal

-- there are as many names as helpers
pub told-requires : goal.told-requires
told-requires g c =
    let given = c.in_ok-given.given in
    let a = c.in_ok-answer.answer in
    let many : length c.deref-2.result.now ≡ length given.helpers.now =
    ap (λ ns. length ns) c.deref-2.ensures.value ∙ (c.in_ok-names.ensures.many ∙ sym (ap (λ fs. length fs) (c.in_ok-given.ensures.1 ∙ c.deref.ensures.value))) in
    subst (λ (n : ℕ). IfSome (end_of a) (Below n)) (sym many) (end_below given c.args.memory a c.in_ok-answer.ensures)

pub returns : goal.returns
returns g c =
    let why = string_bytes c.in_ok-why.why in
    let a = c.in_ok-answer.answer in
    let names : map (λ n. n.now) c.deref-2.result.now ≡ helper_names c.args.asked.source.now = ap (λ ns. map (λ n. n.now) ns) c.deref-2.ensures.value ∙ c.in_ok-names.ensures.names in
    record {
      listed = c.in_ok-given.given;
      keeping = c.in_ok-given.ensures.0;
      helpers = c.in_ok-given.ensures.1 ∙ c.deref.ensures.value;
      answer = a;
      true_of = c.in_ok-answer.ensures;
      why = why;
      is_why = c.in_ok-why.ensures;
      words_are = c.in_ok-format.ensures.ok ∙ ap (λ (w : List ℕ). why ++ w) (c.in_ok-told.ensures ∙ ap (λ (ns : List (List ℕ)). help_words ns a) names);
    }
