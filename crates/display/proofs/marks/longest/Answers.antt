use Rattle.std.proofs.Common.{length, unwrap_or, ap, sym, ◌∙◌, max, rules, tests}
use Rattle.std.proofs.lemmas.Iterator.{YieldsList-from_slice, YieldsList-from_map}
use Rattle.std.proofs.lemmas.Iterator.Consumers.{reduce_from_yields_List}
use Rattle.std.proofs.lemmas.List.Folds.{max_of_map, fold-map}
use Rattle.display.proofs.marks.longest.Goals as goal

pub returns : goal.returns
returns c =
    c.unwrap_or.ensures
    ∙ ap (λ o. unwrap_or o 0)
    (reduce_from_yields_List _ c.map.result _ c.max.ensures.ran
    (YieldsList-from_map _ (λ name. length name.now) (YieldsList-from_slice c.args.names.now cc) c.map.ensures.closure (λ x b q k. search (rules, tests))))
    ∙ max_of_map (λ name. length name.now) c.args.names.now
    ∙ sym (fold-map (λ most name. max most (length name)) (λ name. name.now) 0 c.args.names.now)
