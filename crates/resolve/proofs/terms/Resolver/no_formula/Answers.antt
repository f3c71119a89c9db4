use Rattle.std.proofs.Common.{◌∙◌, Some, inr, ap}
use Rattle.resolve.specs.Scopes.{term_sort}
use Rattle.resolve.specs.Faults.{class_of_sort, other_class}
use Rattle.resolve.proofs.FaultsLaws.{place_not_formula, set_not_formula}
use Rattle.resolve.proofs.terms.Resolver.no_formula.Goals as goal

pub returns-in-Ok-Place : goal.returns-in-Ok-Place
returns-in-Ok-Place c = inr (λ _. other_class (c.in-Ok-Place.ensures.sorts ∙ ap (λ x. Some (class_of_sort (term_sort x))) c.in-Ok-Place.field-0-is) place_not_formula)

pub returns-in-Ok-Set : goal.returns-in-Ok-Set
returns-in-Ok-Set c = inr (λ _. other_class (c.in-Ok-Set.ensures.sorts ∙ ap (λ x. Some (class_of_sort (term_sort x))) c.in-Ok-Set.field-0-is) set_not_formula)
