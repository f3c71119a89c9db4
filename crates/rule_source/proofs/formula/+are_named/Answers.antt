use Rattle.std.proofs.Common.{◌≡◌, string_bytes, sym, ap, ◌∙◌}
use Rattle.std.proofs.lemmas.Bool.{OnTrue_at, OnTrue_from}
use Rattle.std.proofs.lemmas.Bool.Decides.{Decides-eqb}
use Rattle.std.proofs.lemmas.Slice.Eq.{slice_eq-Decides}
use Rattle.trees.specs.declared.tree.Name.{Name}
use Rattle.rule_source.proofs.FormulasLaws.{same_first}
use Rattle.rule_source.proofs.formula.+are_named.Goals as goal

pub returns-then-eq : goal.returns-then-eq
returns-then-eq t c = OnTrue_from _ _ (λ h.
    let same : string_bytes c.set-item.result.text ≡ string_bytes c.name-item.result =
    (slice_eq-Decides Decides-eqb (string_bytes c.set-item.result.text) (string_bytes c.name-item.result) c.eq.result c.eq.ensures).0 c.if-eq.true in
    same_first (λ (x : Name). string_bytes x.text) (λ n. string_bytes n) c.args.sets.now c.args.names.now c.set-item.result c.name-item.result c.in-len1-up.len_at_least c.in-len1-up-names.len_at_least
    (sym (ap (λ (x : Name). string_bytes x.text) c.set-item.is) ∙ same ∙ ap (λ n. string_bytes n) c.name-item.is) (OnTrue_at h c.are_named.ensures))
