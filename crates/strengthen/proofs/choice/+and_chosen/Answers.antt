use Rattle.std.proofs.Common.{◌≡◌, ◌<◌, ℕ, suc, T, ltb, List, get_or, length, ap, sym, subst, ◌∙◌, arith}
use Rattle.formulas.specs.declared.formula.Formula.{Formula}
use Rattle.formulas.specs.declared.formula.Formula.TheVariants.{True}
use Rattle.formulas.specs.declared.name.Name.{Name}
use Rattle.formulas.specs.Names.{names}
use Rattle.keeping.specs.Breaches.{names_ok}
use Rattle.rules.proofs.ChangedLaws.{is_true, true_is}
use Rattle.rows.specs.Limits.{groups_ok}
use Rattle.strengthen.proofs.FollowLaws.{names_both}
use Rattle.strengthen.proofs.ListedLaws.{any_default, first_below, listed_names}
use Rattle.strengthen.proofs.choice.+and_chosen.Goals as goal

pub returns-clause-names : goal.returns-clause-names
returns-clause-names t c = λ b n l.
    (let own : T (names_ok b c.in_ok-front.front.value) = subst (λ (d : Formula). T (names_ok b d)) (sym c.in_ok-front.ensures.ok) (is_true _ n) in
    let helper : T (groups_ok (λ x. ltb x (suc b)) (names c.in_ok-helper.helper.value)) =
    (let qs = c.args.helpers.now in
    let i = get_or c.args.choice.now 0 0 in
    let l' : i < length qs = first_below (length qs) c.args.choice.now c.requires.below c.in-len1-up.len_at_least in
    let idx : c.index-helpers-i.result ≡ get_or qs i True = c.index-helpers-i.is ∙ any_default qs i c.index-helpers-i.result True l' in
    subst (λ (ns : List Name). T (groups_ok (λ x. ltb x (suc b)) ns)) (sym (ap names c.in_ok-helper.ensures.ok ∙ c.in_ok-copy.ensures.names ∙ ap names idx)) (listed_names b qs (is_true _ l) i l')) in
    c.in_ok-all.ensures.names b (true_is _ (names_both (λ x. ltb x (suc b)) (names c.in_ok-front.front.value) (names c.in_ok-helper.helper.value) own helper)) l)
