use Rattle.std.proofs.Common.{◌≡◌, ◌+◌, List, ◌∷◌, ◌-◌, length, take, drop, map, ap, sym, subst, inl, inr, arith}
use Rattle.formulas.specs.declared.formula.Formula.{Formula}
use Rattle.kept_claims.specs.Breach.{Breaks, Broken}
use Rattle.kept_check.specs.Found.{IsLarge, LargeIn, OfParts}
use Rattle.kept_check.specs.Parts.{BrokenAny, BreaksAny}
use Rattle.kept_check.proofs.FoundLaws.{together}
use Rattle.kept_check.proofs.PartsLaws.{first_and_rest}
use Rattle.kept_check.proofs.judge_kept.+judge_parts.Goals as goal

pub returns : goal.returns
returns t c =
    let a = c.args.asked in
    let k = a.keeping.now in
    let n = c.args.number in
    let d = c.part-item.result.now in
    let xs = c.args.parts.now in
    let rest : List Formula = map (λ x. x.now) (take (length xs - 1) (drop 1 xs)) in
    let both = together k.rule.now.bits (Broken k d) (BrokenAny k rest) (BrokenAny k (d ∷ rest)) (λ w h. (λ p. p, λ p. p)) (Breaks k d) (BreaksAny k rest) (BreaksAny k (d ∷ rest)) (λ m w p. inl p) (λ m w p. inr p) (λ t. (t.part ≡ n) × IsLarge a.keeping.now a.memory d t.moment t.why) (LargeIn a.keeping.now a.memory rest (n + 1)) (LargeIn a.keeping.now a.memory (d ∷ rest) n) (λ t p. inl p) (λ t p. inr p)
    c.in_ok-first.first c.in_ok-others.others c.earlier.result c.in_ok-first.ensures c.in_ok-others.ensures c.earlier.ensures in
    subst (λ (l : List Formula). OfParts a.keeping.now a.memory l n c.earlier.result) (sym (ap (λ l. map (λ x. x.now) l) (first_and_rest xs c.part-item.result (omega (arith, c.in-len1-up.len_at_least)) c.part-item.is))) both
