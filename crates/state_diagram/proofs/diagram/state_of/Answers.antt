use Rattle.std.proofs.Common.{◌≡◌, ◌*◌, ◌%◌, ◌^◌, ◌≤◌, ◌∷◌, [], sym, ap, ◌∙◌, get_or-take, pow_mono, arith, rules}
use Rattle.std.proofs.Math.Nat.{mod-lt}
use Rattle.std.proofs.lemmas.List.{length-take-le}
use Rattle.std.proofs.lemmas.Nat.{one_shl, pow_pos}
use Rattle.state_diagram.proofs.diagram.state_of.Goals as goal

pub is_named-requires-clause-wide : goal.is_named-requires-clause-wide
is_named-requires-clause-wide c = let p : 2 ^ c.args.named ≤ 2 ^ c.args.automaton.now.sets = pow_mono c.requires.sets in omega (arith, p, c.row-row.ensures.columns)

pub slice_bounds-transitions-end : goal.slice_bounds-transitions-end
slice_bounds-transitions-end c =
    let w : (1 * 2 ^ c.args.named) % 2 ^ 64 ≡ 2 ^ c.args.named = one_shl c.args.named 64 (omega (arith, c.requires.sets, c.args.automaton.now.narrow)) in
    let p : 2 ^ c.args.named ≤ 2 ^ c.args.automaton.now.sets = pow_mono c.requires.sets in
    sym (length-take-le _ c.row-row.result.now (omega (arith, w, p, c.row-row.ensures.columns)))

pub transitions-requires : goal.transitions-requires
transitions-requires c =
    let w : (1 * 2 ^ c.args.named) % 2 ^ 64 ≡ 2 ^ c.args.named = one_shl c.args.named 64 (omega (arith, c.requires.sets, c.args.automaton.now.narrow)) in
    let p : 2 ^ c.args.named ≤ 2 ^ c.args.automaton.now.sets = pow_mono c.requires.sets in
    record { whole = length-take-le _ c.row-row.result.now (omega (arith, w, p, c.row-row.ensures.columns)) ∙ w }

pub returns : goal.returns
returns c =
    let w : (1 * 2 ^ c.args.named) % 2 ^ 64 ≡ 2 ^ c.args.named = one_shl c.args.named 64 (omega (arith, c.requires.sets, c.args.automaton.now.narrow)) in
    let row = c.row-row.result.now in
    let n = c.args.named in
    record {
      accepts_same = c.accepts-accepts.ensures;
      leads_same = λ a h.
          (let l = mod-lt a (pow_pos n) in
          let same = c.is_named.ensures.named (search rules) a (omega (arith, h, c.row-row.ensures.columns)) in
          c.in_ok-transitions.ensures.leads a ∙ ap (λ x. x ∷ []) (get_or-take _ row (a % 2 ^ n) 0 (omega (arith, w, l)) ∙ sym same ∙ c.row-row.ensures.leads a h));
      letters = c.in_ok-transitions.ensures.letters;
    }
