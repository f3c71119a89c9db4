use Rattle.std.proofs.Common.{◌≡◌, ◌+◌, ◌*◌, ◌%◌, ◌^◌, ◌<◌, ◌≤◌, ℕ, suc, get_or, length, ap, ap₂, sym, subst, ◌∙◌, arith, pow-suc, pow_mono}
use Rattle.minimal.specs.View.{leads}
use Rattle.strengthen.proofs.TableLaws.{small, column_at, one_further}
use Rattle.strengthen.proofs.table.accepts_row.Goals as goal

-- the mark's number, and the column
abbrev mark : ℕ → ℕ
mark b = 1 * 2 ^ b % 4294967296

mark_is : (b : ℕ) → b < 12 → mark b ≡ 2 ^ b
mark_is b h = (let s = small b h in omega arith)

within : (b s a : ℕ) → b < s → s ≤ 12 → a < 2 ^ b → mark b + a < 2 ^ s
within b s a h l k = (let e = mark_is b (omega arith) in let m : 2 ^ suc b ≤ 2 ^ s = pow_mono {j = s} (omega arith) in omega (arith, pow-suc 2 b))

pub overflow_add-q : goal.overflow_add-q
overflow_add-q c =
    let a = get_or c.args.row.now c.loop-i.i 0 in
    let m = within c.args.bits c.args.automaton.now.sets a c.requires.bits c.args.automaton.now.narrow (column_at c.args.bits c.args.row.now c.requires.columns c.loop-i.i (omega arith)) in
    let s : 2 ^ c.args.automaton.now.sets ≤ 2 ^ 12 = pow_mono {j = 12} c.args.automaton.now.narrow in
    omega arith

pub bounds-row-mark : goal.bounds-row-mark
bounds-row-mark c =
    let a = get_or c.args.row.now c.loop-i.i 0 in
    let m = within c.args.bits c.args.automaton.now.sets a c.requires.bits c.args.automaton.now.narrow (column_at c.args.bits c.args.row.now c.requires.columns c.loop-i.i (omega arith)) in
    let l = c.row.ensures.columns in
    omega arith

pub loop-i-preserved : goal.loop-i-preserved
loop-i-preserved c =
    let b = c.args.bits in
    let w = c.args.row.now in
    let t = c.args.automaton.now in
    let a = get_or w c.loop-i.i 0 in
    let e = mark_is b (let n = t.narrow in let l = c.requires.bits in omega arith) in
    let m = within b t.sets a c.requires.bits t.narrow (column_at b w c.requires.columns c.loop-i.i (omega arith)) in
    let next : get_or c.row.result.now (mark b + a) 0 ≡ leads t c.loop-i.q (mark b + a) = c.row.ensures.leads (mark b + a) m in
    record {
      mark_is = e;
      below = subst (λ (q : ℕ). q < length t.accepting.items) (sym next) (t.below c.loop-i.q (mark b + a) c.loop-i.invariant.below m);
      so_far = next ∙ ap₂ (λ p x. leads t p (x + a)) c.loop-i.invariant.so_far e ∙ sym (one_further (leads t) b w c.loop-i.i (omega arith));
    }
