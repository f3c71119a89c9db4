use Rattle.std.proofs.Common.{◌≡◌, ◌+◌, ◌-◌, ◌*◌, ◌≤◌, length, get_or, take, drop, sym, subst, arith, rules}
use Rattle.line_format.specs.Line.{Decimal}
use Rattle.line_format.proofs.LineLaws.{grows, decimal_step, decimal_end}
use Rattle.line_format.proofs.line.read_number.Goals as goal
use Rattle.line_format.proofs.line.read_number.Goals.{then-d-lt48-via-then-d-lt48, then-d-lt48-via-else-d-lt48+then-d-gt57}

pub returns-then-d-lt48 : goal.returns-then-d-lt48
returns-then-d-lt48 c = λ m b w.
    (let s = c.loop-rest.rest.now in
    let h = (decimal_step s c.loop-rest.n m (search rules)).0 ((c.loop-rest.invariant.1 m).1 w.1) in
    elim c.then-d-lt48.branch [
      | then-d-lt48-via-then-d-lt48 w ↦ omega (arith, h.0, w.if-d-lt48)
      | then-d-lt48-via-else-d-lt48+then-d-gt57 w ↦ omega (arith, h.1, w.if-d-gt57)
    ])

pub returns-then-n-gt4294967295 : goal.returns-then-n-gt4294967295
returns-then-n-gt4294967295 c = λ m b w.
    (let s = c.loop-rest.rest.now in
    let h = (decimal_step s c.loop-rest.n m (search rules)).0 ((c.loop-rest.invariant.1 m).1 w.1) in
    let g = grows (take (length s - 1) (drop 1 s)) (c.loop-rest.n * 10 + (get_or s 0 0 - 48)) m h.2 in
    let e : get_or s 0 0 - 48 ≡ c.from.result = search rules in
    omega arith)

pub loop-rest-preserved : goal.loop-rest-preserved
loop-rest-preserved c =
    let s = c.loop-rest.rest.now in
    let l : 1 ≤ length s = search rules in
    let lo : 48 ≤ get_or s 0 0 = search rules in
    let hi : get_or s 0 0 ≤ 57 = search rules in
    let e : get_or s 0 0 - 48 ≡ c.from.result = search rules in
    let n = c.loop-rest.n in (
      search rules,
      λ m.
          (let p = decimal_step s n m l in
          let q = c.loop-rest.invariant.1 m in (
            λ h. q.0 (p.1 (lo, hi, subst (λ v. Decimal (n * 10 + v) (take (length s - 1) (drop 1 s)) m) (sym e) h)),
            λ h. subst (λ v. Decimal (n * 10 + v) (take (length s - 1) (drop 1 s)) m) e (p.0 (q.1 h)).2,
          )),
    )

pub returns : goal.returns
returns c = (search rules, (c.loop-rest.invariant.1 c.loop-rest.n).0 (decimal_end c.loop-rest.rest.now c.loop-rest.n (search rules)))
