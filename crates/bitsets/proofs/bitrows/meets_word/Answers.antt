use Rattle.std.proofs.Common.{◌≡◌, ◌+◌, ◌/◌, true, length, inl, inr, arith}
use mathlib.Core.Bool.{false≢true}
use Rattle.std.proofs.lemmas.Bool.{eqb-true}
use Rattle.tables.specs.Cells.{accepts}
use Rattle.bitsets.specs.Bitrows.{SomeBit}
use Rattle.bitsets.proofs.BitrowsLaws.{some_bit_later, some_bit_split, some_bit_none, bits_below_now, bits_below_later}
use Rattle.bitsets.proofs.bitrows.meets_word.Goals as goal
use Rattle.bitsets.proofs.bitrows.meets_word.Goals.{else-left-eq1-via-then-left-eq1+else-accept-q-eq1, else-left-eq1-via-else-left-eq1}

pub bounds-accept-q : goal.bounds-accept-q
bounds-accept-q c = let h = bits_below_now (length c.args.accept.now) c.loop-left.q c.loop-left.left c.loop-left.invariant.0 c.if-left-eq1.true in omega arith

-- the bit at hand is not set, or its class does not accept: what is said is said by the others
passed : (c : goal.Joined-else-left-eq1) → SomeBit (λ q. accepts c.args.accept.now q ≡ true) c.loop-left.q c.loop-left.left → SomeBit (λ q. accepts c.args.accept.now q ≡ true) (c.loop-left.q + 1) (c.loop-left.left / 2)
passed c s = elim (some_bit_split (λ q. accepts c.args.accept.now q ≡ true) c.loop-left.q c.loop-left.left s) [
  | inl p ↦ elim c.else-left-eq1.branch [
    | else-left-eq1-via-then-left-eq1+else-accept-q-eq1 w ↦ absurd (w.if-accept-q-eq1.false (eqb-true _ 1 p.1))
    | else-left-eq1-via-else-left-eq1 w ↦ absurd (w.if-left-eq1.false p.0)
  ]
  | inr t ↦ t
]

pub loop-left-preserved : goal.loop-left-preserved
loop-left-preserved c = (
  bits_below_later (length c.args.accept.now) c.loop-left.q c.loop-left.left c.loop-left.invariant.0,
  omega arith,
  (
    λ s. c.loop-left.invariant.2.0 (some_bit_later (λ q. accepts c.args.accept.now q ≡ true) c.loop-left.q c.loop-left.left s),
    λ s. passed c (c.loop-left.invariant.2.1 s),
  ),
)

pub returns : goal.returns
returns c = (λ e. absurd (false≢true e), λ s. absurd (some_bit_none (λ q. accepts c.args.accept.now q ≡ true) c.loop-left.q (rw c.loop-left-test.false at (c.loop-left.invariant.2.1 s))))
