use Rattle.std.proofs.Common.{◌≡◌, true, length, refl, inl, inr, arith}
use mathlib.Core.Bool.{false≢true}
use Rattle.tables.specs.Cells.{accepts}
use Rattle.bitsets.proofs.BitrowsLaws.{word_bits, word_here, word_split, has_below}
use Rattle.bitsets.proofs.bitrows.meets.Goals as goal

pub meets_word-requires : goal.meets_word-requires
meets_word-requires c = record { inside = word_bits c.args.row.now c.loop-z.z (omega arith) (length c.args.accept.now) c.requires.inside; small = omega arith }

pub returns-then-meets_word : goal.returns-then-meets_word
returns-then-meets_word c =
    (λ _. (let (q, h, e, p) = word_here c.args.row.now c.loop-z.z (omega arith) (λ q. accepts c.args.accept.now q ≡ true) (c.meets_word.ensures.0 c.if-meets_word.true) in (q, e, p)), λ _. refl)

pub loop-z-preserved : goal.loop-z-preserved
loop-z-preserved c s = elim (word_split c.args.row.now c.loop-z.z (omega arith) (λ q. accepts c.args.accept.now q ≡ true) s) [
  | inl t ↦ c.loop-z.invariant t
  | inr t ↦ false≢true (c.if-meets_word.ensures.1 t)
]

pub returns : goal.returns
returns c = (λ e. absurd (false≢true e), λ s. absurd (c.loop-z.invariant (s.0, (let h = has_below c.args.row.now s.0 s.1 in omega arith), s.1, s.2)))
