use Rattle.std.proofs.Common.{◌≡◌, ◌^◌, ◌<◌, drop}
use Rattle.bitsets.specs.Intern.{hashed}
use Rattle.bitsets.proofs.intern.bucket.Given as goal

-- the words that are left, mixed into h, give the hash
abbrev pub invariant-loop-word : goal.invariant-loop-word
invariant-loop-word l = (l.h < 2 ^ 32) × (hashed l.h (drop l.word-index l.row) ≡ hashed 1 l.row)
