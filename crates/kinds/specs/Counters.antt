-- The machine that counts places round and round.
use Rattle.std.specs.Prelude.{ℕ, suc, cond, nat_lt, ◌==◌}
use Rattle.words.specs.Words.{bit}
use Rattle.kinds.specs.Machines.{Machine}
use Rattle.kinds.specs.declared.multiple.Multiple.{Multiple}

-- one more place: behind the last of m numbers comes 0 again
abbrev pub turn : ℕ → ℕ → ℕ
turn m q = cond (nat_lt (suc q) m) (suc q) 0

-- its states are the places so far
abbrev pub counter : Multiple → Machine ℕ
counter m = record {
  size = m.remainder.modulus;
  start = 0;
  step = λ q c. cond (bit m.set c) (turn m.remainder.modulus q) q;
  ends = λ q. q == m.remainder.rest;
}
