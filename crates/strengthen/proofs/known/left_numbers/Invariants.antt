use Rattle.std.proofs.Common.{◌≡◌, ℕ, suc, ◌<◌, true, length, slice_index_or}
use Rattle.formulas.specs.Names.{Among}
use Rattle.strengthen.specs.Listed.{Below}
use Rattle.strengthen.proofs.known.left_numbers.Given as goal

abbrev pub invariant-loop-j : goal.invariant-loop-j
invariant-loop-j l = record {
  below : (n : ℕ) → length l.left ≡ suc n → Below n l.numbers.items;
  all : (i : ℕ) → suc i < l.j → slice_index_or l.left (suc i) true ≡ true → Among i l.numbers.items;
}
