-- A column with one bit put.
use Rattle.std.specs.Prelude.{ℕ, zero, suc, ◌+◌, ◌*◌, ◌/◌, ◌%◌, Bool, cond}

-- column a with b for bit x
abbrev pub put_bit : ℕ → Bool → ℕ → ℕ
put_bit zero b a = a / 2 * 2 + cond b 1 0
put_bit (suc x) b a = put_bit x b (a / 2) * 2 + a % 2
