use Rattle.std.proofs.Common.{◌≡◌, ℕ, ◌<◌, length, get_or, arith, rules}
use Rattle.line_format.proofs.LineLaws.{no_space_before, no_space_all}
use Rattle.line_format.proofs.line.split_field.Goals as goal

pub returns-in-Some-clause-field : goal.returns-in-Some-clause-field
returns-in-Some-clause-field c =
    let h : (i : ℕ) → i < c.in-Some.end → get_or c.args.text.now i 0 ≡ 32 → ⊥ = search rules in
    no_space_before _ _ h

pub returns-in-None-clause-field : goal.returns-in-None-clause-field
returns-in-None-clause-field c =
    let h : (i : ℕ) → i < length c.args.text.now → get_or c.args.text.now i 0 ≡ 32 → ⊥ = search rules in
    no_space_all _ _ (omega arith) h
