-- The first word of a claim, as rows have it.
use Rattle.std.proofs.Common.{ℕ}
use Rattle.words.specs.Words.{Word}
use Rattle.claims.specs.Claims.{C, Of}
use Rattle.rows.specs.RowClaims.{First as FirstRow}
use Rattle.lengths.specs.Answer.{First}

pub first_row : (k : ℕ) (c : C) (u : Word) → First k c u → FirstRow k (Of c) u
first_row k c u t = record { columns = t.columns; holds = t.holds; first = t.first }
