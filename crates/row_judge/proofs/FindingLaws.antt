-- From what the call says of a claim that does not hold of every word to its first word.
use Rattle.std.proofs.Common.{◌≡◌, ℕ, ◌*◌, ◌<◌, ◌≤◌, ◌⊎◌, List, length, take, sym, ap, ◌∙◌, subst, inl, inr, arith}
use Rattle.words.specs.Words.{Word}
use Rattle.claims.specs.Claims.{C}
use Rattle.claims.specs.Sizes.{Fits}
use Rattle.claims.specs.Rows.{IsClaim}
use Rattle.lengths.specs.Answer.{First}
use Rattle.lengths.specs.Says.{JudgedSays, JudgedPost}
use Rattle.lengths.specs.declared.judged.Judged.{Judged}
use Rattle.lengths.specs.declared.judged.Judged.TheVariants.{Always, NoClaim, OutFull, Few}
use Rattle.first_word.proofs.FoundLaws as found
use Rattle.first_word.proofs.ShortLaws.{short_first}
use Rattle.row_judge.specs.Finding.{NotAll, Enough}

-- with memory and room enough the call says neither that it always holds nor that it cannot be told
pub answered : (s : List ℕ) (n : ℕ) (o o' : List ℕ) (w : ℕ) (r : Judged) → JudgedPost s n o o' w r → IsClaim s → NotAll s → Enough s n w → 2 * n ≤ length o →
    (r ≡ Always) ⊎ ((r ≡ NoClaim) ⊎ (((x : ℕ) × (y : ℕ) × (r ≡ OutFull x y)) ⊎ (r ≡ Few))) → ⊥
answered s n o o' w r post claim not_all work room (inl e) =
    let (k, c, t) = claim in
    not_all k c t ((subst (JudgedSays s n o o') e post.says) k c t).1
answered s n o o' w r post claim not_all work room (inr h) =
    let (v, x, few) = post.few in
    found.answered s n o o' w r post claim v x (work v x) room h

-- the first word, as it stands in out
pub first_in_out : (k n : ℕ) (c : C) (u : Word) (o : List ℕ) (a : ℕ) → Fits k n c → First k c u → a ≡ length u → take a o ≡ u → Fits k n c × First k c (take a o) × (a ≡ length (take a o)) × (a < n)
first_in_out k n c u o a fits f e i =
    let l = short_first k n c u fits f in
    (fits, subst (First k c) (sym i) f, e ∙ ap length (sym i), omega arith)
