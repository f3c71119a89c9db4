-- Two rows written one behind the other, and what an answer on a name says of the call's bytes and numbers.
use Rattle.std.proofs.Common.{◌≡◌, ◌≤◌, ◌*◌, ◌-◌, ◌++◌, ℕ, List, length, take, drop, refl, ap, subst, inr, ◌∙◌, arith}
use Rattle.std.proofs.Math.Seq.{take-append_seam}
use Rattle.std.proofs.lemmas.Slice.{drop-append-drop}
use borrow.Rule.Slice.PartMut.{post_of, Post-is}
use Rattle.rows.proofs.StepLaws.{as_long}
use Rattle.rule_check.specs.declared.memory.Memory.{Memory}
use Rattle.kept_check.specs.declared.answer.Answer.TheVariants as told
use Rattle.kept_source.specs.Named.{Named}
use Rattle.kept_source.specs.declared.in_file.InFile.{InFile}
use Rattle.kept_source.specs.declared.in_file.InFile.TheVariants as answer
use Rattle.export.specs.KeptVerdict.{AreAsLong, OutcomeOf}
use Rattle.export.specs.declared.kept_outcome.KeptOutcome.TheVariants as outcome

behind_row : (row o : List ℕ) → post_of (length row) (2 * length row - length row) (row ++ drop (length row) o) ≡ drop (2 * length row) o
behind_row row o = Post-is (length row) (2 * length row) (row ++ drop (length row) o) (omega arith) ∙ drop-append-drop (length row) o row (2 * length row) (omega arith) refl

-- a row is written over the first columns, and another over as many behind it
pub two_rows : (n : ℕ) (row after x y o : List ℕ) → n ≡ length row → x ≡ row → y ≡ after → take n (x ++ drop n o) ++ (y ++ post_of n (2 * n - n) (x ++ drop n o)) ≡ row ++ (after ++ drop (2 * length row) o)
two_rows n row after x y o e f g =
    rw (e, f, g) (ap (λ z. z ++ (after ++ post_of (length row) (2 * length row - length row) (row ++ drop (length row) o))) (take-append_seam row (drop (length row) o)) ∙ ap (λ z. row ++ (after ++ z)) (behind_row row o))

answered : (text name : List ℕ) (most words : ℕ) (y : Memory) → y.most ≡ most → y.words ≡ words → (a : InFile) → Named text name y a → OutcomeOf text name most words (outcome.InFile a)
answered text name most words y m w answer.NotRead h = subst (λ (n : ℕ). 1048576 ≤ n) w y.enough
answered text name most words y m w answer.NoSuchClaim h = inr (y, m, w, h)
answered text name most words y m w (answer.Judged a) h = (y, m, w, h)

-- what is promised of a text and a name is promised of their bytes
pub outcome_of : (text name : List ℕ) (most words : ℕ) (y : Memory) → y.most ≡ most → y.words ≡ words → (t n : List ℕ) → t ≡ text → n ≡ name → (a : InFile) → Named t n y a → OutcomeOf text name most words (outcome.InFile a)
outcome_of text name most words y m w t n e f a h =
    subst (λ (u : List ℕ). OutcomeOf u name most words (outcome.InFile a)) e
    (subst (λ (v : List ℕ). OutcomeOf t v most words (outcome.InFile a)) f (answered t n most words y m w a h))

-- the row after is as long as the row
pub are_as_long : (text name : List ℕ) (y : Memory) (a : InFile) → Named text name y a → AreAsLong (outcome.InFile a)
are_as_long text name y answer.NotRead h = tt
are_as_long text name y answer.NoSuchClaim h = tt
are_as_long text name y (answer.Judged told.Kept) h = tt
are_as_long text name y (answer.Judged (told.NotKept x)) (s, read, j) =
    let r = j.keep.keeping.rule.now in
    ap length j.told.next ∙ as_long r.layout r.bits r.table.items x.row.items
are_as_long text name y (answer.Judged (told.TooLarge t)) h = tt
