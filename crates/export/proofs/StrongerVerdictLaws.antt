-- What an answer on a claim and a list of helpers says of the call's bytes and numbers.
use Rattle.std.proofs.Common.{◌≡◌, ◌≤◌, ℕ, List, subst, inr}
use Rattle.kept_source.specs.Strengthened.{Strengthened}
use Rattle.kept_source.specs.declared.helped.Helped.{Helped}
use Rattle.kept_source.specs.declared.helped.Helped.TheVariants as answer
use Rattle.rule_check.specs.declared.memory.Memory.{Memory}
use Rattle.export.specs.StrongerVerdict.{OutcomeOf}
use Rattle.export.specs.declared.stronger_outcome.StrongerOutcome.TheVariants as outcome

answered : (text name : List ℕ) (most words : ℕ) (y : Memory) → y.most ≡ most → y.words ≡ words → (a : Helped) → Strengthened text name y a → OutcomeOf text name most words (outcome.InFile a)
answered text name most words y m w answer.NotRead h = subst (λ (n : ℕ). 1048576 ≤ n) w y.enough
answered text name most words y m w answer.NoSuchClaim h = inr (y, m, w, h)
answered text name most words y m w (answer.Answered a) h = (y, m, w, h)

-- what is promised of a text and a name is promised of their bytes
pub outcome_of : (text name : List ℕ) (most words : ℕ) (y : Memory) → y.most ≡ most → y.words ≡ words → (t n : List ℕ) → t ≡ text → n ≡ name → (a : Helped) → Strengthened t n y a → OutcomeOf text name most words (outcome.InFile a)
outcome_of text name most words y m w t n e f a h =
    subst (λ (u : List ℕ). OutcomeOf u name most words (outcome.InFile a)) e
    (subst (λ (v : List ℕ). OutcomeOf t v most words (outcome.InFile a)) f (answered t n most words y m w a h))
