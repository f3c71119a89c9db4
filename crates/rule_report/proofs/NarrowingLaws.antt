-- What is found of the question of some statements.
use Rattle.std.proofs.Common.{◌≡◌, ℕ, Bool, Result, Ok, Err, MatchBool, List, sym, subst, inl, inr}
use Rattle.claims.specs.declared.encode.Refusal.{Refusal}
use Rattle.claims.specs.declared.encode.Refusal.TheVariants.{TooManyBytes, TooManySets, OutOfMemory}
use Rattle.rule_check.specs.declared.verdict.Verdict.{Verdict}
use Rattle.rule_check.specs.declared.verdict.Verdict.TheVariants.{Never, First, TooLarge}
use Rattle.rule_file.specs.declared.tree.Line.{Line}
use Rattle.rules.specs.declared.question.Question.{Question}
use Rattle.rules.specs.declared.property.Property.{Property}
use Rattle.rules.specs.declared.rule.Rule.{Rule}
use Rattle.rule_source.specs.declared.bits.Bits.{Bits}
use Rattle.rule_report.specs.declared.subject.Subject.{Subject}
use Rattle.rule_source.specs.Reading.{IsRuleOf}
use Rattle.rule_report.specs.Narrowing.{AsksFor, IsAnswered, IsFound, IsLarge, OfLines, SaysLarge}

-- what is so of a question of the rule of some statements
pub of_question : (P : Rule → Property → Type 0) (b : Bits) (s : Subject) (ls : List Line) (q : Question) (r : Rule) (p : Property) → q.rule.now ≡ r → q.property ≡ p → IsRuleOf b ls r → AsksFor b s p → P q.rule.now q.property → OfLines P b s ls
of_question P b s ls q r p e f is_rule asks so = record {
  rule = q.rule.now;
  property = q.property;
  is_rule = subst (λ x. IsRuleOf b ls x) (sym e) is_rule;
  asks = subst (λ x. AsksFor b s x) (sym f) asks;
  so = so;
}

weaker : (P Q : Rule → Property → Type 0) (b : Bits) (s : Subject) (ls : List Line) → ((r : Rule) (p : Property) → P r p → Q r p) → OfLines P b s ls → OfLines Q b s ls
weaker P Q b s ls f h = record { rule = h.rule; property = h.property; is_rule = h.is_rule; asks = h.asks; so = f h.rule h.property h.so }

-- too large, or an answer
pub large_or_answered : (n : ℕ) (b : Bits) (s : Subject) (ls : List Line) (found : Result Verdict Refusal) (large : Bool) → SaysLarge found large → OfLines (IsFound n found) b s ls
    → MatchBool large (OfLines (IsLarge n) b s ls) (OfLines IsAnswered b s ls)
large_or_answered n b s ls (Ok Never) large e h =
    subst (λ x. MatchBool x (OfLines (IsLarge n) b s ls) (OfLines IsAnswered b s ls)) (sym e) (weaker (IsFound n (Ok Never)) IsAnswered b s ls (λ r p t. inl t) h)
large_or_answered n b s ls (Ok (First w)) large e h =
    subst (λ x. MatchBool x (OfLines (IsLarge n) b s ls) (OfLines IsAnswered b s ls)) (sym e) (weaker (IsFound n (Ok (First w))) IsAnswered b s ls (λ r p t. inr (w.items, t)) h)
large_or_answered n b s ls (Ok (TooLarge m)) large e h =
    subst (λ x. MatchBool x (OfLines (IsLarge n) b s ls) (OfLines IsAnswered b s ls)) (sym e) (weaker (IsFound n (Ok (TooLarge m))) (IsLarge n) b s ls (λ r p t. inl (m, t)) h)
large_or_answered n b s ls (Err (TooManyBytes m)) large e h =
    subst (λ x. MatchBool x (OfLines (IsLarge n) b s ls) (OfLines IsAnswered b s ls)) (sym e)
    (weaker (IsFound n (Err (TooManyBytes m))) (IsLarge n) b s ls (λ r p t. inr (TooManyBytes m, (λ (q : TooManyBytes m ≡ OutOfMemory). cc), t)) h)
large_or_answered n b s ls (Err (TooManySets m)) large e h =
    subst (λ x. MatchBool x (OfLines (IsLarge n) b s ls) (OfLines IsAnswered b s ls)) (sym e)
    (weaker (IsFound n (Err (TooManySets m))) (IsLarge n) b s ls (λ r p t. inr (TooManySets m, (λ (q : TooManySets m ≡ OutOfMemory). cc), t)) h)
large_or_answered n b s ls (Err OutOfMemory) large e h = absurd e
