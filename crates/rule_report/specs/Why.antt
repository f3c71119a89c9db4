-- Why the choices that come before an answer do not keep a claim.
use Rattle.std.specs.Prelude.{◌≡◌, ℕ, true, false, List, [], ◌∷◌, ◌++◌, length, codes}
use Rattle.kept_check.specs.Told.{Told}
use Rattle.kept_check.specs.declared.answer.Answer.{Answer}
use Rattle.kept_check.specs.declared.answer.Answer.TheVariants as answer
use Rattle.kept_claims.specs.declared.kept.Keeping.{Keeping}
use Rattle.rule_check.specs.declared.memory.Memory.{Memory}
use Rattle.rule_source.specs.declared.source.Source.{Source}
use Rattle.strengthen.specs.Before.{AreBefore}
use Rattle.strengthen.specs.Listed.{IsWith}
use Rattle.strengthen.specs.declared.answer.Stronger.{Stronger}
use Rattle.strengthen.specs.declared.listed.Listed.{Listed}
use Rattle.rule_report.specs.declared.options.Options.{Options}
use Rattle.rule_report.specs.Choices.{choice_words, large_words, end_of}
use Rattle.rule_report.specs.KeptWords.{breach_words}

-- what is told of a choice: of one that does not keep the claim the first row, and one row after it at least
abbrev pub why_words : Source → Options → List ℕ → Answer → List ℕ
why_words s o is answer.Kept = codes "    " ++ (choice_words is ++ codes ": kept, settled for every length\n")
why_words s o is (answer.NotKept x) = codes "    " ++ (choice_words is ++ (codes ": " ++ breach_words s o x))
why_words s o is (answer.TooLarge t) = codes "    " ++ (choice_words is ++ (codes ": too large: " ++ (large_words t ++ codes "\n")))

-- the words are an answer that is true of the claim with this choice
pub record IsWhyOf (s : Source) (o : Options) (g : Listed) (y : Memory) (is : List ℕ) (words : List ℕ) : Type 0 where
  pub keeping : Keeping
  pub is_with : IsWith g is keeping
  pub answer : Answer
  pub true_of : Told keeping y answer
  pub words_are : words ≡ why_words s o is answer

-- so of each of these choices, one behind the other
abbrev pub AreWhys : Source → Options → Listed → Memory → List (List ℕ) → List ℕ → Type 0
AreWhys s o g y [] words = words ≡ []
AreWhys s o g y (is ∷ cs) words = (u : List ℕ) × (v : List ℕ) × IsWhyOf s o g y is u × AreWhys s o g y cs v × (words ≡ u ++ v)

pub record IsWhyAll (s : Source) (o : Options) (g : Listed) (y : Memory) (a : Stronger) (words : List ℕ) : Type 0 where
  pub choices : List (List ℕ)
  pub before : AreBefore (length g.helpers.now) (end_of a) choices
  pub whys : AreWhys s o g y choices words

-- of all that come before the answer, where that is wanted
pub record IsWhy (s : Source) (o : Options) (g : Listed) (y : Memory) (a : Stronger) (words : List ℕ) : Type 0 where
  pub unwanted : o.why ≡ false → words ≡ []
  pub wanted : o.why ≡ true → IsWhyAll s o g y a words
