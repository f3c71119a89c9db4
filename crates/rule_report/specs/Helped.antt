-- What is told of a claim and the file's helpers: with which of them it is kept.
use Rattle.std.specs.Prelude.{◌≡◌, ℕ, ◌==◌, List, [], ◌++◌, length, codes, nat_lt, if◌then◌else◌}
use Rattle.std.specs.Fmt.{decimal}
use Rattle.kept_check.specs.declared.answer.Answer.{Answer}
use Rattle.kept_check.specs.declared.answer.Answer.TheVariants as answer
use Rattle.rule_check.specs.declared.memory.Memory.{Memory}
use Rattle.rule_source.specs.Helpers.{helper_names}
use Rattle.rule_source.specs.declared.kept.Keep.{Keep}
use Rattle.rule_source.specs.declared.source.Source.{Source}
use Rattle.strengthen.specs.Told.{Told}
use Rattle.strengthen.specs.declared.answer.Stronger.{Stronger}
use Rattle.strengthen.specs.declared.answer.Stronger.TheVariants as stronger
use Rattle.strengthen.specs.declared.listed.Listed.{Listed}
use Rattle.rule_report.specs.declared.options.Options.{Options}
use Rattle.rule_report.specs.Choices.{called, choice_words, large_words}
use Rattle.rule_report.specs.Why.{IsWhy}

-- of which choices it is said that none keeps the claim, where there are so many helpers
abbrev pub any_of : ℕ → List ℕ
any_of n =
    if n == 1 then codes "its helper"
    else (if nat_lt 8 n then (codes "at most eight of its " ++ (decimal n ++ codes " helpers")) else (codes "its " ++ (decimal n ++ codes " helpers")))

-- what is told of an answer, by these names of the helpers
abbrev pub help_words : List (List ℕ) → Stronger → List ℕ
help_words names (stronger.With is) = codes "    kept " ++ (choice_words is.items ++ (called names is.items ++ codes "\n"))
help_words names stronger.NoneAmong = codes "    not kept with any choice of " ++ (any_of (length names) ++ codes "\n")
help_words names (stronger.TooLarge x) = codes "    " ++ (choice_words x.choice.items ++ (codes " too large: " ++ (large_words x.large ++ codes "\n")))

-- the words are an answer that is true of the claim and the helpers of the file, and before it stands of each choice that comes before why it does not keep the claim, where that is wanted
pub record IsHelped (s : Source) (o : Options) (k : Keep) (y : Memory) (words : List ℕ) : Type 0 where
  pub listed : Listed
  pub keeping : listed.keeping.now ≡ k.keeping
  pub helpers : listed.helpers.now ≡ s.helpers.items
  pub answer : Stronger
  pub true_of : Told listed y answer
  pub why : List ℕ
  pub is_why : IsWhy s o listed y answer why
  pub words_are : words ≡ why ++ help_words (helper_names s) answer

-- where the file has helpers
pub record IsHelpedBy (s : Source) (o : Options) (k : Keep) (y : Memory) (words : List ℕ) : Type 0 where
  pub none : length s.helpers.items ≡ 0 → words ≡ []
  pub some : (length s.helpers.items ≡ 0 → ⊥) → IsHelped s o k y words

-- and where the claim is not known to be kept by itself
abbrev pub TellsHelp : Source → Options → Keep → Memory → Answer → List ℕ → Type 0
TellsHelp s o k y answer.Kept words = words ≡ []
TellsHelp s o k y (answer.NotKept x) words = IsHelpedBy s o k y words
TellsHelp s o k y (answer.TooLarge t) words = IsHelpedBy s o k y words
