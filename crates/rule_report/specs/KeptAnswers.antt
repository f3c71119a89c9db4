-- What is told of a claim that something is kept.
use Rattle.std.specs.Prelude.{◌≡◌, ℕ, List, [], ◌∷◌, ◌++◌, codes}
use Rattle.std.specs.Fmt.{decimal}
use Rattle.rule_check.specs.declared.memory.Memory.{Memory}
use Rattle.kept_check.specs.Told.{Told}
use Rattle.kept_check.specs.declared.answer.Answer.{Answer}
use Rattle.kept_check.specs.declared.answer.Answer.TheVariants as answer
use Rattle.rule_source.specs.declared.kept.Keep.{Keep}
use Rattle.rule_source.specs.declared.source.Source.{Source}
use Rattle.trees.specs.declared.position.Span.{Span}
use Rattle.rule_report.specs.declared.options.Options.{Options}
use Rattle.rule_report.specs.Answers.{most_of}
use Rattle.rule_report.specs.Helped.{TellsHelp}
use Rattle.rule_report.specs.KeptWords.{breach_words, moment_of, why_of}
use Rattle.rule_report.specs.ShownKeeping.{IsShown}
use Rattle.rule_report.specs.Told.{PlacedAt}

-- so many classes may be told apart, in 4 MiB
pub record IsMemory (o : Options) (y : Memory) : Type 0 where
  pub most : y.most ≡ most_of o
  pub words : y.words ≡ 1048576

-- what is told of an answer
abbrev pub IsTold : List ℕ → Source → Options → Keep → Answer → List ℕ → Type 0
IsTold file s o k answer.Kept words = words ≡ codes "  " ++ (k.name.now ++ codes ": kept, settled for every length\n")
IsTold file s o k (answer.NotKept x) words = words ≡ codes "  " ++ (k.name.now ++ (codes ": " ++ breach_words s o x))
IsTold file s o k (answer.TooLarge t) words =
    (place : List ℕ) × (span : Span) × PlacedAt file s.bits.text.now span place
    × (words ≡ codes "  " ++ (k.name.now ++ (codes ": too large: part " ++ (decimal t.part ++ (codes ", " ++ (moment_of t.moment ++ (codes ": " ++ (why_of t.why ++ (codes " at " ++ place)))))))))

-- and what its picture shows
abbrev pub drawn_of : Keep → Answer → List (List ℕ)
drawn_of k answer.Kept = []
drawn_of k (answer.NotKept x) = k.name.now ∷ []
drawn_of k (answer.TooLarge t) = []

-- the words are an answer that is true of the steps of the file's rule, the claims that were judged as they are shown, and with the help of which claims of the file it is kept
pub record IsKeptAnswer (file : List ℕ) (s : Source) (o : Options) (k : Keep) (words : List ℕ) (pictures : List (List ℕ)) : Type 0 where
  pub answer : Answer
  pub memory : Memory
  pub told : List ℕ
  pub claims : List ℕ
  pub help : List ℕ
  pub is_memory : IsMemory o memory
  pub true_of : Told k.keeping memory answer
  pub is_told : IsTold file s o k answer told
  pub shown : IsShown o k.keeping claims
  pub helped : TellsHelp s o k memory answer help
  pub words_are : words ≡ told ++ (claims ++ help)
  pub pictures_are : pictures ≡ drawn_of k answer
