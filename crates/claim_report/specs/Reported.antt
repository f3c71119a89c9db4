-- What is reported of a text that is read.
use Rattle.std.specs.Prelude.{◌≡◌, ℕ, is_some, List, ◌++◌, codes}
use Rattle.std.specs.Fmt.{decimal}
use Rattle.display.specs.Hex.{hex_of}
use Rattle.workspace.specs.Floor.{Room}
use Rattle.trees.specs.declared.tree.Item.{Item}
use Rattle.solve.specs.declared.answer.Answer.{Answer}
use Rattle.solve.specs.Answers.{Answers}
use Rattle.solve.specs.Questions.{HoldsOf, FailsOf, Puts, names_of as names_in}
use Rattle.claim_report.specs.Subjects.{nothing, subject_from}
use Rattle.claim_report.specs.Named.{names_of, line_names}
use Rattle.claim_report.specs.Told.{told_of, columns_told}
use Rattle.claim_report.specs.Placed.{IsPlaceOf, IsTooLarge}
use Rattle.claim_report.specs.Drawn.{IsAutomaton, IsDrawn}
use Rattle.claim_report.specs.declared.automaton.Smallest.{Smallest}
use Rattle.claim_report.specs.declared.automaton.Smallest.TheVariants.{Automaton as Found, TooLarge}
use Rattle.syntax.specs.Reads.{IsReadAs}
use Rattle.claim_report.specs.declared.report.Form.{Form}
use Rattle.claim_report.specs.declared.report.Form.TheVariants.{Rows, Columns}
use Rattle.claim_report.specs.declared.report.Wish.{Wish}
use Rattle.claim_report.specs.declared.report.Wish.TheVariants.{Answer as Asked, Automaton, Bytes}

-- how an answer is told
abbrev pub told : Form → List Item → Answer → List ℕ
told Rows items a = let s = subject_from nothing items in told_of s (line_names (is_some s.shape) (names_of items)) a
told Columns items a = columns_told a

-- a line of the line tool
abbrev pub line_of : ℕ → List ℕ → List ℕ
line_of most claim = decimal most ++ (codes " " ++ (hex_of claim ++ codes "\n"))

-- the words tell an answer that is true of the text; where it is too large, where that is stands behind
pub record Reported (file text : List ℕ) (form : Form) (items : List Item) (printed : List ℕ) : Type 0 where
  pub answer : Answer
  pub true_of : Answers items answer
  pub place : List ℕ
  pub placed : IsPlaceOf file text items answer place
  pub printed_is : printed ≡ told form items answer ++ place

-- how many classes may be told apart, and the bytes of the claim, in hex digits; the same of its opposite
pub record IsLines (items : List Item) (printed : List ℕ) : Type 0 where
  pub most : ℕ
  pub holds : List ℕ
  pub fails : List ℕ
  pub put : Puts (names_in items) (HoldsOf items) holds
  pub opposite : Puts (names_in items) (FailsOf items) fails
  pub fits : Room holds most × Room fails most
  pub printed_is : printed ≡ line_of most holds ++ line_of most fails

-- the smallest automaton of the text's claim is one that can be drawn; or the words tell how many classes do not suffice for it, and where
abbrev pub Shows : List ℕ → List ℕ → List Item → Smallest → List ℕ → Type 0
Shows file text items (Found t) printed = IsDrawn items t
Shows file text items (TooLarge n) printed = IsTooLarge file text items n printed

abbrev pub ShowsAutomaton : List ℕ → List ℕ → List Item → List ℕ → Type 0
ShowsAutomaton file text items printed = (a : Smallest) × IsAutomaton items a × Shows file text items a printed

-- the words are what is wanted of a text in a file of this name
abbrev pub Fulfils : List ℕ → List ℕ → Wish → List ℕ → Type 0
Fulfils file text (Asked form) printed = (items : List Item) × IsReadAs text items × Reported file text form items printed
Fulfils file text (Automaton drawing) printed = (items : List Item) × IsReadAs text items × ShowsAutomaton file text items printed
Fulfils file text Bytes printed = (items : List Item) × IsReadAs text items × IsLines items printed
