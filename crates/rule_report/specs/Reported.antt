-- What is reported of a rule file.
use Rattle.std.specs.Prelude.{◌≡◌, ℕ, zero, suc, ◌||◌, Bool, List, [], ◌∷◌, ◌++◌, length, map, All, codes, string_bytes, nat_lt, if◌then◌else◌}
use Rattle.std.specs.List.{flat_map}
use Rattle.std.specs.Fmt.{decimal}
use Rattle.rules.specs.declared.property.Property.{Property}
use Rattle.rules.specs.declared.property.Property.TheVariants.{Allowed, Stuck, Left}
use Rattle.rule_source.specs.declared.claimed.Claim.{Claim}
use Rattle.rule_source.specs.declared.kept.Keep.{Keep}
use Rattle.rule_source.specs.declared.given.Given.{Given}
use Rattle.rule_source.specs.declared.source.Source.{Source}
use Rattle.rule_report.specs.declared.answer.Answer.{Answer}
use Rattle.rule_report.specs.declared.answer.Answer.TheVariants.{Never, First, TooLarge, Refused}
use Rattle.rule_report.specs.declared.options.Options.{Options}
use Rattle.rule_report.specs.declared.piece.Report.{Report}
use Rattle.rule_report.specs.declared.shown_rows.Picture.{Picture}
use Rattle.rule_report.specs.declared.subject.Subject.{Subject}
use Rattle.rule_report.specs.declared.subject.Subject.TheVariants as subject
use Rattle.rule_report.specs.Answers.{TrueOf}
use Rattle.rule_source.specs.Reading.{IsRead, AreClaims, AreKeeps}
use Rattle.rule_report.specs.KeptAnswers.{IsKeptAnswer}
use Rattle.rule_report.specs.KeptWords.{names_of}
use Rattle.rule_report.specs.ShownClaim.{IsShown}
use Rattle.rule_report.specs.ShownRows.{rows_from, rows_shown, picture_name}
use Rattle.rule_report.specs.Subjects.{given_of, short_of}
use Rattle.rule_report.specs.Told.{told, Ends}

-- what a report answers: a question about rows, or a claim that something is kept
pub data Item : Type 0 where
  about : Subject → Property → Item
  of_keep : Keep → Item

-- what each rule is asked, the opposite of each claim, and what is claimed to be kept
abbrev pub of_claim : Claim → Item
of_claim c = about (subject.Claim c.put c.name c.statement) c.question.property

abbrev pub general : List Item
general = about subject.SomeAllowed Allowed ∷ about subject.NoneStuck Stuck ∷ about subject.AllowedKept Left ∷ []

abbrev pub items : List Claim → List Keep → List Item
items claims keeps = (general ++ map of_claim claims) ++ map of_keep keeps

-- what is told of an item, and what its pictures show
pub record Part : Type 0 where
  pub item : Item
  pub words : List ℕ
  pub pictures : List (List ℕ)

-- a first row has a picture
abbrev pub drawn : Subject → Answer → List (List ℕ)
drawn s Never = []
drawn s (First h) = short_of s ∷ []
drawn s (TooLarge n place) = []
drawn s (Refused e) = []

-- the words are an answer that is true of the rule, where it is too large, and its claim as it is shown
pub record IsAnswer (file : List ℕ) (s : Source) (o : Options) (u : Subject) (p : Property) (words : List ℕ) (pictures : List (List ℕ)) : Type 0 where
  pub answer : Answer
  pub ending : List ℕ
  pub claim : List ℕ
  pub true_of : TrueOf s o u p answer
  pub ends : Ends file s.bits.text.now answer ending
  pub shown : IsShown o s.rule p claim
  pub words_are : words ≡ told s.bits.layout (names_of s) u answer ++ (ending ++ claim)
  pub pictures_are : pictures ≡ drawn u answer

abbrev pub IsItem : List ℕ → Source → Options → Item → List ℕ → List (List ℕ) → Type 0
IsItem file s o (about u p) words pictures = IsAnswer file s o u p words pictures
IsItem file s o (of_keep k) words pictures = IsKeptAnswer file s o k words pictures

abbrev pub IsPart : List ℕ → Source → Options → Part → Type 0
IsPart file s o part = IsItem file s o part.item part.words part.pictures

-- of each item there is a part, in their order, with an answer that is true; the words are those of the parts, and the pictures, where they are wanted, those of the first rows
pub record Answers (file : List ℕ) (s : Source) (o : Options) (asked : List Item) (words : List ℕ) (pictures : List (List ℕ)) : Type 0 where
  pub parts : List Part
  pub of_items : map (λ part. part.item) parts ≡ asked
  pub all_true : All (IsPart file s o) parts
  pub words_are : words ≡ flat_map (λ part. part.words) parts
  pub pictures_are : pictures ≡ (if o.pictures then flat_map (λ part. part.pictures) parts else [])

-- a given row and the rows after it
abbrev pub given_words : Source → Options → Given → List ℕ
given_words s o row = codes "  " ++ (given_of s.bits.layout ++ (codes "\n" ++ rows_shown s.bits.layout (names_of s) 0 (rows_from s.rule row.columns.items o.steps)))

-- given rows are shown where something is to be seen of them
abbrev pub shows_given : Options → Bool
shows_given o = nat_lt 0 o.steps || o.pictures

-- the pictures of the first so many given rows
abbrev pub given_pictures : ℕ → List (List ℕ)
given_pictures zero = []
given_pictures (suc n) = given_pictures n ++ (codes "row-" ++ decimal (suc n)) ∷ []

-- the file's name and the given rows
abbrev pub front_words : List ℕ → Source → Options → List ℕ
front_words file s o = file ++ (codes "\n" ++ (if shows_given o then flat_map (given_words s o) s.rows.items else []))

abbrev pub front_pictures : Source → Options → List (List ℕ)
front_pictures s o = if o.pictures then given_pictures (length s.rows.items) else []

abbrev pub picture_names : List Picture → List (List ℕ)
picture_names pictures = map (λ picture. string_bytes picture.name) pictures

-- the report has the answers to these questions alone
pub record Tells (file title : List ℕ) (s : Source) (o : Options) (asked : List Item) (report : Report) : Type 0 where
  pub pictures : List (List ℕ)
  pub answers : Answers file s o asked (string_bytes report.text) pictures
  pub pictures_are : picture_names report.pictures.items ≡ map (picture_name title) pictures

-- the report is: the file's name, its given rows, and the answers to the questions of its rule and on what is claimed to be kept
pub record Reports (file title : List ℕ) (s : Source) (o : Options) (claims : List Claim) (keeps : List Keep) (report : Report) : Type 0 where
  pub words : List ℕ
  pub pictures : List (List ℕ)
  pub answers : Answers file s o (items claims keeps) words pictures
  pub text_is : string_bytes report.text ≡ front_words file s o ++ words
  pub pictures_are : picture_names report.pictures.items ≡ map (picture_name title) (front_pictures s o ++ pictures)

-- the claims are those of the file, and what is claimed to be kept; all pictures have one title
pub record ReportsClaims (file : List ℕ) (s : Source) (o : Options) (report : Report) : Type 0 where
  pub claims : List Claim
  pub are_claims : AreClaims s claims
  pub keeps : List Keep
  pub are_keeps : AreKeeps s keeps
  pub title : List ℕ
  pub reports : Reports file title s o claims keeps report

-- the text of the file is read, and the report is of what it says
abbrev pub Reported : List ℕ → List ℕ → Options → Report → Type 0
Reported file text o report = (s : Source) × IsRead text s × ReportsClaims file s o report
