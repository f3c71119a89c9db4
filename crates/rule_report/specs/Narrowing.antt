-- Where in a rule file a question gets too large.
use Rattle.std.specs.Prelude.{◌≡◌, ◌≢◌, ◌⊎◌, ℕ, suc, ◌+◌, ◌<◌, ◌≤◌, Bool, true, false, Option, None, Some, Result, Ok, Err, MatchResult, List, [], length, take, slice_get}
use Rattle.words.specs.Words.{Word, Columns}
use Rattle.claims.specs.Encoded.{sets_needed, Refused}
use Rattle.claims.specs.declared.encode.Refusal.{Refusal}
use Rattle.claims.specs.declared.encode.Refusal.TheVariants.{TooManyBytes, TooManySets, OutOfMemory}
use Rattle.rows.specs.RowClaims.{First as FirstRow}
use Rattle.rules.specs.Property.{Has, claim_of}
use Rattle.rules.specs.declared.rule.Rule.{Rule}
use Rattle.rules.specs.declared.property.Property.{Property}
use Rattle.rules.specs.declared.property.Property.TheVariants.{Allowed, Stuck, Left}
use Rattle.rule_check.specs.Told.{Told, TooMany}
use Rattle.rule_check.specs.declared.verdict.Verdict.{Verdict}
use Rattle.rule_check.specs.declared.verdict.Verdict.TheVariants.{Never, First, TooLarge}
use Rattle.rule_file.specs.declared.tree.Line.{Line}
use Rattle.rule_file.specs.declared.tree.Statement.{Statement}
use Rattle.rule_file.specs.declared.tree.Statement.TheVariants as statement
use Rattle.rule_source.specs.Asking.{Denies}
use Rattle.rule_source.specs.declared.bits.Bits.{Bits}
use Rattle.rule_source.specs.declared.source.Source.{Source}
use Rattle.trees.specs.declared.position.Span.{Span}
use Rattle.rule_report.specs.declared.subject.Subject.{Subject}
use Rattle.rule_report.specs.declared.subject.Subject.TheVariants as subject
use Rattle.rule_source.specs.Reading.{IsRuleOf}

-- the property that is asked for
abbrev pub AsksFor : Bits → Subject → Property → Type 0
AsksFor b subject.SomeAllowed p = p ≡ Allowed
AsksFor b subject.NoneStuck p = p ≡ Stuck
AsksFor b subject.AllowedKept p = p ≡ Left
AsksFor b (subject.Claim how name statement) p = Denies b statement.now p

-- what is found of the property with at most n classes
abbrev pub IsFound : ℕ → Result Verdict Refusal → Rule → Property → Type 0
IsFound n found r p = MatchResult found (Told r p n) (Refused (suc r.bits) (claim_of r p))

-- whether it is that the property's claim is too large; it is not found out for want of memory
abbrev pub SaysLarge : Result Verdict Refusal → Bool → Type 0
SaysLarge (Ok Never) large = large ≡ false
SaysLarge (Ok (First w)) large = large ≡ false
SaysLarge (Ok (TooLarge n)) large = large ≡ true
SaysLarge (Err (TooManyBytes n)) large = large ≡ true
SaysLarge (Err (TooManySets n)) large = large ≡ true
SaysLarge (Err OutOfMemory) large = ⊥

-- n classes do not suffice for the claim of the property, or it takes too many bytes or sets
abbrev pub IsLarge : ℕ → Rule → Property → Type 0
IsLarge n r p = ((m : ℕ) × TooMany (sets_needed (suc r.bits) (claim_of r p)) (claim_of r p) n m) ⊎ ((e : Refusal) × (e ≢ OutOfMemory) × Refused (suc r.bits) (claim_of r p) e)

-- it is answered: no row has the property, or there is a first
abbrev pub IsAnswered : Rule → Property → Type 0
IsAnswered r p = ((w : Word) → Columns r.bits w → Has r p w → ⊥) ⊎ ((w : Word) × FirstRow r.bits (Has r p) w)

-- so it is of the rule of these statements alone
pub record OfLines (P : Rule → Property → Type 0) (b : Bits) (s : Subject) (ls : List Line) : Type 0 where
  pub rule : Rule
  pub property : Property
  pub is_rule : IsRuleOf b ls rule
  pub asks : AsksFor b s property
  pub so : P rule property

-- whether a statement makes the rule another one
abbrev pub is_of_rule : Statement → Bool
is_of_rule (statement.Pattern p) = true
is_of_rule (statement.Limit h f) = true
is_of_rule (statement.Line p a e) = true
is_of_rule _ = false

-- with the first statements it is answered, and the others of the first k make the rule no other one
pub record AnsweredBefore (b : Bits) (s : Subject) (ls : List Line) (k : ℕ) : Type 0 where
  pub some : ℕ
  pub within : some ≤ k
  pub answered : OfLines IsAnswered b s (take some ls)
  pub others : (i : ℕ) → i < k → some ≤ i → (l : Line) → slice_get ls i ≡ Some l → is_of_rule l.statement ≡ false

-- with the first k statements it is answered, with one more it is too large
pub record GetsLarge (n : ℕ) (b : Bits) (s : Subject) (ls : List Line) (k : ℕ) : Type 0 where
  pub within : k < length ls
  pub before : AnsweredBefore b s ls k
  pub large : OfLines (IsLarge n) b s (take (k + 1) ls)

-- a claim of the file, and no question that each rule gets
abbrev pub is_claim : Subject → Bool
is_claim subject.SomeAllowed = false
is_claim subject.NoneStuck = false
is_claim subject.AllowedKept = false
is_claim (subject.Claim how name statement) = true

-- where a place is named, a claim is too large before any statement, or it gets so at a statement; where none is, it is too large before any, or it is answered with all
abbrev pub IsNarrowest : ℕ → Source → Subject → Option Span → Type 0
IsNarrowest n source s (Some place) = ((is_claim s ≡ true) × OfLines (IsLarge n) source.bits s []) ⊎ ((k : ℕ) × GetsLarge n source.bits s source.file.lines.items k)
IsNarrowest n source s None = ((is_claim s ≡ false) × OfLines (IsLarge n) source.bits s []) ⊎ AnsweredBefore source.bits s source.file.lines.items (length source.file.lines.items)
