-- What holds of all that was read of a file's claims holds of its statements.
use Rattle.std.proofs.Common.{◌≡◌, ◌≢◌, ℕ, Option, Some, None, List, All, Contains, IfSome, length, map, ap, subst, ◌∙◌, arith}
use Rattle.std.proofs.lemmas.List.{length-map, get_or-map}
use Rattle.std.proofs.lemmas.List.Elements.{All-map}
use Rattle.rule_file.specs.Claims.{bytes_of}
use Rattle.rule_file.specs.declared.token.Token.{Token}
use Rattle.rule_file.specs.declared.tree.Statement.{Statement}
use Rattle.rule_source.specs.Kept.{Keeps, kept_in}
use Rattle.rule_source.specs.declared.kept.Keep.{Keep}
use Rattle.rule_source.specs.declared.source.Source.{Source}
use Rattle.kept_source.specs.Named.{IsNot, ClaimsNone}

abbrev pub statements : List Keep → List Statement
statements ks = map (λ k. k.statement.now) ks

-- a claim that was read stands in the file
pub contains_statement : (ks : List Keep) (xs : List Statement) (k : Keep) → statements ks ≡ xs → Contains ks k → Contains xs k.statement.now
contains_statement ks xs k e (i, h, is) =
    subst (λ (ys : List Statement). Contains ys k.statement.now) e
    (let f : Keep → Statement = λ x. x.statement.now in
    (i, (let l : length (map f ks) ≡ length ks = length-map ks f in omega arith), get_or-map f ks i k (f k) h ∙ ap f is))

-- a name that the claim has not is not its statement's
is_not : (o : Option Token) (text name named : List ℕ) → IfSome o (λ t. named ≡ bytes_of text t) → named ≢ name → IfSome o (λ t. bytes_of text t ≢ name)
is_not None text name named e h = tt
is_not (Some t) text name named e h = λ q. h (e ∙ q)

-- where no claim has the name, no statement has
pub claims_none : (s : Source) (name : List ℕ) (ks : List Keep) → statements ks ≡ kept_in s.file.lines.items → All (Keeps s) ks → All (λ k. k.name.now ≢ name) ks → ClaimsNone s name
claims_none s name ks e each none =
    subst (λ (xs : List Statement). All (IsNot s.bits.text.now name) xs) e
    (All-map (IsNot s.bits.text.now name) (λ (k : Keep). k.statement.now) ks
    (λ i k h. is_not _ s.bits.text.now name _ (each i k h).name (none i k h)))
