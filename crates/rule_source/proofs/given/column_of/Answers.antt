use Rattle.std.proofs.Common.{◌≡◌, ◌||◌, eqb, ℕ, List, sym, subst}
use Rattle.std.specs.List.{list_any}
use Rattle.std.proofs.lemmas.Result.{IfOk-weaker}
use Rattle.words.specs.Words.{bit}
use Rattle.words.proofs.BitsLaws.{bit_zero}
use Rattle.rule_file.specs.declared.token.Token.{Token}
use Rattle.rule_file.specs.declared.tree.Joined.{Joined}
use Rattle.rule_file.specs.declared.tree.Module.{Module}
use Rattle.rule_source.specs.Given.{IsModule}
use Rattle.rule_source.specs.Patterns.{number}
use Rattle.rule_source.proofs.GivenLaws.{named_all}
use Rattle.rule_source.proofs.given.column_of.Goals as goal

pub returns-in-Bare : goal.returns-in-Bare
returns-in-Bare c = subst (λ (m : Module). IsModule c.args.bits.now m 0) (sym c.in-Bare.is) (λ j. bit_zero j)

pub returns-in_ok-with_name-in-Bits : goal.returns-in_ok-with_name-in-Bits
returns-in_ok-with_name-in-Bits c =
    let b = c.args.bits.now in
    let first = c.in_ok-with_name-in-Bits.field-0 in
    IfOk-weaker c.with_names.result _ _ (λ a more.
    subst (λ (m : Module). IsModule b m a) (sym c.in-Bits.is)
    (named_all (λ (j : ℕ) (t : Token). eqb (number b t) j) (λ (x : Joined). x.name) c.in-Bits.name c.in-Bits.more.items first a c.in_ok-with_name-in-Bits.ensures
    (subst (λ (l : List Joined). (j : ℕ) → bit j a ≡ bit j first || list_any (λ m. eqb (number b m.name) j) l) c.deref.ensures.value more))) c.with_names.ensures
