use Rattle.std.proofs.Common.{◌≢◌, ◌∙◌, List, All, Contains, subst}
use Rattle.std.proofs.lemmas.List.Elements.{All-contains}
use Rattle.rule_source.specs.Kept.{Keeps}
use Rattle.rule_source.specs.declared.kept.Keep.{Keep}
use Rattle.kept_source.proofs.NamedLaws.{claims_none, contains_statement}
use Rattle.kept_source.proofs.strengthen_named.strengthen_in.Goals as goal

pub returns-in_default : goal.returns-in_default
returns-in_default c =
    let none : All (λ (k : Keep). k.name.now ≢ c.args.name.now) c.in_ok-keeps.keeps.items = subst (λ (ks : List Keep). All (λ k. k.name.now ≢ c.args.name.now) ks) c.deref.ensures.value c.in_default.ensures.none in
    claims_none c.args.source.now c.args.name.now c.in_ok-keeps.keeps.items c.in_ok-keeps.ensures.all c.in_ok-keeps.ensures.each none

pub returns : goal.returns
returns c =
    let found : Contains c.in_ok-keeps.keeps.items c.in-Some.keep.now = subst (λ (ks : List Keep). Contains ks c.in-Some.keep.now) c.deref.ensures.value c.in-Some.ensures.found in
    record {
      keep = c.in-Some.keep.now;
      claimed = contains_statement c.in_ok-keeps.keeps.items _ c.in-Some.keep.now c.in_ok-keeps.ensures.all found;
      of_file = All-contains (Keeps c.args.source.now) c.in_ok-keeps.keeps.items c.in-Some.keep.now c.in_ok-keeps.ensures.each found;
      named = c.in-Some.ensures.named;
      listed = c.in_ok-listed.listed;
      of_keep = c.in_ok-listed.ensures.0;
      of_list = c.in_ok-listed.ensures.1 ∙ c.deref-2.ensures.value;
      told = c.in_ok-answer.ensures;
    }
