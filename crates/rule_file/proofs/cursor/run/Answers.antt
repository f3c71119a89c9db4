use Rattle.std.proofs.Common.{◌≡◌, ◌++◌, All, List, is_ok, ap, sym, subst}
use Rattle.std.proofs.ResultArms.{chosen}
use Rattle.std.proofs.lemmas.List.Elements.{All-push}
use Rattle.rule_file.specs.declared.token.Token.{Token}
use Rattle.rule_file.proofs.WrittenLaws.{token_more}
use Rattle.rule_file.proofs.cursor.run.Goals as goal

pub loop-token-preserved : goal.loop-token-preserved
loop-token-preserved c =
    let pushed = chosen _ _ _ _ c.push.ensures.items (ap is_ok c.in_ok-push.was) in
    record {
      words = subst (λ (ts : List Token). ts ++ c.in-Some.more.now ≡ c.args.tokens.now) (sym pushed)
          (token_more c.loop-token.all.items c.in-Some.token c.in-Some.more.now c.loop-token.rest.now c.args.tokens.now c.loop-token.invariant.words c.in-Some.ensures.words);
      kinds = subst (λ (ts : List Token). All (λ t. t.kind ≡ c.args.kind) ts) (sym pushed)
          (All-push (λ (t : Token). t.kind ≡ c.args.kind) c.loop-token.all.items c.in-Some.token c.loop-token.invariant.kinds c.in-Some.ensures.kind);
    }
