use Rattle.tokens.proofs.TableLaws.{keyword_spells, keyword_is, other_is, name_is}
use Rattle.tokens.proofs.word.word_kind.Goals as goal

pub returns-in-Some-clause-kind : goal.returns-in-Some-clause-kind
returns-in-Some-clause-kind c = keyword_is c.args.word.now c.in-Some.kind c.keyword.result c.in-Some.is c.keyword.ensures

pub returns-in-Some-clause-spells : goal.returns-in-Some-clause-spells
returns-in-Some-clause-spells c = λ h. keyword_spells c.args.word.now c.in-Some.kind c.keyword.result c.in-Some.is c.keyword.ensures

pub returns-then-is_foreign-clause-kind : goal.returns-then-is_foreign-clause-kind
returns-then-is_foreign-clause-kind c = other_is c.args.word.now c.keyword.result c.is_foreign.result c.in-None.is c.if-is_foreign.true c.keyword.ensures c.is_foreign.ensures

pub returns-else-is_foreign-clause-kind : goal.returns-else-is_foreign-clause-kind
returns-else-is_foreign-clause-kind c = name_is c.args.word.now c.keyword.result c.is_foreign.result c.in-None.is c.if-is_foreign.false c.keyword.ensures c.is_foreign.ensures
