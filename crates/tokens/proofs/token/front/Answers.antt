use Rattle.std.proofs.Common.{sym, ◌∙◌}
use Rattle.tokens.proofs.SpellingLaws.{number_counted, name_counted}
use Rattle.tokens.proofs.token.front.Goals as goal

pub returns-then-is_digit-clause-spells : goal.returns-then-is_digit-clause-spells
returns-then-is_digit-clause-spells c = number_counted c.args.rest.now c.digits_end.result c.digits_end.ensures.count (sym c.is_digit.ensures ∙ c.if-is_digit.true) c.in-len1-up.len_at_least

pub returns-then-is_letter-clause-spells : goal.returns-then-is_letter-clause-spells
returns-then-is_letter-clause-spells c = c.word_kind.ensures.spells (name_counted c.args.rest.now c.name_end-len.result c.name_end-len.ensures.count (sym c.is_letter.ensures ∙ c.if-is_letter.true) c.in-len1-up.len_at_least)
