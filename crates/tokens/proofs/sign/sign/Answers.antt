use Rattle.tokens.specs.Scan.{sign_at}
use Rattle.tokens.proofs.TableLaws.{sign_spells, spells_part, some_part}
use Rattle.tokens.proofs.sign.sign.Goals as goal

pub returns-clause-within : goal.returns-clause-within
returns-clause-within c = some_part c.args.text.now c.sign_in.result (sign_spells c.args.text.now c.sign_in.result c.sign_in.ensures.sign) c.sign_in.ensures.within

pub returns-clause-spells : goal.returns-clause-spells
returns-clause-spells c = spells_part c.args.text.now c.sign_in.result (sign_spells c.args.text.now c.sign_in.result c.sign_in.ensures.sign)

pub returns-clause-sign : goal.returns-clause-sign
unfolding sign_at
returns-clause-sign c = c.sign_in.ensures.sign
