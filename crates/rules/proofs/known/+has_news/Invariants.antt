use Rattle.std.proofs.Common.{length}
use Rattle.rules.proofs.known.+has_news.Given as goal

abbrev pub decreases-has_news : goal.decreases-has_news
decreases-has_news l = length l.news.now
