use Rattle.std.proofs.Common.{◌≡◌, ℕ, ◌<◌, length, get_or, Ordering, Less as Lt, Equal, Greater, sym, arith}
use Rattle.std.specs.Ordering.{MatchOrdering}
use Rattle.std.proofs.lemmas.Cmp.{ranked}
use Rattle.words.specs.Words.{Word}
use Rattle.words.specs.Order.{Less, shorter}
use Rattle.words.proofs.OrderLaws.{ordered, less_at, same_all}
use Rattle.words.proofs.order.compare.Goals as goal

-- words of different lengths are compared as their lengths are
by_length : (u v : Word) (r : Ordering) → (length u ≡ length v → ⊥) → MatchOrdering r (length u < length v) (length u ≡ length v) (length v < length u) → MatchOrdering r (Less u v) (u ≡ v) (Less v u)
by_length u v Lt n h = shorter h
by_length u v Equal n h = absurd (n h)
by_length u v Greater n h = shorter h

-- words that first differ at place i are compared as their columns there are
by_column : (u v : Word) (i : ℕ) (r : Ordering) → length u ≡ length v → i < length u → ((j : ℕ) → j < i → get_or u j 0 ≡ get_or v j 0) → (get_or u i 0 ≡ get_or v i 0 → ⊥) → MatchOrdering r (get_or u i 0 < get_or v i 0) (get_or u i 0 ≡ get_or v i 0) (get_or v i 0 < get_or u i 0) → MatchOrdering r (Less u v) (u ≡ v) (Less v u)
by_column u v i Lt e h s n d = less_at u v i e h s d
by_column u v i Equal e h s n d = absurd (n d)
by_column u v i Greater e h s n d = less_at v u i (sym e) (omega arith) (λ j g. sym (s j g)) d

pub returns-then-u-v : goal.returns-then-u-v
returns-then-u-v c = record { said = by_length c.args.u.now c.args.v.now c.cmp.result c.if-u-v.true (ranked _ _ _ c.cmp.ensures); ordered = ordered }

pub returns-then-i-u : goal.returns-then-i-u
returns-then-i-u c = record { said = same_all c.args.u.now c.args.v.now c.loop-i.invariant.0 (λ j h. c.loop-i.invariant.2 j (omega arith)); ordered = ordered }

pub returns-then-u-i : goal.returns-then-u-i
returns-then-u-i c = record { said = by_column c.args.u.now c.args.v.now c.loop-i.i c.cmp-then-u-i.result c.loop-i.invariant.0 (omega arith) c.loop-i.invariant.2 c.if-u-i.true (ranked _ _ _ c.cmp-then-u-i.ensures); ordered = ordered }
