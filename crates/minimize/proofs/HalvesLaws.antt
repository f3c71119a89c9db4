-- The parts of a stable partition numbered again, by where one column leads: the same parts.
use Rattle.std.proofs.Common.{◌≡◌, ℕ, ◌^◌, ◌<◌, Bool, pow_pos}
use Rattle.automata.specs.Joined.{Stable}
use Rattle.automata.specs.Product.{pair}
use Rattle.minimize.specs.Parts.{Parted}

module _ {k m : ℕ} {δ : ℕ → ℕ → ℕ} {f : ℕ → Bool} {part cur cur' first : ℕ → ℕ} {n : ℕ} (closed : (q a : ℕ) → q < m → a < 2 ^ k → δ q a < m) (s : Stable k m δ f part) (copied : (q : ℕ) → q < m → cur q ≡ part q)
    (p : Parted m (λ q. pair (cur q) (part (δ q 0))) cur' first n) where
  was : (q r : ℕ) → q < m → r < m → cur' q ≡ cur' r → part q ≡ part r
  was q r hq hr e = let t = p.told q r hq hr e in let a = copied q hq in let b = copied r hr in cc

  still : (q r : ℕ) → q < m → r < m → part q ≡ part r → cur' q ≡ cur' r
  still q r hq hr e =
      let a = copied q hq in
      let b = copied r hr in
      let d = s.steps q r 0 hq hr (pow_pos k) e in
      p.same q r hq hr (cc)

  pub stable_renumbered : Stable k m δ f cur'
  stable_renumbered = record {
    whole = λ q r hq hr a. still q r hq hr (s.whole q r hq hr a);
    accepts = λ q r hq hr e. s.accepts q r hq hr (was q r hq hr e);
    steps = λ q r a hq hr ha e. still (δ q a) (δ r a) (closed q a hq ha) (closed r a hr ha) (s.steps q r a hq hr ha (was q r hq hr e));
  }
