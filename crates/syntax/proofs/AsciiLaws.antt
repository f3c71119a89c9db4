-- ASCII bytes are text.
use Rattle.std.proofs.Common.{ℕ, zero, suc, ◌<◌, ◌≡◌, List, [], ◌∷◌, true, false, Bool, ◌&&◌, nat_lt, arith, rules, refl}
use Rattle.std.specs.Str.{IsUtf8}
use Rattle.std.proofs.lemmas.Str.{IsUtf8-from_ascii}
use Rattle.std.specs.Prelude.{slice_index}
use Rattle.syntax.specs.Parsing.{ascii}

both : (a b : Bool) → a && b ≡ true → (a ≡ true) × (b ≡ true)
both true b h = (refl, h)
both false b h = search (rules, h)

each : (bs : List ℕ) (i : ℕ) → ascii bs ≡ true → slice_index bs i < 128
each [] i h = grind arith
each (b ∷ bs) zero h = let e = (both (nat_lt b 128) (ascii bs) h).0 in grind (arith, e)
each (b ∷ bs) (suc i) h = each bs i (both (nat_lt b 128) (ascii bs) h).1

pub ascii_text : (bs : List ℕ) → ascii bs ≡ true → IsUtf8 bs
ascii_text bs h = IsUtf8-from_ascii bs (λ i. each bs i h)
