-- Bytes are one claim only, so what is known of that claim is said of every claim that they are.
use Rattle.std.proofs.Common.{ℕ, ◌+◌, ◌<◌, ◌≤◌, List, subst}
use Rattle.claims.specs.Claims.{C}
use Rattle.claims.specs.Rows.{Claim}
use Rattle.claims.specs.Sizes.{Fits}
use Rattle.claims.proofs.OneClaim.{one_claim}
use Rattle.workspace.specs.Floor.{NoRoom}
use Rattle.minimal.specs.Minimal.{Made, Minimal, TooMany}
use Rattle.minimal.specs.declared.automaton.Automaton.{Automaton}

every : (P : ℕ → C → Type 0) (s : List ℕ) (k : ℕ) (c : C) → Claim s k c → P k c → (l : ℕ) (d : C) → Claim s l d → P l d
every P s k c y p l d z = let (e, f) = one_claim s k l c d y z in subst (λ l. P l d) e (subst (λ d. P k d) f p)

pub made : (s : List ℕ) (most n k : ℕ) (c : C) → Claim s k c → (t : Automaton) → Minimal k c t → Fits k n c → n ≤ most → Made s most t
made s most n k c y t m f h = record {
  claim = (k, c, y);
  minimal = every (λ k c. Minimal k c t) s k c y m;
  fits = every (λ k c. (n : ℕ) × (n ≤ most) × Fits k n c) s k c y (n, h, f);
}

pub too_many : (s : List ℕ) (most n k : ℕ) (c : C) → Claim s k c → (Fits k n c → ⊥) → n ≤ most → (n < most → NoRoom s (n + 1)) → TooMany s most n
too_many s most n k c y over within memory = record { claim = (k, c, y); many = every (λ k c. Fits k n c → ⊥) s k c y over; within = within; memory = memory }
