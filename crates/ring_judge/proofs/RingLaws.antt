-- From what is said of the row claim that is made of a ring claim to what is said of rings.
use Rattle.std.proofs.Common.{◌≡◌, ℕ, ◌+◌, ◌<◌, ◌≤◌, ◌⊎◌, inl, inr, List, length, take, drop, refl, subst, arith}
use Rattle.words.specs.Words.{Word, Columns}
use Rattle.rows.specs.RowClaims.{First}
use Rattle.row_claims.specs.Meaning.{OfRow}
use Rattle.row_claims.specs.Bytes.{SaysRow}
use Rattle.row_claims.proofs.OneRowClaim.{one_row_claim}
use Rattle.row_judge.specs.Made.{bytes_of, RowFloor}
use Rattle.row_judge.specs.Made as rows
use Rattle.row_judge.specs.Says.{BothFit, NeitherFits, FirstRows, RowJudgedPost}
use Rattle.row_judge.specs.declared.made.Rows.TheVariants.{Without}
use Rattle.row_judge.specs.declared.row_judged.RowJudged.{RowJudged}
use Rattle.row_judge.specs.declared.row_judged.RowJudged.TheVariants as row
use Rattle.ring_claims.specs.Meaning.{RingClaim, OfRing}
use Rattle.ring_claims.specs.Reading.{in_ring}
use Rattle.ring_claims.specs.Bytes.{SaysRing}
use Rattle.ring_claims.proofs.OneRingClaim.{one_ring_claim}
use Rattle.ring_claims.proofs.RingsAsRows.{ring_says}
use Rattle.ring_judge.specs.Made.{Made, Asked, NotMade, RingFloor}
use Rattle.ring_judge.specs.Says.{FirstRings, RingJudgedPost}
use Rattle.ring_judge.specs.declared.made.Unmade.{Unmade}
use Rattle.ring_judge.specs.declared.made.Unmade.TheVariants as unmade
use Rattle.ring_judge.specs.declared.ring_judged.RingJudged.TheVariants.{Always, Never, Both, NoRingClaim, TooLong, TooManySets, Many, OutFull, Few}
use Rattle.ring_judge.proofs.MadeLaws.{made_row}

-- Bytes are one ring claim only, so what is known of that one is said of every ring claim that they are.
every : (P : ℕ → RingClaim → Type 0) (s : List ℕ) (k : ℕ) (c : RingClaim) → SaysRing s k c → P k c → (l : ℕ) (d : RingClaim) → SaysRing s l d → P l d
every P s k c y p l d z = let (e, f) = one_ring_claim s k l c d y z in subst (λ l. P l d) e (subst (λ d. P k d) f p)

-- Where no claim is made, nothing is asked of the call.
not_asked : (s : List ℕ) (u : Unmade) → NotMade s u → (k : ℕ) (c : RingClaim) → Asked s k c → ⊥
not_asked s unmade.NoRingClaim n k c a = n (k, c, a.says)
not_asked s unmade.TooManySets n k c a =
    let (l, d, y, h) = n in
    let (e, f) = one_ring_claim s k l c d a.says y in
    omega (arith, a.few_sets, h)
not_asked s unmade.TooLong n k c a =
    let (l, d, y, h, g) = n in
    let z = every (λ l d. length (bytes_of Without l (in_ring d)) ≤ 1024) s k c a.says a.few_bytes l d y in
    omega (arith, z, g)

pub no_floor : (s : List ℕ) (n : ℕ) (u : Unmade) → NotMade s u → RingFloor s n 0
no_floor s n u h = record { of_asked = λ k c a. absurd (not_asked s u h k c a); of_none = λ g. refl }

none_below : (w : ℕ) → w < 0 → ⊥
none_below w h = omega arith

pub no_ring_claim : (s : List ℕ) (n : ℕ) (o : List ℕ) (w : ℕ) → NotMade s unmade.NoRingClaim → RingJudgedPost s n o o w NoRingClaim
no_ring_claim s n o w h = record {
  says = (h, refl);
  ring = tt;
  few = (0, no_floor s n unmade.NoRingClaim h, (λ l. absurd (none_below w l), λ e. (let z : ◌≡◌ {A = ℕ} 0 1 = cc in let f : ⊥ = omega arith in absurd f)));
}

pub too_many_sets : (s : List ℕ) (n : ℕ) (o : List ℕ) (w : ℕ) → NotMade s unmade.TooManySets → RingJudgedPost s n o o w TooManySets
too_many_sets s n o w h = record {
  says = (h, refl);
  ring = (h.0, h.1, h.2);
  few = (0, no_floor s n unmade.TooManySets h, (λ l. absurd (none_below w l), λ e. (let z : ◌≡◌ {A = ℕ} 0 1 = cc in let f : ⊥ = omega arith in absurd f)));
}

pub too_long : (s : List ℕ) (n : ℕ) (o : List ℕ) (w : ℕ) → NotMade s unmade.TooLong → RingJudgedPost s n o o w TooLong
too_long s n o w h = record {
  says = (h, refl);
  ring = (h.0, h.1, h.2);
  few = (0, no_floor s n unmade.TooLong h, (λ l. absurd (none_below w l), λ e. (let z : ◌≡◌ {A = ℕ} 0 1 = cc in let f : ⊥ = omega arith in absurd f)));
}

-- A row claim was made.
module _ (s : List ℕ) (k : ℕ) (c : RingClaim) (t : List ℕ) (m : Made s k c t) where
  of_row : SaysRow t k (in_ring c)
  of_row = made_row s k c t m

  -- claims for the call are made of both or of neither
  ring_asked : rows.IsAsked t → Asked s k c
  ring_asked p =
      let (l, d, a) = p in
      let (e, f) = one_row_claim t l k d (in_ring c) a.says of_row in
      record { says = m.says; few_sets = omega (arith, a.few_sets, e); few_bytes = subst (λ l. length (bytes_of Without l (in_ring c)) ≤ 1024) e (subst (λ d. length (bytes_of Without l d) ≤ 1024) f a.few_bytes) }

  row_asked : (l : ℕ) (d : RingClaim) → Asked s l d → rows.Asked t l (in_ring d)
  row_asked l d a = record { says = every (λ l d. SaysRow t l (in_ring d)) s k c m.says of_row l d a.says; few_sets = a.few_sets; few_bytes = a.few_bytes }

  pub made_floor : (n f : ℕ) → RowFloor t n f → RingFloor s n f
  made_floor n f x = record {
    of_asked = λ l d a. x.of_asked l (in_ring d) (row_asked l d a);
    of_none = λ g. x.of_none (λ p. g (k, c, ring_asked p));
  }

  first_ring : (u : Word) → First k (OfRow (in_ring c)) u → First k (OfRing c) u
  first_ring u f = record { columns = f.columns; holds = (ring_says c u).1 f.holds; first = λ w h l p. f.first w h l ((ring_says c w).0 p) }

  first_without : (u : Word) → First k (λ w. OfRow (in_ring c) w → ⊥) u → First k (λ w. OfRing c w → ⊥) u
  first_without u f = record { columns = f.columns; holds = λ p. f.holds ((ring_says c u).0 p); first = λ w h l n. f.first w h l (λ p. n ((ring_says c w).1 p)) }

  first_rings : (a b : ℕ) (u v : Word) → FirstRows k (in_ring c) a b u v → FirstRings k c a b u v
  first_rings a b u v f = (first_ring u f.0, first_without v f.1, f.2, f.3)

  module _ (n : ℕ) (o o' : List ℕ) (w : ℕ) where
    pub always : RowJudgedPost t n o o' w row.Always → RingJudgedPost s n o o' w Always
    always r =
        let (b, h, e) = r.says k (in_ring c) of_row in
        let (f, x, few) = r.few in record {
          says = every (λ k c. BothFit k n (in_ring c) × ((w : Word) → Columns k w → OfRing c w) × (o' ≡ o)) s k c m.says (b, λ w l. (ring_says c w).1 (h w l), e);
          ring = (k, c, ring_asked r.row);
          few = (f, made_floor n f x, (λ l. absurd (let z = few.0 l in let y : ◌≡◌ {A = ℕ} 0 1 = cc in let f : ⊥ = omega arith in f), λ e. (let z : ◌≡◌ {A = ℕ} 0 1 = cc in let f : ⊥ = omega arith in absurd f)));
        }

    pub never : RowJudgedPost t n o o' w row.Never → RingJudgedPost s n o o' w Never
    never r =
        let (b, h, e) = r.says k (in_ring c) of_row in
        let (f, x, few) = r.few in record {
          says = every (λ k c. BothFit k n (in_ring c) × ((w : Word) → Columns k w → OfRing c w → ⊥) × (o' ≡ o)) s k c m.says (b, λ w l p. h w l ((ring_says c w).0 p), e);
          ring = (k, c, ring_asked r.row);
          few = (f, made_floor n f x, (λ l. absurd (let z = few.0 l in let y : ◌≡◌ {A = ℕ} 0 1 = cc in let f : ⊥ = omega arith in f), λ e. (let z : ◌≡◌ {A = ℕ} 0 1 = cc in let f : ⊥ = omega arith in absurd f)));
        }

    pub many : RowJudgedPost t n o o' w row.Many → RingJudgedPost s n o o' w Many
    many r =
        let (b, e) = r.says k (in_ring c) of_row in
        let (f, x, few) = r.few in record {
          says = every (λ k c. NeitherFits k n (in_ring c) × (o' ≡ o)) s k c m.says (b, e);
          ring = (k, c, ring_asked r.row);
          few = (f, made_floor n f x, (λ l. absurd (let z = few.0 l in let y : ◌≡◌ {A = ℕ} 0 1 = cc in let f : ⊥ = omega arith in f), λ e. (let z : ◌≡◌ {A = ℕ} 0 1 = cc in let f : ⊥ = omega arith in absurd f)));
        }

    pub few_words : RowJudgedPost t n o o' w row.Few → RingJudgedPost s n o o' w Few
    few_words r =
        let (f, x, few) = r.few in
        record { says = r.says; ring = (k, c, ring_asked r.row); few = (f, made_floor n f x, (λ l. refl, λ e. few.1 refl)) }

    pub row_too_long : RowJudgedPost t n o o' w row.TooLong → RingJudgedPost s n o o' w TooLong
    row_too_long r =
        let ((l, d, y, h, g), e) = r.says in
        let (i, j) = one_row_claim t l k d (in_ring c) y of_row in
        let (f, x, few) = r.few in record {
          says = ((k, c, m.says, omega (arith, h, i), subst (λ l. 1024 < length (bytes_of Without l (in_ring c))) i (subst (λ d. 1024 < length (bytes_of Without l d)) j g)), e);
          ring = (k, c, m.says);
          few = (f, made_floor n f x, (λ l. absurd (let z = few.0 l in let y : ◌≡◌ {A = ℕ} 0 1 = cc in let f : ⊥ = omega arith in f), λ e. (let z : ◌≡◌ {A = ℕ} 0 1 = cc in let f : ⊥ = omega arith in absurd f)));
        }

    pub out_full : (a b : ℕ) → RowJudgedPost t n o o' w (row.OutFull a b) → RingJudgedPost s n o o' w (OutFull a b)
    out_full a b r =
        let (p, (u, v, q, l), e) = r.says k (in_ring c) of_row in
        let (f, x, few) = r.few in record {
          says = every (λ k c. BothFit k n (in_ring c) × ((u : Word) × (v : Word) × FirstRings k c a b u v × (length o < a + b)) × (o' ≡ o)) s k c m.says (p, (u, v, first_rings a b u v q, l), e);
          ring = (k, c, ring_asked r.row);
          few = (f, made_floor n f x, (λ l. absurd (let z = few.0 l in let y : ◌≡◌ {A = ℕ} 0 1 = cc in let f : ⊥ = omega arith in f), λ e. (let z : ◌≡◌ {A = ℕ} 0 1 = cc in let f : ⊥ = omega arith in absurd f)));
        }

    pub both : (a b : ℕ) → RowJudgedPost t n o o' w (row.Both a b) → RingJudgedPost s n o o' w (Both a b)
    both a b r =
        let (p, g) = r.says k (in_ring c) of_row in
        let (u, v, q, h, i, j) = g in
        let (f, x, few) = r.few in record {
          says = every (λ k c. BothFit k n (in_ring c) × ((u : Word) × (v : Word) × FirstRings k c a b u v × (take a o' ≡ u) × (take b (drop a o') ≡ v) × (drop (a + b) o' ≡ drop (a + b) o))) s k c m.says (p, (u, v, first_rings a b u v q, h, i, j));
          ring = (k, c, ring_asked r.row);
          few = (f, made_floor n f x, (λ l. absurd (let z = few.0 l in let y : ◌≡◌ {A = ℕ} 0 1 = cc in let f : ⊥ = omega arith in f), λ e. (let z : ◌≡◌ {A = ℕ} 0 1 = cc in let f : ⊥ = omega arith in absurd f)));
        }

    -- it is a row claim, and about few enough sets
    pub not_none : RowJudgedPost t n o o' w row.NoRowClaim → ⊥
    not_none r = r.says.0 (k, in_ring c, of_row)

    pub not_too_many : RowJudgedPost t n o o' w row.TooManySets → ⊥
    not_too_many r =
        let ((l, d, y, h), e) = r.says in
        let (i, j) = one_row_claim t l k d (in_ring c) y of_row in
        let z = m.few_sets in
        omega (arith, h, i)

    pub not_others : (r : RowJudged) → RowJudgedPost t n o o' w r → (r ≡ row.NoRowClaim) ⊎ (r ≡ row.TooManySets) → ⊥
    not_others r p (inl e) = not_none (subst (λ r. RowJudgedPost t n o o' w r) e p)
    not_others r p (inr e) = not_too_many (subst (λ r. RowJudgedPost t n o o' w r) e p)
