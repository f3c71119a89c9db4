-- The call on a row claim: what each answer says of the bytes, and that the work words suffice.
use Rattle.std.proofs.Common.{◌≡◌, ℕ, ◌+◌, ◌*◌, ◌<◌, ◌≤◌, List, length, take, drop, refl, ap, ◌∙◌, subst, arith}
use Rattle.words.specs.Words.{Word, Columns}
use Rattle.workspace.specs.Floor.{Width, floor_words}
use Rattle.row_claims.specs.Meaning.{RowClaim, OfRow}
use Rattle.row_claims.specs.Bytes.{SaysRow}
use Rattle.row_claims.proofs.OneRowClaim.{one_row_claim}
use Rattle.row_judge.specs.Made.{Asked, NotMade, RowFloor, bytes_of}
use Rattle.row_judge.specs.Says.{BothFit, NeitherFits, FirstRows, RowJudgedPost}
use Rattle.row_judge.specs.declared.made.Rows.TheVariants.{Without}
use Rattle.row_judge.specs.declared.made.Unmade.{Unmade}
use Rattle.row_judge.specs.declared.made.Unmade.TheVariants as unmade
use Rattle.row_judge.specs.declared.row_judged.RowJudged.TheVariants.{Always, Never, Both, NoRowClaim, TooLong, TooManySets, Many, OutFull, Few}

-- Bytes are one row claim only, so what is known of that one is said of every row claim that they are.
every : (P : ℕ → RowClaim → Type 0) (s : List ℕ) (k : ℕ) (c : RowClaim) → SaysRow s k c → P k c → (l : ℕ) (d : RowClaim) → SaysRow s l d → P l d
every P s k c y p l d z = let (e, f) = one_row_claim s k l c d y z in subst (λ l. P l d) e (subst (λ d. P k d) f p)

-- where no claim is made, nothing is asked of the call
not_asked : (s : List ℕ) (u : Unmade) → NotMade s u → (k : ℕ) (c : RowClaim) → Asked s k c → ⊥
not_asked s unmade.NoRowClaim n k c a = n (k, c, a.says)
not_asked s unmade.TooManySets n k c a =
    let (l, d, y, h) = n in
    let (e, f) = one_row_claim s k l c d a.says y in
    omega (arith, a.few_sets, h)
not_asked s unmade.TooLong n k c a =
    let (l, d, y, h, g) = n in
    let z = every (λ l d. length (bytes_of Without l d) ≤ 1024) s k c a.says a.few_bytes l d y in
    omega (arith, z, g)

-- The floor.
pub no_floor : (s : List ℕ) (n : ℕ) (u : Unmade) → NotMade s u → RowFloor s n 0
no_floor s n u h = record { of_asked = λ k c a. absurd (not_asked s u h k c a); of_none = λ g. refl }

pub floor_is : (s : List ℕ) (k : ℕ) (c : RowClaim) → Asked s k c → (n v f : ℕ) → Width (bytes_of Without k c) v → f ≡ floor_words v (bytes_of Without k c) n + 3 * n → RowFloor s n f
floor_is s k c a n v f x e = record {
  of_asked = λ l d b. every (λ l d. (v : ℕ) × Width (bytes_of Without l d) v × (f ≡ floor_words v (bytes_of Without l d) n + 3 * n)) s k c a.says (v, x, e) l d b.says;
  of_none = λ g. absurd (g (k, c, a));
}

-- the floor as the code reckons it: f for the claim whose bytes are t, and three times m words
pub record AskedFloor (s : List ℕ) (k : ℕ) (c : RowClaim) (n f m : ℕ) : Type 0 where
  pub wide : ℕ
  pub width : Width (bytes_of Without k c) wide
  pub call : f ≡ floor_words wide (bytes_of Without k c) n
  pub more : m ≡ n
  pub floor : RowFloor s n (f + 3 * m)

pub asked_floor : (s : List ℕ) (k : ℕ) (c : RowClaim) → Asked s k c → (n f m : ℕ) (t : List ℕ) → t ≡ bytes_of Without k c → (v : ℕ) × Width t v × (f ≡ floor_words v t n) → m ≡ n → AskedFloor s k c n f m
asked_floor s k c a n f m t i told e =
    let (v, x, g) = told in
    let y = subst (λ t. Width t v) i x in
    let h : f ≡ floor_words v (bytes_of Without k c) n = g ∙ ap (λ t. floor_words v t n) i in
    let j : f + 3 * m ≡ floor_words v (bytes_of Without k c) n + 3 * n = ap (λ f. f + 3 * m) h ∙ ap (λ m. floor_words v (bytes_of Without k c) n + 3 * m) e in
    record { wide = v; width = y; call = h; more = e; floor = floor_is s k c a n v (f + 3 * m) y j }

-- No claim is made.
none_below : (w : ℕ) → w < 0 → ⊥
none_below w h = omega arith

pub no_row_claim : (s : List ℕ) (n : ℕ) (o : List ℕ) (w : ℕ) → NotMade s unmade.NoRowClaim → RowJudgedPost s n o o w NoRowClaim
no_row_claim s n o w h = record {
  says = (h, refl);
  row = tt;
  few = (0, no_floor s n unmade.NoRowClaim h, (λ l. absurd (none_below w l), λ e. (let z : ◌≡◌ {A = ℕ} 0 1 = cc in let f : ⊥ = omega arith in absurd f)));
}

pub too_many_sets : (s : List ℕ) (n : ℕ) (o : List ℕ) (w : ℕ) → NotMade s unmade.TooManySets → RowJudgedPost s n o o w TooManySets
too_many_sets s n o w h = record {
  says = (h, refl);
  row = (h.0, h.1, h.2);
  few = (0, no_floor s n unmade.TooManySets h, (λ l. absurd (none_below w l), λ e. (let z : ◌≡◌ {A = ℕ} 0 1 = cc in let f : ⊥ = omega arith in absurd f)));
}

pub too_long : (s : List ℕ) (n : ℕ) (o : List ℕ) (w : ℕ) → NotMade s unmade.TooLong → RowJudgedPost s n o o w TooLong
too_long s n o w h = record {
  says = (h, refl);
  row = (h.0, h.1, h.2);
  few = (0, no_floor s n unmade.TooLong h, (λ l. absurd (none_below w l), λ e. (let z : ◌≡◌ {A = ℕ} 0 1 = cc in let f : ⊥ = omega arith in absurd f)));
}

module _ (s : List ℕ) (n : ℕ) (o : List ℕ) (w k : ℕ) (c : RowClaim) (a : Asked s k c) (f : ℕ) (x : RowFloor s n f) where
  pub few : w < f → RowJudgedPost s n o o w Few
  few h = record { says = refl; row = (k, c, a); few = (f, x, (λ l. refl, λ e. h)) }

  module _ (room : w < f → ⊥) where
    pub never : BothFit k n c → ((w : Word) → Columns k w → OfRow c w → ⊥) → RowJudgedPost s n o o w Never
    never b h = record {
      says = every (λ k c. BothFit k n c × ((w : Word) → Columns k w → OfRow c w → ⊥) × (o ≡ o)) s k c a.says (b, h, refl);
      row = (k, c, a);
      few = (f, x, (λ l. absurd (room l), λ e. (let z : ◌≡◌ {A = ℕ} 0 1 = cc in let f : ⊥ = omega arith in absurd f)));
    }

    pub many : NeitherFits k n c → RowJudgedPost s n o o w Many
    many b = record {
      says = every (λ k c. NeitherFits k n c × (o ≡ o)) s k c a.says (b, refl);
      row = (k, c, a);
      few = (f, x, (λ l. absurd (room l), λ e. (let z : ◌≡◌ {A = ℕ} 0 1 = cc in let f : ⊥ = omega arith in absurd f)));
    }

    module _ (b : BothFit k n c) where
      pub always : ((w : Word) → Columns k w → OfRow c w) → RowJudgedPost s n o o w Always
      always h = record {
        says = every (λ k c. BothFit k n c × ((w : Word) → Columns k w → OfRow c w) × (o ≡ o)) s k c a.says (b, h, refl);
        row = (k, c, a);
        few = (f, x, (λ l. absurd (room l), λ e. (let z : ◌≡◌ {A = ℕ} 0 1 = cc in let f : ⊥ = omega arith in absurd f)));
      }

      module _ (p q : ℕ) (u v : Word) (r : FirstRows k c p q u v) where
        pub out_full : length o < p + q → RowJudgedPost s n o o w (OutFull p q)
        out_full h = record {
          says = every (λ k c. BothFit k n c × ((u : Word) × (v : Word) × FirstRows k c p q u v × (length o < p + q)) × (o ≡ o)) s k c a.says (b, (u, v, r, h), refl);
          row = (k, c, a);
          few = (f, x, (λ l. absurd (room l), λ e. (let z : ◌≡◌ {A = ℕ} 0 1 = cc in let f : ⊥ = omega arith in absurd f)));
        }

        pub both : (o' : List ℕ) → take p o' ≡ u → take q (drop p o') ≡ v → drop (p + q) o' ≡ drop (p + q) o → RowJudgedPost s n o o' w (Both p q)
        both o' g h i = record {
          says = every (λ k c. BothFit k n c × ((u : Word) × (v : Word) × FirstRows k c p q u v × (take p o' ≡ u) × (take q (drop p o') ≡ v) × (drop (p + q) o' ≡ drop (p + q) o))) s k c a.says (b, (u, v, r, g, h, i));
          row = (k, c, a);
          few = (f, x, (λ l. absurd (room l), λ e. (let z : ◌≡◌ {A = ℕ} 0 1 = cc in let f : ⊥ = omega arith in absurd f)));
        }
