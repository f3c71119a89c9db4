-- What was written is read again.
use Rattle.std.proofs.Common.{ℕ, zero, suc, ◌<◌, ◌≤◌, ◌≡◌, min, List, [], ◌∷◌, true, false, length, None, Ok, refl, ap, ◌∙◌, arith}
use Rattle.tokens.specs.declared.kind.Kind.{Kind}
use Rattle.tokens.specs.declared.kind.Kind.TheVariants as kind
use Rattle.trees.specs.declared.tree.Unary.TheVariants as unary
use Rattle.trees.specs.declared.tree.Binary.{Binary}
use Rattle.trees.specs.declared.tree.Binary.TheVariants as binary
use Rattle.trees.specs.declared.tree.Sort.{Sort}
use Rattle.trees.specs.declared.tree.Sort.TheVariants.{Place, Set}
use Rattle.trees.specs.declared.tree.Quantifier.{Quantifier}
use Rattle.trees.specs.declared.tree.Quantifier.TheVariants as quantifier
use Rattle.tokens.specs.Words.{Word, word}
use Rattle.syntax.specs.Plain.{Plain, yes, no, nowhere, number, digits, named, paren, listed, prefixed, joined, bound, call, counted, tallied, Plains, none, more, sign_of, quantifier_of, colon, close, close_set, tally, names, written, list, list_more}
use Rattle.syntax.specs.Parsing.{Reader, ◌>>=◌, level_of, right_of, operator, tail, begins, more_items, items, tally_at, whole, quantified, operand, climb, parse, depth, depths, value, MOST, push}
use Rattle.syntax.specs.Grammar.{bare, bares, spine, grab, IsText, AreTexts, opens, opens_each}
use Rattle.syntax.proofs.WrittenLaws.{Stops, lt_false, sign_is, sign_no_open, tight, loose, stops_tighter, longer, list_longer, names_at_longer, names_again, pushes, pushes_one}

whole_is : (t : Plain) (ws : List Word) → depth t ≤ MOST → whole t ws ≡ Ok (t, ws)
whole_is t ws h = rw (lt_false MOST (depth t) h) refl

quantifier_is : (p : Reader) (n : ℕ) (q : Quantifier) (sort : Sort) (ws : List Word) → operand p n (quantifier_of q sort ∷ ws) ≡ quantified p n q sort ws
quantifier_is p n quantifier.Some Place ws = refl
quantifier_is p n quantifier.Some Set ws = refl
quantifier_is p n quantifier.All Place ws = refl
quantifier_is p n quantifier.All Set ws = refl

quantifier_no_close : (q : Quantifier) (sort : Sort) (ws : List Word) → begins kind.Close (quantifier_of q sort ∷ ws) ≡ false
quantifier_no_close quantifier.Some Place ws = refl
quantifier_no_close quantifier.Some Set ws = refl
quantifier_no_close quantifier.All Place ws = refl
quantifier_no_close quantifier.All Set ws = refl

-- no text begins with a parenthesis that closes
no_close : (t : Plain) (rest : List Word) → IsText t → begins kind.Close (written t rest) ≡ false
no_close (number n) rest x = absurd x
no_close (prefixed unary.Not t) rest x = refl
no_close (prefixed unary.Min t) rest x = refl
no_close (prefixed unary.Max t) rest x = refl
no_close (prefixed unary.IsEmpty t) rest x = refl
no_close (joined b s t) rest x = no_close s (sign_of b ∷ written t rest) x.0
no_close (bound q sort xs t) rest x = quantifier_no_close q sort _
no_close (counted t m r) rest x = absurd x
no_close _ rest x = refl

-- where no operator follows that binds that tight, nothing is taken
stays : (p : Reader) (k m : ℕ) (t : Plain) (ws : List Word) → operator m ws ≡ None → climb p k m t ws ≡ Ok (t, ws)
stays p zero m t ws h = refl
stays p (suc k) m t ws h = rw h refl

-- an operator that binds that tight is taken, with what stands right of it
climbs : (p : Reader) (k m : ℕ) (b : Binary) (left : Plain) (ws : List Word) (t : Plain) (rest : List Word) → m ≤ level_of b → p (right_of b) ws ≡ Ok (t, rest) → depth (joined b left t) ≤ MOST → climb p (suc k) m left (sign_of b ∷ ws) ≡ climb p k m (joined b left t) rest
climbs p k m b left ws t rest h r d = rw (sign_is m b ws ∙ tight m b h) (rw r (rw (whole_is (joined b left t) rest d) refl))

-- where an operand is read, operators behind it may follow
done : (n c m : ℕ) (ws : List Word) (t : Plain) (rest : List Word) → operand (parse n c) n ws ≡ Ok (t, rest) → length rest ≤ n → (k : ℕ) × (length rest ≤ k) × ((operand (parse n c) n ws >>= λ x. climb (parse n c) n m x.0 x.1) ≡ climb (parse n c) k m t rest)
done n c m ws t rest e le = (n, le, rw e refl)

-- reading what is written comes to where the tree is read and its rest is left
abbrev pub Again : Plain → Type 0
Again t = (n c m : ℕ) (rest : List Word) → IsText t → opens t ≤ c → depth (bare t) ≤ MOST → m ≤ spine t → Stops (grab t) rest → length (written t rest) ≤ n → (k : ℕ) × (length rest ≤ k) × ((operand (parse n c) n (written t rest) >>= λ x. climb (parse n c) n m x.0 x.1) ≡ climb (parse n c) k m (bare t) rest)

abbrev pub EachAgain : Plains → Type 0
EachAgain ts = (n c k : ℕ) (acc : Plains) (rest : List Word) → AreTexts ts → opens_each ts ≤ c → depths (bares ts) ≤ MOST → Stops 0 rest → begins kind.Comma rest ≡ false → length (list_more ts rest) ≤ n → length (list_more ts rest) ≤ k → more_items (parse n c) k acc (list_more ts rest) ≡ Ok (pushes acc (bares ts), rest)

parsed : (t : Plain) → Again t → (n c m : ℕ) (rest : List Word) → IsText t → opens t < c → depth (bare t) ≤ MOST → m ≤ spine t → Stops (grab t) rest → operator m rest ≡ None → length (written t rest) ≤ n → parse n c m (written t rest) ≡ Ok (bare t, rest)
parsed t a n zero m rest x o d l s e le = absurd (omega (arith, o))
parsed t a n (suc c) m rest x o d l s e le = let r = a n c m rest x (omega (arith, o)) d l s le in r.2 ∙ stays (parse n c) r.0 m (bare t) rest e

-- what follows an expression of a list takes nothing of it
stops_list : (ts : Plains) (g : ℕ) (rest : List Word) → Stops 0 rest → Stops g (list_more ts rest)
stops_list none g rest s = stops_tighter 0 g rest (omega arith) s
stops_list (more t ts) g rest s = (refl, refl)

items_again : (t : Plain) (ts : Plains) → Again t → EachAgain ts → (n c : ℕ) (k : Kind) (d : List ℕ) (rest : List Word) → begins k (word k d ∷ rest) ≡ true → begins kind.Comma (word k d ∷ rest) ≡ false → Stops 0 (word k d ∷ rest) → IsText t → AreTexts ts → opens_each (more t ts) ≤ c → depths (bares (more t ts)) ≤ MOST → length (list (more t ts) (word k d ∷ rest)) ≤ n → items (parse n c) n k (list (more t ts) (word k d ∷ rest)) ≡ Ok (more (bare t) (bares ts), rest)
items_again t ts a each n c k d rest h i s x xs o e le =
    let longer_t = longer t (list_more ts (word k d ∷ rest)) in
    let p = parsed t a n c 0 (list_more ts (word k d ∷ rest)) x (omega (arith, o)) (omega (arith, e)) (omega arith) (stops_list ts (grab t) (word k d ∷ rest) s) (stops_list ts 0 (word k d ∷ rest) s).0 le in
    let q = each n c n (more (bare t) none) (word k d ∷ rest) xs (omega (arith, o)) (omega (arith, e)) s i (omega (arith, le, longer_t)) (omega (arith, le, longer_t)) in
    rw p (rw q (rw h (ap (λ ys. Ok (ys, rest)) (pushes_one (bare t) (bares ts)))))

-- what stands behind a set whose places are counted is read
tally_again : (d e : List ℕ) (rest : List Word) → value 0 d ≤ MOST → value 0 e ≤ MOST → tally_at (tail (tally d e rest)) ≡ Ok ((value 0 d, value 0 e), rest)
tally_again d e rest h i = rw (lt_false MOST (value 0 d) h) (rw (lt_false MOST (value 0 e) i) refl)

-- behind the left operand the operator is taken
joins : (p : Reader) (k m : ℕ) (b : Binary) (left : Plain) (ws : List Word) (t : Plain) (rest : List Word) → length (sign_of b ∷ ws) ≤ k → length rest ≤ length ws → m ≤ level_of b → p (right_of b) ws ≡ Ok (t, rest) → depth (joined b left t) ≤ MOST → (j : ℕ) × (length rest ≤ j) × (climb p k m left (sign_of b ∷ ws) ≡ climb p j m (joined b left t) rest)
joins p zero m b left ws t rest le lr h r d = absurd (omega (arith, le))
joins p (suc k) m b left ws t rest le lr h r d = (k, omega (arith, le, lr), climbs p k m b left ws t rest h r d)

mutual
  pub again : (t : Plain) → Again t
  again yes n c m rest x o d l s le = done n c m (written yes rest) yes rest refl (omega (arith, le))
  again no n c m rest x o d l s le = done n c m (written no rest) no rest refl (omega (arith, le))
  again nowhere n c m rest x o d l s le = done n c m (written nowhere rest) nowhere rest (rw s.1 refl) (omega (arith, le))
  again (number i) n c m rest x o d l s le = absurd x
  again (digits i) n c m rest x o d l s le = done n c m (written (digits i) rest) (number (value 0 i)) rest (rw (lt_false MOST (value 0 i) x) refl) (omega (arith, le))
  again (named f) n c m rest x o d l s le = done n c m (written (named f) rest) (named f) rest (rw x (rw s.1 refl)) (omega (arith, le))
  again (paren t) n c m rest x o d l s le =
      let h = longer t (close ∷ rest) in
      let p = parsed t (again t) n c 0 (close ∷ rest) x (omega (arith, o)) d (omega arith) (refl, refl) refl (omega (arith, le)) in
      done n c m (written (paren t) rest) (bare t) rest (rw p refl) (omega (arith, le, h))
  again (listed none) n c m rest x o d l s le = absurd x
  again (listed (more t ts)) n c m rest x o d l s le =
      let h = list_longer (more t ts) (close_set ∷ rest) in
      let p = items_again t ts (again t) (each_again ts) n c kind.CloseSet (125 ∷ []) rest refl refl (refl, refl) x.0 x.1 o (omega (arith, d)) (omega (arith, le)) in
      done n c m (written (listed (more t ts)) rest) (bare (listed (more t ts))) rest (rw p (whole_is (bare (listed (more t ts))) rest d)) (omega (arith, le, h))
  again (prefixed unary.Not t) n c m rest x o d l s le =
      let h = longer t rest in
      let p = parsed t (again t) n c 6 rest x.0 (omega (arith, o)) (omega (arith, d)) x.1 (stops_tighter (min 6 (grab t)) (grab t) rest (omega arith) s) (stops_tighter (min 6 (grab t)) 6 rest (omega arith) s).0 (omega (arith, le)) in
      done n c m (written (prefixed unary.Not t) rest) (bare (prefixed unary.Not t)) rest (rw p (whole_is (bare (prefixed unary.Not t)) rest d)) (omega (arith, le, h))
  again (prefixed unary.Min t) n c m rest x o d l s le =
      let h = longer t rest in
      let p = parsed t (again t) n c 9 rest x.0 (omega (arith, o)) (omega (arith, d)) x.1 (stops_tighter (min 9 (grab t)) (grab t) rest (omega arith) s) (stops_tighter (min 9 (grab t)) 9 rest (omega arith) s).0 (omega (arith, le)) in
      done n c m (written (prefixed unary.Min t) rest) (bare (prefixed unary.Min t)) rest (rw p (whole_is (bare (prefixed unary.Min t)) rest d)) (omega (arith, le, h))
  again (prefixed unary.Max t) n c m rest x o d l s le =
      let h = longer t rest in
      let p = parsed t (again t) n c 9 rest x.0 (omega (arith, o)) (omega (arith, d)) x.1 (stops_tighter (min 9 (grab t)) (grab t) rest (omega arith) s) (stops_tighter (min 9 (grab t)) 9 rest (omega arith) s).0 (omega (arith, le)) in
      done n c m (written (prefixed unary.Max t) rest) (bare (prefixed unary.Max t)) rest (rw p (whole_is (bare (prefixed unary.Max t)) rest d)) (omega (arith, le, h))
  again (prefixed unary.IsEmpty t) n c m rest x o d l s le =
      let h = longer t (close ∷ rest) in
      let p = parsed t (again t) n c 0 (close ∷ rest) x (omega (arith, o)) (omega (arith, d)) (omega arith) (refl, refl) refl (omega (arith, le)) in
      done n c m (written (prefixed unary.IsEmpty t) rest) (bare (prefixed unary.IsEmpty t)) rest (rw p (whole_is (bare (prefixed unary.IsEmpty t)) rest d)) (omega (arith, le, h))
  again (joined b s t) n c m rest x o d l stops le =
      let h = longer s (sign_of b ∷ written t rest) in
      let i = longer t rest in
      let first = again s n c m (sign_of b ∷ written t rest) x.0 (omega (arith, o)) (omega (arith, d)) (omega (arith, l, x.1)) (sign_is (grab s) b (written t rest) ∙ loose (grab s) b x.2, sign_no_open b (written t rest)) le in
      let second = parsed t (again t) n c (right_of b) rest x.3 (omega (arith, o)) (omega (arith, d)) x.4 (stops_tighter (min (right_of b) (grab t)) (grab t) rest (omega arith) stops) (stops_tighter (min (right_of b) (grab t)) (right_of b) rest (omega arith) stops).0 (omega (arith, le, h)) in
      let r = joins (parse n c) first.0 m b (bare s) (written t rest) (bare t) rest first.1 i l second d in
      (r.0, r.1, first.2 ∙ r.2)
  again (bound q sort xs t) n c m rest x o d l s le =
      let h = longer t rest in
      let i = names_at_longer xs (colon ∷ written t rest) in
      let js = names_again xs n (colon ∷ written t rest) x.0 refl (omega (arith, le)) in
      let p = parsed t (again t) n c 0 rest x.1 (omega (arith, o)) (omega (arith, d)) (omega arith) (stops_tighter 0 (grab t) rest (omega arith) s) s.0 (omega (arith, le, i)) in
      done n c m (written (bound q sort xs t) rest) (bare (bound q sort xs t)) rest (quantifier_is (parse n c) n q sort (names xs (colon ∷ written t rest)) ∙ rw js (rw p (whole_is (bare (bound q sort xs t)) rest d))) (omega (arith, le, h, i))
  again (call f none) n c m rest x o d l s le = done n c m (written (call f none) rest) (call f none) rest (rw x.0 refl) (omega (arith, le))
  again (call f (more t ts)) n c m rest x o d l s le =
      let h = list_longer (more t ts) (close ∷ rest) in
      let p = items_again t ts (again t) (each_again ts) n c kind.Close (41 ∷ []) rest refl refl (refl, refl) x.1.0 x.1.1 o (omega (arith, d)) (omega (arith, le)) in
      let e = no_close t (list_more ts (close ∷ rest)) x.1.0 in
      done n c m (written (call f (more t ts)) rest) (bare (call f (more t ts))) rest (rw x.0 (rw e (rw p (whole_is (bare (call f (more t ts))) rest d)))) (omega (arith, le, h))
  again (counted t i j) n c m rest x o d l s le = absurd x
  again (tallied t i j) n c m rest x o d l s le =
      let h = longer t (tally i j rest) in
      let p = parsed t (again t) n c 9 (tally i j rest) x.0 (omega (arith, o)) (omega (arith, d)) x.1 (loose (grab t) binary.Or x.2, refl) refl (omega (arith, le)) in
      let q = tally_again i j rest x.3 x.4 in
      done n c m (written (tallied t i j) rest) (bare (tallied t i j)) rest (rw p (rw q (whole_is (bare (tallied t i j)) rest d))) (omega (arith, le, h))

  pub each_again : (ts : Plains) → EachAgain ts
  each_again none n c zero acc rest x o d s e le lk = refl
  each_again none n c (suc k) acc rest x o d s e le lk = rw e refl
  each_again (more t ts) n c zero acc rest x o d s e le lk = absurd (omega (arith, lk))
  each_again (more t ts) n c (suc k) acc rest x o d s e le lk =
      let h = longer t (list_more ts rest) in
      let p = parsed t (again t) n c 0 (list_more ts rest) x.0 (omega (arith, o)) (omega (arith, d)) (omega arith) (stops_list ts (grab t) rest s) (stops_list ts 0 rest s).0 (omega (arith, le)) in
      rw p (each_again ts n c k (push acc (bare t)) rest x.1 (omega (arith, o)) (omega (arith, d)) s e (omega (arith, le, h)) (omega (arith, lk, h)))

-- an expression that was written is read again
pub read_again : (t : Plain) (n c : ℕ) (rest : List Word) → IsText t → opens t < c → depth (bare t) ≤ MOST → Stops 0 rest → length (written t rest) ≤ n → parse n c 0 (written t rest) ≡ Ok (bare t, rest)
read_again t n c rest x o d s le = parsed t (again t) n c 0 rest x o d (omega arith) (stops_tighter 0 (grab t) rest (omega arith) s) s.0 le
