-- Signs and names as they are written, and how long what is written is.
use Rattle.std.proofs.Common.{ℕ, zero, suc, ◌<◌, ◌≤◌, ◌≡◌, List, [], ◌∷◌, ◌++◌, true, false, length, Option, Some, None, Ok, refl, ap, ◌∙◌, arith, append_assoc, append-nil, nat_lt, nat_le}
use Rattle.tokens.specs.declared.kind.Kind.TheVariants as kind
use Rattle.trees.specs.declared.tree.Unary.TheVariants as unary
use Rattle.trees.specs.declared.tree.Binary.{Binary}
use Rattle.trees.specs.declared.tree.Binary.TheVariants as binary
use Rattle.tokens.specs.Words.{Word, word}
use Rattle.syntax.specs.Plain.{Plain, number, paren, listed, prefixed, joined, bound, call, counted, tallied, Plains, none, more, tally, sign_of, colon, close, close_set, names, names_more, written, list, list_more}
use Rattle.syntax.specs.Parsing.{level_of, binary_of, if_tight, operator, begins, more_names, names_at, push}
use Rattle.syntax.specs.Grammar.{AreAscii, AreNames}

-- behind an expression stands no operator that it would take, and nothing that makes it a call
abbrev pub Stops : ℕ → List Word → Type 0
Stops g ws = (operator g ws ≡ None) × (begins kind.Open ws ≡ false)

pub lt_false : (a b : ℕ) → b ≤ a → nat_lt a b ≡ false
lt_false a b h = grind arith

pub le_true : (a b : ℕ) → a ≤ b → nat_le a b ≡ true
le_true a b h = grind arith

pub le_false : (a b : ℕ) → b < a → nat_le a b ≡ false
le_false a b h = grind arith

pub sign_is : (g : ℕ) (b : Binary) (ws : List Word) → operator g (sign_of b ∷ ws) ≡ if_tight g (Some b)
sign_is g binary.Iff ws = refl
sign_is g binary.Implies ws = refl
sign_is g binary.Or ws = refl
sign_is g binary.And ws = refl
sign_is g binary.In ws = refl
sign_is g binary.NotIn ws = refl
sign_is g binary.Sub ws = refl
sign_is g binary.Union ws = refl
sign_is g binary.Inter ws = refl
sign_is g binary.Without ws = refl
sign_is g binary.Plus ws = refl
sign_is g binary.Minus ws = refl
sign_is g _ ws = refl

pub sign_no_open : (b : Binary) (ws : List Word) → begins kind.Open (sign_of b ∷ ws) ≡ false
sign_no_open binary.Iff ws = refl
sign_no_open _ ws = refl

pub tight : (g : ℕ) (b : Binary) → g ≤ level_of b → if_tight g (Some b) ≡ Some b
tight g b h = rw (le_true g (level_of b) h) refl

pub loose : (g : ℕ) (b : Binary) → level_of b < g → if_tight g (Some b) ≡ None
loose g b h = rw (le_false g (level_of b) h) refl

pub tight_or : (g : ℕ) (b : Binary) → if_tight g (Some b) ≡ None → level_of b < g
tight_or g b e = grind (arith, tight)

pub looser_of : (g h : ℕ) (b : Binary) → g ≤ h → level_of b < g → if_tight h (Some b) ≡ None
looser_of g h b le lt = loose h b (omega arith)

pub looser_at : (g h : ℕ) (o : Option Binary) → g ≤ h → if_tight g o ≡ None → if_tight h o ≡ None
looser_at g h None le e = refl
looser_at g h (Some b) le e = looser_of g h b le (tight_or g b e)

-- nothing stands in the way of what takes less
pub stops_tighter : (g h : ℕ) (ws : List Word) → g ≤ h → Stops g ws → Stops h ws
stops_tighter g h [] le s = (refl, refl)
stops_tighter g h (word k d ∷ ws) le s = (looser_at g h (binary_of k) le s.0, s.1)

pub names_longer : (xs : List (List ℕ)) (rest : List Word) → length rest ≤ length (names_more xs rest)
names_longer [] rest = omega arith
names_longer (x ∷ xs) rest = let h = names_longer xs rest in omega arith

pub names_at_longer : (xs : List (List ℕ)) (rest : List Word) → length rest ≤ length (names xs rest)
names_at_longer [] rest = omega arith
names_at_longer (x ∷ xs) rest = let h = names_longer xs rest in omega arith

mutual
  pub longer : (t : Plain) (rest : List Word) → length rest ≤ length (written t rest)
  longer (number n) rest = omega arith
  longer (paren t) rest = let h = longer t (close ∷ rest) in omega arith
  longer (listed ts) rest = let h = list_longer ts (close_set ∷ rest) in omega arith
  longer (prefixed unary.Not t) rest = let h = longer t rest in omega arith
  longer (prefixed unary.Min t) rest = let h = longer t rest in omega arith
  longer (prefixed unary.Max t) rest = let h = longer t rest in omega arith
  longer (prefixed unary.IsEmpty t) rest = let h = longer t (close ∷ rest) in omega arith
  longer (joined b s t) rest = let h = longer t rest in let i = longer s (sign_of b ∷ written t rest) in omega arith
  longer (bound q sort xs t) rest = let h = longer t rest in let i = names_at_longer xs (colon ∷ written t rest) in omega arith
  longer (call f ts) rest = let h = list_longer ts (close ∷ rest) in omega arith
  longer (counted t m r) rest = omega arith
  longer (tallied t d e) rest = let h = longer t (tally d e rest) in omega arith
  longer _ rest = omega arith

  pub list_longer : (ts : Plains) (rest : List Word) → length rest ≤ length (list ts rest)
  list_longer none rest = omega arith
  list_longer (more t ts) rest = let h = list_more_longer ts rest in let i = longer t (list_more ts rest) in omega arith

  pub list_more_longer : (ts : Plains) (rest : List Word) → length rest ≤ length (list_more ts rest)
  list_more_longer none rest = omega arith
  list_more_longer (more t ts) rest = let h = list_more_longer ts rest in let i = longer t (list_more ts rest) in omega arith

-- names are read again
pub more_names_again : (xs : List (List ℕ)) (n : ℕ) (acc : List (List ℕ)) (rest : List Word) → AreAscii xs → begins kind.Comma rest ≡ false → length (names_more xs rest) ≤ n → more_names n acc (names_more xs rest) ≡ Ok (acc ++ xs, rest)
more_names_again [] zero acc rest a e le = rw append-nil refl
more_names_again [] (suc n) acc rest a e le = rw e (rw append-nil refl)
more_names_again (x ∷ xs) zero acc rest a e le = absurd (omega (arith, le))
more_names_again (x ∷ xs) (suc n) acc rest a e le =
    let h = more_names_again xs n (acc ++ x ∷ []) rest a.1 e (omega (arith, le)) in
    rw a.0 (rw h (ap (λ ys. Ok (ys, rest)) (append_assoc acc (x ∷ []) xs)))

pub names_again : (xs : List (List ℕ)) (n : ℕ) (rest : List Word) → AreNames xs → begins kind.Comma rest ≡ false → length (names xs rest) ≤ n → names_at n (names xs rest) ≡ Ok (xs, rest)
names_again [] n rest a e le = absurd a
names_again (x ∷ xs) n rest a e le =
    let h = more_names_again xs n (x ∷ []) rest a.1 e (omega (arith, le)) in
    rw a.0 h

-- one tree more, behind others
abbrev pub pushes : Plains → Plains → Plains
pushes acc none = acc
pushes acc (more t ts) = pushes (push acc t) ts

pub pushes_front : (s : Plain) (acc ts : Plains) → pushes (more s acc) ts ≡ more s (pushes acc ts)
pushes_front s acc none = refl
pushes_front s acc (more t ts) = pushes_front s (push acc t) ts

pub pushes_none : (ts : Plains) → pushes none ts ≡ ts
pushes_none none = refl
pushes_none (more t ts) = pushes_front t none ts ∙ ap (more t) (pushes_none ts)

pub pushes_one : (t : Plain) (ts : Plains) → pushes (more t none) ts ≡ more t ts
pushes_one t ts = pushes_none (more t ts)
