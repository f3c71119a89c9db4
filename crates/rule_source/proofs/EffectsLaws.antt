-- What changes say of a bit, one change after the other.
use Rattle.std.proofs.Common.{◌≡◌, ◌≢◌, ℕ, ◌+◌, ◌<◌, ◌≤◌, Bool, true, false, cond, eqb, Option, Some, None, List, [], ◌∷◌, ◌++◌, length, take, get_or, refl, sym, ap, ◌∙◌, arith}
use Rattle.std.specs.Prelude.{unwrap_or}
use Rattle.std.proofs.lemmas.Bool.Decides.{Decides-eqb}
use Rattle.std.specs.List.{cons_option}
use Rattle.std.specs.Option.{option_to_list}
use Rattle.std.proofs.lemmas.List.Elements.{filter_map-append}
use Rattle.rows.specs.declared.rule.NewBit.{NewBit}
use Rattle.rule_file.specs.declared.tree.Change.{Change}
use Rattle.rule_file.specs.declared.tree.Effects.{Effects}
use Rattle.rule_source.specs.Effects.{changed, changes, first_or, said, said_by, value}
use Rattle.rule_source.specs.Patterns.{number}
use Rattle.rule_source.specs.declared.bits.Bits.{Bits}
use Rattle.rule_source.proofs.NamesLaws.{append_none, filtered_more}

is_false : (b : Bool) → (b ≡ true → ⊥) → b ≡ false
is_false true h = absurd (h refl)
is_false false h = refl

says : (b : Bits) (j : ℕ) (c : Change) (t : Bool) → eqb (number b (changed c)) j ≡ t → said_by b j c ≡ cond t (Some (value b c)) None
says b j c t e = ap (λ (u : Bool). cond u (Some (value b c)) None) e

-- a change that names the bit says its value
says_value : (b : Bits) (j : ℕ) (c : Change) (n : ℕ) → n ≡ number b (changed c) → n ≡ j → said_by b j c ≡ Some (value b c)
says_value b j c n e q = says b j c true ((Decides-eqb (number b (changed c)) j).1 (sym e ∙ q))

-- one that names another bit says nothing
says_nothing : (b : Bits) (j : ℕ) (c : Change) (n : ℕ) → n ≡ number b (changed c) → n ≢ j → said_by b j c ≡ None
says_nothing b j c n e q = says b j c false (is_false (eqb (number b (changed c)) j) (λ t. q (e ∙ (Decides-eqb (number b (changed c)) j).0 t)))

-- behind what was said, of the bit a change says its value where nothing was said, and one that names another bit nothing
pub says_first : (b : Bits) (j : ℕ) (cs : List Change) (i : ℕ) (d : Change) (base : List NewBit) (o : Option NewBit) (n : ℕ) (v : NewBit) → i < length cs → option_to_list o ≡ base ++ said b j (take i cs) → o ≡ None → n ≡ number b (changed (get_or cs i d)) → n ≡ j → v ≡ value b (get_or cs i d) → option_to_list (Some v) ≡ base ++ said b j (take (i + 1) cs)
says_first b j cs i d base o n v h a none e q w =
    filtered_more (said_by b j) cs i d base (option_to_list o) (option_to_list (Some v)) h a
    (ap (λ (t : NewBit). t ∷ []) w ∙ sym (ap (λ (t : Option NewBit). option_to_list t ++ cons_option (said_by b j (get_or cs i d)) []) none ∙ ap (λ (t : Option NewBit). cons_option t []) (says_value b j (get_or cs i d) n e q)))

pub says_no_more : (b : Bits) (j : ℕ) (cs : List Change) (i : ℕ) (d : Change) (base : List NewBit) (o : Option NewBit) (n : ℕ) → i < length cs → option_to_list o ≡ base ++ said b j (take i cs) → n ≡ number b (changed (get_or cs i d)) → n ≢ j → option_to_list o ≡ base ++ said b j (take (i + 1) cs)
says_no_more b j cs i d base o n h a e q =
    filtered_more (said_by b j) cs i d base (option_to_list o) (option_to_list o) h a
    (append_none (option_to_list o) ∙ sym (ap (λ (t : Option NewBit). option_to_list o ++ cons_option t []) (says_nothing b j (get_or cs i d) n e q)))

-- what is said before and behind the word, in one
pub all_said : (b : Bits) (j : ℕ) (e : Effects) (o q : Option NewBit) → option_to_list o ≡ said b j e.before.items → option_to_list q ≡ option_to_list o ++ said b j e.after.items → option_to_list q ≡ said b j (changes e)
all_said b j e o q f g = g ∙ ap (λ (t : List NewBit). t ++ said b j e.after.items) f ∙ sym (filter_map-append (said_by b j) e.before.items e.after.items)

first_of : (o : Option NewBit) (d : NewBit) → unwrap_or o d ≡ first_or d (option_to_list o)
first_of None d = refl
first_of (Some n) d = refl

pub said_first : (o : Option NewBit) (d n : NewBit) (l : List NewBit) → option_to_list o ≡ l → n ≡ unwrap_or o d → n ≡ first_or d l
said_first o d n l e u = u ∙ first_of o d ∙ ap (λ (t : List NewBit). first_or d t) e

one_at_most : (o : Option NewBit) → length (option_to_list o) ≤ 1
one_at_most None = omega arith
one_at_most (Some n) = omega arith

pub said_once : (o : Option NewBit) (l : List NewBit) → option_to_list o ≡ l → length l ≤ 1
said_once o l e = let h = one_at_most o in omega (arith, h, ap length e)
