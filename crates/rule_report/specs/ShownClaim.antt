-- How the claim of a question is shown.
use Rattle.std.specs.Prelude.{◌≡◌, ◌≢◌, ◌⊎◌, ℕ, suc, true, false, List, [], ◌++◌, codes}
use Rattle.claims.specs.Claims.{C}
use Rattle.claims.specs.Rows.{Claim}
use Rattle.claims.specs.Encoded.{sets_needed, Refused}
use Rattle.claims.specs.declared.encode.Refusal.{Refusal}
use Rattle.claims.specs.declared.encode.Refusal.TheVariants.{OutOfMemory}
use Rattle.display.specs.Hex.{hex_of}
use Rattle.rules.specs.Property.{claim_of}
use Rattle.rules.specs.declared.rule.Rule.{Rule}
use Rattle.rules.specs.declared.property.Property.{Property}
use Rattle.rule_report.specs.declared.options.Options.{Options}

-- the bytes of a claim about at least so many sets, in hex digits
pub record AreBytes (least : ℕ) (c : C) (words : List ℕ) : Type 0 where
  pub bytes : List ℕ
  pub claim : Claim bytes (sets_needed least c) c
  pub words_are : words ≡ codes "    bytes " ++ (hex_of bytes ++ codes "\n")

-- it has none, since it takes too many bytes or sets; behind that, in words, why
pub record HasNoBytes (least : ℕ) (c : C) (words : List ℕ) : Type 0 where
  pub refusal : Refusal
  pub refused : Refused least c refusal
  pub limit : refusal ≢ OutOfMemory
  pub why : List ℕ
  pub words_are : words ≡ codes "    no bytes: " ++ why

abbrev pub TellsBytes : ℕ → C → List ℕ → Type 0
TellsBytes least c words = AreBytes least c words ⊎ HasNoBytes least c words

-- a text if it is wanted, and behind it the claim's bytes, about at least so many sets, if they are wanted
pub record IsShownAs (o : Options) (least : ℕ) (c : C) (words : List ℕ) : Type 0 where
  pub text : List ℕ
  pub bytes : List ℕ
  pub words_are : words ≡ text ++ bytes
  pub no_text : o.show ≡ false → text ≡ []
  pub no_bytes : o.bytes ≡ false → bytes ≡ []
  pub bytes_are : o.bytes ≡ true → TellsBytes least c bytes

-- so the claim of a question
abbrev pub IsShown : Options → Rule → Property → List ℕ → Type 0
IsShown o r p words = IsShownAs o (suc r.bits) (claim_of r p) words
