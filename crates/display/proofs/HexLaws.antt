-- Lemmas on hex digits.
use Rattle.std.proofs.Common.{◌≡◌, ℕ, ◌+◌, ◌-◌, ◌^◌, ◌<◌, Some, false, List, [], ◌++◌, length, take, get_or, sym, ap, ◌∙◌}
use Rattle.std.specs.Fmt.{digits, digits_output, format_spec, styled_digits_output}
use Rattle.std.proofs.lemmas.Fmt.{hex_byte}
use Rattle.std.proofs.lemmas.List.{take_more, flat_map_more}
use Rattle.display.specs.Hex.{pair_of, hex_of}

-- what a hole for two hex digits writes of a byte
pub byte_written : (d : _) (s : _) (byte : ℕ) → byte < 256 → s ≡ format_spec 32 0 4 2 (2 ^ 64 - 1) → digits_output d ≡ Some (digits 16 false byte)
    → styled_digits_output d s ≡ Some (pair_of byte)
byte_written d s byte small options shown = rw (options, shown) (ap (λ (text : List ℕ). Some text) (hex_byte false byte small))

-- the digits of one byte more
pub hex_of-take : (bytes : List ℕ) (i : ℕ) → i < length bytes → hex_of (take i bytes) ++ pair_of (get_or bytes i 0) ≡ hex_of (take (i + 1) bytes)
hex_of-take bytes i within = flat_map_more pair_of [] (take i bytes) (get_or bytes i 0) ∙ ap hex_of (sym (take_more bytes i 0 within))
