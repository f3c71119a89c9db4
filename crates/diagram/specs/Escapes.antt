-- Texts in an XML text.
use Rattle.std.specs.Prelude.{ℕ, Bool, List, ◌==◌, if◌then◌else◌, ◌||◌, ◌&&◌, codes, encode_utf8, nat_lt, not}
use Rattle.std.specs.List.{flat_map}
use Rattle.std.specs.Str.{chars}

-- what may not stand in an XML text: control characters but for tab, line feed and carriage return, and two codes that are no character
abbrev pub is_forbidden : ℕ → Bool
is_forbidden c = (nat_lt c 32 && not (c == 9 || c == 10 || c == 13)) || c == 65534 || c == 65535

-- what stands for a character that may stand there
abbrev pub named : ℕ → List ℕ
named c =
    if c == 38 then codes "&amp;"
    else if c == 60 then codes "&lt;"
    else if c == 62 then codes "&gt;"
    else if c == 34 then codes "&quot;"
    else if c == 39 then codes "&apos;"
    else encode_utf8 c

-- what stands for a character
abbrev pub escape_of : ℕ → List ℕ
escape_of c = if is_forbidden c then encode_utf8 65533 else named c

abbrev pub escaped : List ℕ → List ℕ
escaped text = flat_map escape_of (chars text)
