-- Test vectors from an external source. They reject a definition of `hex_line` with wrong digits.
use Rattle.std.proofs.Common.{◌≡◌, [], ◌∷◌, ◌++◌, codes, refl}
use Rattle.xxh_io.specs.Hex.{hex_line}

-- Lemma: the line of XXH64 of `some bytes` with seed 1234 is its 16 digits and a newline.
pub line_of_some_bytes : hex_line 16 0xeab55659a496d78b ≡ codes "eab55659a496d78b" ++ 10 ∷ []
unfolding hex_line
line_of_some_bytes = refl

-- Lemma: the line of XXH32 of no bytes is its 8 digits, with the leading zero, and a newline.
pub line_of_nothing : hex_line 8 0x02cc5d05 ≡ codes "02cc5d05" ++ 10 ∷ []
unfolding hex_line
line_of_nothing = refl
