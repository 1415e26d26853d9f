use Rattle.std.proofs.Common.{◌≡◌, ℕ, List, ◌++◌, length, take, drop, set, replicate, refl, ◌∙◌, ap}
use borrow.Rule.Slice.PartMut.{put_mid}
use Rattle.xxh_io.specs.Hex.{hex_digits, hex_line, offset_line}
use Rattle.xxh_io.proofs.hex.offset_line.Goals as goal

-- Lemmas on the line of a block, written as two numbers and a space into a buffer of newlines.

-- The buffer after the offset and the space.
abbrev after_space : List ℕ → List ℕ
after_space front = set (front ++ replicate 34 10) 16 32

line_at : (offset value : ℕ) (back : List ℕ) → back ≡ hex_digits (length (take 32 (drop 17 (after_space (hex_digits 16 offset))))) value → put_mid 17 32 (after_space (hex_digits 16 offset)) back ≡ offset_line offset value
unfolding offset_line hex_line
line_at offset value back e = rw e refl

line_after_writes : (offset value : ℕ) (front back : List ℕ) → front ≡ hex_digits 16 offset → back ≡ hex_digits (length (take 32 (drop 17 (after_space front)))) value → put_mid 17 32 (after_space front) back ≡ offset_line offset value
line_after_writes offset value front back e = rw e (line_at offset value back)

pub returns : goal.returns
returns c =
    line_after_writes c.args.offset c.args.value c.write_digits.new.out c.write_digits-2.new.out (c.write_digits.ensures.digits ∙ ap (hex_digits 16) c.from.ensures) c.write_digits-2.ensures.digits
