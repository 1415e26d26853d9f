use Rattle.twox_plain.proofs.Prelude.{◌≡◌, map, number, take, unsigned, view}
use Rattle.twox_plain.proofs.saved_text.byte_values.Given as goal

abbrev pub invariant-loop-byte : goal.invariant-loop-byte
invariant-loop-byte l = map view l.list.items ≡ map (λ x. number (unsigned x)) (take l.byte-index l.bytes)
