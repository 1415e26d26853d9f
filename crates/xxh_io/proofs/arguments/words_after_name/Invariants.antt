use Rattle.std.proofs.Common.{◌≡◌, map, take, string_bytes, vec_items}
use Rattle.xxh_io.proofs.arguments.words_after_name.Given as goal

-- Invariant: the list has the bytes of each argument so far
abbrev pub invariant-loop-word : goal.invariant-loop-word
invariant-loop-word l = map (λ word. word.now) (vec_items l.words) ≡ map string_bytes (take l.word-index l.after_name)
