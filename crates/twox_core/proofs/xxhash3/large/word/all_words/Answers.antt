use Rattle.twox_core.proofs.Prelude.{◌<◌, ◌≡◌, Fits, arith, drop, get_or, refl, rules, take, take-take, w8, ℕ}
use Rattle.twox_core.proofs.VectorWords.{word_of_vector}
use Rattle.twox_core.proofs.xxhash3.large.word.all_words.Goals as goal

pub returns : goal.returns
returns c =
    let m = c.args.bytes.now in
    let bytes : (k : ℕ) → Fits w8 (get_or m k 0) = search rules in
    let all : take 64 (take 64 (drop 0 m)) ≡ take 64 (drop 0 m) = take-take 64 64 (drop 0 m) (omega arith) in
    let word : (j : ℕ) → j < 8 → _ = λ j low. word_of_vector 8 m 0 j bytes (omega arith) low in
    rw (all, word 0 (omega arith), word 1 (omega arith), word 2 (omega arith), word 3 (omega arith), word 4 (omega arith), word 5 (omega arith), word 6 (omega arith), word 7 (omega arith)) refl
