use Rattle.twox_core.proofs.Prelude.{◌*◌, ◌+◌, ◌-◌, ◌∙◌, ◌≡◌, Fits, ap, arith, drop, get_or, refl, rules, take, take-take, w8, word64, ℕ}
use Rattle.twox_core.proofs.VectorWords.{word_of_vector}
use Rattle.twox_core.proofs.xxhash3.large.word.words.Goals as goal

pub returns : goal.returns
returns c =
    let m = c.args.bytes.now in
    let i = c.args.i in
    let bytes : (k : ℕ) → Fits w8 (get_or m k 0) = search rules in
    let count : 8 * i + 32 - 8 * i ≡ 32 = omega arith in
    let all : take 32 (take 32 (drop (8 * i) m)) ≡ take 32 (drop (8 * i) m) = take-take 32 32 (drop (8 * i) m) (omega arith) in
    let at : (j k : ℕ) → 8 * i + 8 * j ≡ k → word64 m (8 * i + 8 * j) ≡ word64 m k = λ j k e. ap (word64 m) e in
    let first = word_of_vector 4 m (8 * i) 0 bytes (omega arith) (omega arith) ∙ at 0 (8 * i) (omega arith) in
    let second = word_of_vector 4 m (8 * i) 1 bytes (omega arith) (omega arith) ∙ at 1 (8 * (i + 1)) (omega arith) in
    let third = word_of_vector 4 m (8 * i) 2 bytes (omega arith) (omega arith) ∙ at 2 (8 * (i + 2)) (omega arith) in
    let fourth = word_of_vector 4 m (8 * i) 3 bytes (omega arith) (omega arith) ∙ at 3 (8 * (i + 3)) (omega arith) in
    rw (count, all, first, second, third, fourth) refl
