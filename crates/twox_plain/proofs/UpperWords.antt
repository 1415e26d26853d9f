-- Lemma on the upper half of an eight-byte word.
use Rattle.twox_plain.proofs.Prelude.{◌*◌, ◌+◌, ◌/◌, ◌<◌, ◌^◌, ◌∙◌, ◌≡◌, ◌≤◌, List, ap, arith, length, slice_index, sym, w32, w64, word_at_listed, ℕ}
use Rattle.twox_words.specs.Word.{word_at}

-- Lemma: the upper half of the eight-byte word at offset i is the four-byte word at offset i + 4.
pub upper_word : (m : List ℕ) (i : ℕ) → ((k : ℕ) → slice_index m k < 256) → i + 8 ≤ length m → word_at w64 m i / 2 ^ 32 ≡ word_at w32 m (i + 4)
upper_word m i bytes fits =
    let b = λ (k : ℕ). slice_index m (i + k) in
    let c = λ (k : ℕ). slice_index m (i + 4 + k) in
    let same : (k n : ℕ) → i + 4 + k ≡ i + n → c k ≡ b n = λ k n e. ap (slice_index m) e in
    let s0 : c 0 ≡ b 4 = same 0 4 (omega arith) in
    let s1 : c 1 ≡ b 5 = same 1 5 (omega arith) in
    let s2 : c 2 ≡ b 6 = same 2 6 (omega arith) in
    let s3 : c 3 ≡ b 7 = same 3 7 (omega arith) in
    let half : (b 0 + b 1 * 2 ^ 8 + b 2 * 2 ^ 16 + b 3 * 2 ^ 24 + b 4 * 2 ^ 32 + b 5 * 2 ^ 40 + b 6 * 2 ^ 48 + b 7 * 2 ^ 56) / 2 ^ 32 ≡ c 0 + c 1 * 256 + c 2 * 65536 + c 3 * 16777216 =
    rw (s0, s1, s2, s3) (omega (arith, bytes (i + 0), bytes (i + 1), bytes (i + 2), bytes (i + 3))) in
    ap (λ (x : ℕ). x / 2 ^ 32) (sym (word_at_listed w64 m i fits)) ∙ half ∙ word_at_listed w32 m (i + 4) (omega arith)
