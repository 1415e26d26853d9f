-- Lemmas on the first word of short bytes: bytes that are kept, and a byte after them.
use Rattle.std.proofs.Common.{◌≡◌, ◌<◌, ◌≤◌, ◌+◌, ◌-◌, ◌*◌, ◌/◌, ◌%◌, ◌^◌, ◌++◌, ◌∙◌, [], ◌∷◌, List, take, length, ap, suc, zero, ℕ, arith, Fits, get_or, refl}
use Rattle.std.specs.Int.{w8, w32, w64, to_le_bytes}
use Rattle.std.proofs.lemmas.List.{length-take-le, take-take}
use Rattle.std.proofs.lemmas.Nat.{le_bytes_8}
use Rattle.twox_words.specs.Word.{word_at}
use Rattle.twox_words.proofs.WordLaws.{IsBytes-part}

-- Lemma: the lower n bytes of a word and byte y above them fit a word.
pub below_with_byte : (x n y : ℕ) → n < 8 → y < 256 → Fits w64 (x % (1 * 2 ^ (8 * n) % 2 ^ 64) + y * 2 ^ (8 * n) % 2 ^ 64)
below_with_byte x zero y few small = omega arith
below_with_byte x (suc zero) y few small = omega arith
below_with_byte x (suc (suc zero)) y few small = omega arith
below_with_byte x (suc (suc (suc zero))) y few small = omega arith
below_with_byte x (suc (suc (suc (suc zero)))) y few small = omega arith
below_with_byte x (suc (suc (suc (suc (suc zero))))) y few small = omega arith
below_with_byte x (suc (suc (suc (suc (suc (suc zero)))))) y few small = omega arith
below_with_byte x (suc (suc (suc (suc (suc (suc (suc zero))))))) y few small = omega arith
below_with_byte x (suc (suc (suc (suc (suc (suc (suc (suc n)))))))) y few small = absurd (omega arith)

-- Lemma: that word has the lower n bytes of the first one, and then y.
pub with_byte_bytes : (x n y : ℕ) → n < 8 → y < 256 → take (n + 1) (to_le_bytes w64 (x % (1 * 2 ^ (8 * n) % 2 ^ 64) + y * 2 ^ (8 * n) % 2 ^ 64)) ≡ take n (to_le_bytes w64 x) ++ (y ∷ [])
with_byte_bytes x zero y few small =
    let at0 : (x % 1 + y * 1 % 18446744073709551616) % 256 ≡ y = omega arith in
    λ i. at0 i ∷ []
with_byte_bytes x (suc zero) y few small =
    let at0 : (x % 256 + y * 256 % 18446744073709551616) % 256 ≡ x % 256 = omega arith in
    let at1 : (x % 256 + y * 256 % 18446744073709551616) / 256 % 256 ≡ y = omega arith in
    λ i. at0 i ∷ at1 i ∷ []
with_byte_bytes x (suc (suc zero)) y few small =
    let at0 : (x % 65536 + y * 65536 % 18446744073709551616) % 256 ≡ x % 256 = omega arith in
    let at1 : (x % 65536 + y * 65536 % 18446744073709551616) / 256 % 256 ≡ x / 256 % 256 = omega arith in
    let at2 : (x % 65536 + y * 65536 % 18446744073709551616) / 65536 % 256 ≡ y = omega arith in
    λ i. at0 i ∷ at1 i ∷ at2 i ∷ []
with_byte_bytes x (suc (suc (suc zero))) y few small =
    let at0 : (x % 16777216 + y * 16777216 % 18446744073709551616) % 256 ≡ x % 256 = omega arith in
    let at1 : (x % 16777216 + y * 16777216 % 18446744073709551616) / 256 % 256 ≡ x / 256 % 256 = omega arith in
    let at2 : (x % 16777216 + y * 16777216 % 18446744073709551616) / 65536 % 256 ≡ x / 65536 % 256 = omega arith in
    let at3 : (x % 16777216 + y * 16777216 % 18446744073709551616) / 16777216 % 256 ≡ y = omega arith in
    λ i. at0 i ∷ at1 i ∷ at2 i ∷ at3 i ∷ []
with_byte_bytes x (suc (suc (suc (suc zero)))) y few small =
    let at0 : (x % 4294967296 + y * 4294967296 % 18446744073709551616) % 256 ≡ x % 256 = omega arith in
    let at1 : (x % 4294967296 + y * 4294967296 % 18446744073709551616) / 256 % 256 ≡ x / 256 % 256 = omega arith in
    let at2 : (x % 4294967296 + y * 4294967296 % 18446744073709551616) / 65536 % 256 ≡ x / 65536 % 256 = omega arith in
    let at3 : (x % 4294967296 + y * 4294967296 % 18446744073709551616) / 16777216 % 256 ≡ x / 16777216 % 256 = omega arith in
    let at4 : (x % 4294967296 + y * 4294967296 % 18446744073709551616) / 4294967296 % 256 ≡ y = omega arith in
    λ i. at0 i ∷ at1 i ∷ at2 i ∷ at3 i ∷ at4 i ∷ []
with_byte_bytes x (suc (suc (suc (suc (suc zero))))) y few small =
    let at0 : (x % 1099511627776 + y * 1099511627776 % 18446744073709551616) % 256 ≡ x % 256 = omega arith in
    let at1 : (x % 1099511627776 + y * 1099511627776 % 18446744073709551616) / 256 % 256 ≡ x / 256 % 256 = omega arith in
    let at2 : (x % 1099511627776 + y * 1099511627776 % 18446744073709551616) / 65536 % 256 ≡ x / 65536 % 256 = omega arith in
    let at3 : (x % 1099511627776 + y * 1099511627776 % 18446744073709551616) / 16777216 % 256 ≡ x / 16777216 % 256 = omega arith in
    let at4 : (x % 1099511627776 + y * 1099511627776 % 18446744073709551616) / 4294967296 % 256 ≡ x / 4294967296 % 256 = omega arith in
    let at5 : (x % 1099511627776 + y * 1099511627776 % 18446744073709551616) / 1099511627776 % 256 ≡ y = omega arith in
    λ i. at0 i ∷ at1 i ∷ at2 i ∷ at3 i ∷ at4 i ∷ at5 i ∷ []
with_byte_bytes x (suc (suc (suc (suc (suc (suc zero)))))) y few small =
    let at0 : (x % 281474976710656 + y * 281474976710656 % 18446744073709551616) % 256 ≡ x % 256 = omega arith in
    let at1 : (x % 281474976710656 + y * 281474976710656 % 18446744073709551616) / 256 % 256 ≡ x / 256 % 256 = omega arith in
    let at2 : (x % 281474976710656 + y * 281474976710656 % 18446744073709551616) / 65536 % 256 ≡ x / 65536 % 256 = omega arith in
    let at3 : (x % 281474976710656 + y * 281474976710656 % 18446744073709551616) / 16777216 % 256 ≡ x / 16777216 % 256 = omega arith in
    let at4 : (x % 281474976710656 + y * 281474976710656 % 18446744073709551616) / 4294967296 % 256 ≡ x / 4294967296 % 256 = omega arith in
    let at5 : (x % 281474976710656 + y * 281474976710656 % 18446744073709551616) / 1099511627776 % 256 ≡ x / 1099511627776 % 256 = omega arith in
    let at6 : (x % 281474976710656 + y * 281474976710656 % 18446744073709551616) / 281474976710656 % 256 ≡ y = omega arith in
    λ i. at0 i ∷ at1 i ∷ at2 i ∷ at3 i ∷ at4 i ∷ at5 i ∷ at6 i ∷ []
with_byte_bytes x (suc (suc (suc (suc (suc (suc (suc zero))))))) y few small =
    let at0 : (x % 72057594037927936 + y * 72057594037927936 % 18446744073709551616) % 256 ≡ x % 256 = omega arith in
    let at1 : (x % 72057594037927936 + y * 72057594037927936 % 18446744073709551616) / 256 % 256 ≡ x / 256 % 256 = omega arith in
    let at2 : (x % 72057594037927936 + y * 72057594037927936 % 18446744073709551616) / 65536 % 256 ≡ x / 65536 % 256 = omega arith in
    let at3 : (x % 72057594037927936 + y * 72057594037927936 % 18446744073709551616) / 16777216 % 256 ≡ x / 16777216 % 256 = omega arith in
    let at4 : (x % 72057594037927936 + y * 72057594037927936 % 18446744073709551616) / 4294967296 % 256 ≡ x / 4294967296 % 256 = omega arith in
    let at5 : (x % 72057594037927936 + y * 72057594037927936 % 18446744073709551616) / 1099511627776 % 256 ≡ x / 1099511627776 % 256 = omega arith in
    let at6 : (x % 72057594037927936 + y * 72057594037927936 % 18446744073709551616) / 281474976710656 % 256 ≡ x / 281474976710656 % 256 = omega arith in
    let at7 : (x % 72057594037927936 + y * 72057594037927936 % 18446744073709551616) / 72057594037927936 % 256 ≡ y = omega arith in
    λ i. at0 i ∷ at1 i ∷ at2 i ∷ at3 i ∷ at4 i ∷ at5 i ∷ at6 i ∷ at7 i ∷ []
with_byte_bytes x (suc (suc (suc (suc (suc (suc (suc (suc n)))))))) y few small = absurd (omega arith)

-- Lemma: the bytes of the first word of m are the first eight bytes of m.
pub first_word_bytes : (m : List ℕ) → 8 ≤ length m → ((i : ℕ) → Fits w8 (get_or m i 0)) → to_le_bytes w64 (word_at w64 m 0) ≡ take 8 m
unfolding word_at
first_word_bytes m enough small = le_bytes_8 (take 8 m) (word_at w64 m 0) (length-take-le 8 m enough) (IsBytes-part 8 0 m (λ i. (small i).fits)) refl

-- Lemma: the first word of m with byte y after its lower n bytes has these n bytes of m, and then y.
pub first_word_with_byte : (m : List ℕ) (n y : ℕ) → 8 ≤ length m → ((i : ℕ) → Fits w8 (get_or m i 0)) → n < 8 → y < 256 → take (n + 1) (to_le_bytes w64 (word_at w64 m 0 % (1 * 2 ^ (8 * n) % 2 ^ 64) + y * 2 ^ (8 * n) % 2 ^ 64)) ≡ take n m ++ (y ∷ [])
first_word_with_byte m n y enough small few fits =
    with_byte_bytes (word_at w64 m 0) n y few fits ∙ ap (λ (d : List ℕ). take n d ++ (y ∷ [])) (first_word_bytes m enough small) ∙ ap (λ (d : List ℕ). d ++ (y ∷ [])) (take-take n 8 m (omega arith))

-- Lemma: the words of the first and the last four of 4 to 8 bytes, the last one without the bytes of the first, are the word of these bytes.
pub word_of_ends : (m : List ℕ) → 4 ≤ length m → length m ≤ 8 → ((i : ℕ) → Fits w8 (get_or m i 0)) → take (length m) (to_le_bytes w64 (word_at w32 m 0 + word_at w32 m (length m - 4) / 2 ^ (8 * (8 - length m)) * 2 ^ 32 % 2 ^ 64)) ≡ m
unfolding word_at
word_of_ends ([]) least most small = absurd (omega arith)
word_of_ends (a ∷ []) least most small = absurd (omega arith)
word_of_ends (a ∷ b ∷ []) least most small = absurd (omega arith)
word_of_ends (a ∷ b ∷ c ∷ []) least most small = absurd (omega arith)
word_of_ends (a ∷ b ∷ c ∷ d ∷ []) least most small =
    let s0 = (small 0).fits in
    let s1 = (small 1).fits in
    let s2 = (small 2).fits in
    let s3 = (small 3).fits in
    let at0 : (a + b * 256 + c * 65536 + d * 16777216 + (a + b * 256 + c * 65536 + d * 16777216) / 4294967296 * 4294967296 % 18446744073709551616) % 256 ≡ a = omega arith in
    let at1 : (a + b * 256 + c * 65536 + d * 16777216 + (a + b * 256 + c * 65536 + d * 16777216) / 4294967296 * 4294967296 % 18446744073709551616) / 256 % 256 ≡ b = omega arith in
    let at2 : (a + b * 256 + c * 65536 + d * 16777216 + (a + b * 256 + c * 65536 + d * 16777216) / 4294967296 * 4294967296 % 18446744073709551616) / 65536 % 256 ≡ c = omega arith in
    let at3 : (a + b * 256 + c * 65536 + d * 16777216 + (a + b * 256 + c * 65536 + d * 16777216) / 4294967296 * 4294967296 % 18446744073709551616) / 16777216 % 256 ≡ d = omega arith in
    λ i. at0 i ∷ at1 i ∷ at2 i ∷ at3 i ∷ []
word_of_ends (a ∷ b ∷ c ∷ d ∷ e ∷ []) least most small =
    let s0 = (small 0).fits in
    let s1 = (small 1).fits in
    let s2 = (small 2).fits in
    let s3 = (small 3).fits in
    let s4 = (small 4).fits in
    let at0 : (a + b * 256 + c * 65536 + d * 16777216 + (b + c * 256 + d * 65536 + e * 16777216) / 16777216 * 4294967296 % 18446744073709551616) % 256 ≡ a = omega arith in
    let at1 : (a + b * 256 + c * 65536 + d * 16777216 + (b + c * 256 + d * 65536 + e * 16777216) / 16777216 * 4294967296 % 18446744073709551616) / 256 % 256 ≡ b = omega arith in
    let at2 : (a + b * 256 + c * 65536 + d * 16777216 + (b + c * 256 + d * 65536 + e * 16777216) / 16777216 * 4294967296 % 18446744073709551616) / 65536 % 256 ≡ c = omega arith in
    let at3 : (a + b * 256 + c * 65536 + d * 16777216 + (b + c * 256 + d * 65536 + e * 16777216) / 16777216 * 4294967296 % 18446744073709551616) / 16777216 % 256 ≡ d = omega arith in
    let at4 : (a + b * 256 + c * 65536 + d * 16777216 + (b + c * 256 + d * 65536 + e * 16777216) / 16777216 * 4294967296 % 18446744073709551616) / 4294967296 % 256 ≡ e = omega arith in
    λ i. at0 i ∷ at1 i ∷ at2 i ∷ at3 i ∷ at4 i ∷ []
word_of_ends (a ∷ b ∷ c ∷ d ∷ e ∷ f ∷ []) least most small =
    let s0 = (small 0).fits in
    let s1 = (small 1).fits in
    let s2 = (small 2).fits in
    let s3 = (small 3).fits in
    let s4 = (small 4).fits in
    let s5 = (small 5).fits in
    let at0 : (a + b * 256 + c * 65536 + d * 16777216 + (c + d * 256 + e * 65536 + f * 16777216) / 65536 * 4294967296 % 18446744073709551616) % 256 ≡ a = omega arith in
    let at1 : (a + b * 256 + c * 65536 + d * 16777216 + (c + d * 256 + e * 65536 + f * 16777216) / 65536 * 4294967296 % 18446744073709551616) / 256 % 256 ≡ b = omega arith in
    let at2 : (a + b * 256 + c * 65536 + d * 16777216 + (c + d * 256 + e * 65536 + f * 16777216) / 65536 * 4294967296 % 18446744073709551616) / 65536 % 256 ≡ c = omega arith in
    let at3 : (a + b * 256 + c * 65536 + d * 16777216 + (c + d * 256 + e * 65536 + f * 16777216) / 65536 * 4294967296 % 18446744073709551616) / 16777216 % 256 ≡ d = omega arith in
    let at4 : (a + b * 256 + c * 65536 + d * 16777216 + (c + d * 256 + e * 65536 + f * 16777216) / 65536 * 4294967296 % 18446744073709551616) / 4294967296 % 256 ≡ e = omega arith in
    let at5 : (a + b * 256 + c * 65536 + d * 16777216 + (c + d * 256 + e * 65536 + f * 16777216) / 65536 * 4294967296 % 18446744073709551616) / 1099511627776 % 256 ≡ f = omega arith in
    λ i. at0 i ∷ at1 i ∷ at2 i ∷ at3 i ∷ at4 i ∷ at5 i ∷ []
word_of_ends (a ∷ b ∷ c ∷ d ∷ e ∷ f ∷ g ∷ []) least most small =
    let s0 = (small 0).fits in
    let s1 = (small 1).fits in
    let s2 = (small 2).fits in
    let s3 = (small 3).fits in
    let s4 = (small 4).fits in
    let s5 = (small 5).fits in
    let s6 = (small 6).fits in
    let at0 : (a + b * 256 + c * 65536 + d * 16777216 + (d + e * 256 + f * 65536 + g * 16777216) / 256 * 4294967296 % 18446744073709551616) % 256 ≡ a = omega arith in
    let at1 : (a + b * 256 + c * 65536 + d * 16777216 + (d + e * 256 + f * 65536 + g * 16777216) / 256 * 4294967296 % 18446744073709551616) / 256 % 256 ≡ b = omega arith in
    let at2 : (a + b * 256 + c * 65536 + d * 16777216 + (d + e * 256 + f * 65536 + g * 16777216) / 256 * 4294967296 % 18446744073709551616) / 65536 % 256 ≡ c = omega arith in
    let at3 : (a + b * 256 + c * 65536 + d * 16777216 + (d + e * 256 + f * 65536 + g * 16777216) / 256 * 4294967296 % 18446744073709551616) / 16777216 % 256 ≡ d = omega arith in
    let at4 : (a + b * 256 + c * 65536 + d * 16777216 + (d + e * 256 + f * 65536 + g * 16777216) / 256 * 4294967296 % 18446744073709551616) / 4294967296 % 256 ≡ e = omega arith in
    let at5 : (a + b * 256 + c * 65536 + d * 16777216 + (d + e * 256 + f * 65536 + g * 16777216) / 256 * 4294967296 % 18446744073709551616) / 1099511627776 % 256 ≡ f = omega arith in
    let at6 : (a + b * 256 + c * 65536 + d * 16777216 + (d + e * 256 + f * 65536 + g * 16777216) / 256 * 4294967296 % 18446744073709551616) / 281474976710656 % 256 ≡ g = omega arith in
    λ i. at0 i ∷ at1 i ∷ at2 i ∷ at3 i ∷ at4 i ∷ at5 i ∷ at6 i ∷ []
word_of_ends (a ∷ b ∷ c ∷ d ∷ e ∷ f ∷ g ∷ h ∷ []) least most small =
    let s0 = (small 0).fits in
    let s1 = (small 1).fits in
    let s2 = (small 2).fits in
    let s3 = (small 3).fits in
    let s4 = (small 4).fits in
    let s5 = (small 5).fits in
    let s6 = (small 6).fits in
    let s7 = (small 7).fits in
    let at0 : (a + b * 256 + c * 65536 + d * 16777216 + (e + f * 256 + g * 65536 + h * 16777216) / 1 * 4294967296 % 18446744073709551616) % 256 ≡ a = omega arith in
    let at1 : (a + b * 256 + c * 65536 + d * 16777216 + (e + f * 256 + g * 65536 + h * 16777216) / 1 * 4294967296 % 18446744073709551616) / 256 % 256 ≡ b = omega arith in
    let at2 : (a + b * 256 + c * 65536 + d * 16777216 + (e + f * 256 + g * 65536 + h * 16777216) / 1 * 4294967296 % 18446744073709551616) / 65536 % 256 ≡ c = omega arith in
    let at3 : (a + b * 256 + c * 65536 + d * 16777216 + (e + f * 256 + g * 65536 + h * 16777216) / 1 * 4294967296 % 18446744073709551616) / 16777216 % 256 ≡ d = omega arith in
    let at4 : (a + b * 256 + c * 65536 + d * 16777216 + (e + f * 256 + g * 65536 + h * 16777216) / 1 * 4294967296 % 18446744073709551616) / 4294967296 % 256 ≡ e = omega arith in
    let at5 : (a + b * 256 + c * 65536 + d * 16777216 + (e + f * 256 + g * 65536 + h * 16777216) / 1 * 4294967296 % 18446744073709551616) / 1099511627776 % 256 ≡ f = omega arith in
    let at6 : (a + b * 256 + c * 65536 + d * 16777216 + (e + f * 256 + g * 65536 + h * 16777216) / 1 * 4294967296 % 18446744073709551616) / 281474976710656 % 256 ≡ g = omega arith in
    let at7 : (a + b * 256 + c * 65536 + d * 16777216 + (e + f * 256 + g * 65536 + h * 16777216) / 1 * 4294967296 % 18446744073709551616) / 72057594037927936 % 256 ≡ h = omega arith in
    λ i. at0 i ∷ at1 i ∷ at2 i ∷ at3 i ∷ at4 i ∷ at5 i ∷ at6 i ∷ at7 i ∷ []
word_of_ends (a ∷ b ∷ c ∷ d ∷ e ∷ f ∷ g ∷ h ∷ x ∷ m) least most small = absurd (omega arith)
