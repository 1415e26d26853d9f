-- Laws of the values: other bytes, another seed, and the low half of the 128-bit value.
use Rattle.std.proofs.Common.{◌≡◌, ◌≢◌, ℕ, ◌+◌, ◌*◌, ◌/◌, ◌%◌, ◌^◌, ◌<◌, ◌≤◌, ◌⊎◌, List, length, nat_lt, true, false, inl, inr, refl, sym, ap, ◌∙◌, arith, mod-lt, pow_pos}
use Rattle.twox_core.proofs.Prelude.{IsBytes, IsOtherShort128, IsOtherShort64, cases_lt, nat_tests, same_number_lists, xor_shift-lt}
use Rattle.twox_core.specs.Steps.{avalanche, avalanche_xxh64}
use Rattle.twox_core.specs.Short.{value64_0, low_0, high_0, combined_bytes, low_1_to_3, high_1_to_3, value64_4_to_8, product_4_to_8, low_4_to_8, high_4_to_8, product_9_to_16}
use Rattle.twox_core.specs.Long.{merge_accumulators, low_above_240, high_above_240}
use Rattle.twox_core.specs.Value.{Bytes0, Bytes1To3, Bytes4To8, Bytes9To16, Bytes17To128, Bytes129To240, BytesAbove240, range_of, value64_in, low_in, high_in, xxh3_64, xxh3_128, effective_secret}
use Rattle.twox_core.specs.Secret.{default_secret}
use Rattle.twox_core.proofs.ShortLaws.{empty64_in_seed, empty128_in_seed, tiny_one_to_one, tiny_in_seed, four64_one_to_one, four64_in_seed, four128_told, four128_in_seed, nine128_told, nine128_in_seed}

-- ---- the ranges of lengths

range_empty : (n : ℕ) → n < 1 → range_of n ≡ Bytes0
unfolding range_of
range_empty n high =
    let a : nat_lt n 1 ≡ true = grind (arith, nat_tests) in rw a refl

range_tiny : (n : ℕ) → 1 ≤ n → n < 4 → range_of n ≡ Bytes1To3
unfolding range_of
range_tiny n low high =
    let a : nat_lt n 1 ≡ false = grind (arith, nat_tests) in
    let b : nat_lt n 4 ≡ true = grind (arith, nat_tests) in rw (a, b) refl

range_four : (n : ℕ) → 4 ≤ n → n < 9 → range_of n ≡ Bytes4To8
unfolding range_of
range_four n low high =
    let a : nat_lt n 1 ≡ false = grind (arith, nat_tests) in
    let b : nat_lt n 4 ≡ false = grind (arith, nat_tests) in
    let c : nat_lt n 9 ≡ true = grind (arith, nat_tests) in rw (a, b, c) refl

range_nine : (n : ℕ) → 9 ≤ n → n < 17 → range_of n ≡ Bytes9To16
unfolding range_of
range_nine n low high =
    let a : nat_lt n 1 ≡ false = grind (arith, nat_tests) in
    let b : nat_lt n 4 ≡ false = grind (arith, nat_tests) in
    let c : nat_lt n 9 ≡ false = grind (arith, nat_tests) in
    let d : nat_lt n 17 ≡ true = grind (arith, nat_tests) in rw (a, b, c, d) refl

range_17_to_128 : (n : ℕ) → 17 ≤ n → n < 129 → range_of n ≡ Bytes17To128
unfolding range_of
range_17_to_128 n low high =
    let a : nat_lt n 1 ≡ false = grind (arith, nat_tests) in
    let b : nat_lt n 4 ≡ false = grind (arith, nat_tests) in
    let c : nat_lt n 9 ≡ false = grind (arith, nat_tests) in
    let d : nat_lt n 17 ≡ false = grind (arith, nat_tests) in
    let e : nat_lt n 129 ≡ true = grind (arith, nat_tests) in rw (a, b, c, d, e) refl

range_129_to_240 : (n : ℕ) → 129 ≤ n → n < 241 → range_of n ≡ Bytes129To240
unfolding range_of
range_129_to_240 n low high =
    let a : nat_lt n 1 ≡ false = grind (arith, nat_tests) in
    let b : nat_lt n 4 ≡ false = grind (arith, nat_tests) in
    let c : nat_lt n 9 ≡ false = grind (arith, nat_tests) in
    let d : nat_lt n 17 ≡ false = grind (arith, nat_tests) in
    let e : nat_lt n 129 ≡ false = grind (arith, nat_tests) in
    let f : nat_lt n 241 ≡ true = grind (arith, nat_tests) in rw (a, b, c, d, e, f) refl

range_above_240 : (n : ℕ) → 240 < n → range_of n ≡ BytesAbove240
unfolding range_of
range_above_240 n low =
    let a : nat_lt n 1 ≡ false = grind (arith, nat_tests) in
    let b : nat_lt n 4 ≡ false = grind (arith, nat_tests) in
    let c : nat_lt n 9 ≡ false = grind (arith, nat_tests) in
    let d : nat_lt n 17 ≡ false = grind (arith, nat_tests) in
    let e : nat_lt n 129 ≡ false = grind (arith, nat_tests) in
    let f : nat_lt n 241 ≡ false = grind (arith, nat_tests) in rw (a, b, c, d, e, f) refl

-- ---- 64 bits: the value of each range

empty_64 : (seed : ℕ) (s m : List ℕ) → length m < 1 → xxh3_64 seed s m ≡ value64_0 seed s
unfolding xxh3_64 value64_in
empty_64 seed s m high = rw (range_empty (length m) high) refl

tiny_64 : (seed : ℕ) (s m : List ℕ) → 1 ≤ length m → length m < 4 → xxh3_64 seed s m ≡ low_1_to_3 seed s (combined_bytes m)
unfolding xxh3_64 value64_in
tiny_64 seed s m low high = rw (range_tiny (length m) low high) refl

four_64 : (seed : ℕ) (s m : List ℕ) → 4 ≤ length m → length m < 9 → xxh3_64 seed s m ≡ value64_4_to_8 seed s m
unfolding xxh3_64 value64_in
four_64 seed s m low high = rw (range_four (length m) low high) refl

pub long_64 : (seed : ℕ) (s m : List ℕ) → 240 < length m → xxh3_64 seed s m ≡ low_above_240 s m
unfolding xxh3_64 value64_in
long_64 seed s m low = rw (range_above_240 (length m) low) refl

-- Lemma: other bytes have another 64-bit value, at the lengths of IsOtherShort64.
pub changed_bytes_64 : (seed : ℕ) (s m n : List ℕ) → IsBytes m → IsOtherShort64 m n → xxh3_64 seed s n ≢ xxh3_64 seed s m
changed_bytes_64 seed s m n p apart e = elim apart.range [
  | inl tiny ↦
      apart.other (tiny_one_to_one seed s n m apart.bytes p tiny.3 tiny.1
      (sym (tiny_64 seed s n tiny.2 (omega (arith, tiny.3))) ∙ e ∙ tiny_64 seed s m tiny.0 (omega (arith, tiny.1))))
  | inr four ↦
      apart.other (four64_one_to_one seed s n m apart.bytes p four.0 (omega (arith, four.0, four.1)) (omega (arith, four.0, four.2))
      (sym (four_64 seed s n (omega (arith, four.0, four.1)) (omega (arith, four.0, four.2))) ∙ e ∙ four_64 seed s m four.1 (omega (arith, four.2))))
]

-- Lemma: another seed has another 64-bit value for up to 8 bytes.
pub changed_seed_64 : (s m : List ℕ) (seed other : ℕ) → IsBytes s → IsBytes m → seed < 2 ^ 64 → other < 2 ^ 64 → length m ≤ 8 → other ≢ seed
    → xxh3_64 other s m ≢ xxh3_64 seed s m
changed_seed_64 s m seed other p q small small' short differs e = elim (cases_lt (length m) 1) [
  | inl a ↦ differs (empty64_in_seed s other seed p small' small (sym (empty_64 other s m a) ∙ e ∙ empty_64 seed s m a))
  | inr a ↦ elim (cases_lt (length m) 4) [
    | inl b ↦ differs (tiny_in_seed s m other seed q (omega arith) small' small (sym (tiny_64 other s m a b) ∙ e ∙ tiny_64 seed s m a b))
    | inr b ↦
        let c : length m < 9 = omega arith in
        differs (four64_in_seed s m other seed q short small' small (sym (four_64 other s m b c) ∙ e ∙ four_64 seed s m b c))
  ]
]

-- ---- 128 bits: the halves

avalanche-lt : (x : ℕ) → avalanche x < 2 ^ 64
unfolding avalanche
avalanche-lt x = xor_shift-lt 64 32 _ (mod-lt _ (pow_pos 64))

avalanche_xxh64-lt : (x : ℕ) → avalanche_xxh64 x < 2 ^ 64
unfolding avalanche_xxh64
avalanche_xxh64-lt x = xor_shift-lt 64 32 _ (mod-lt _ (pow_pos 64))

empty_low-lt : (seed : ℕ) (s : List ℕ) → low_0 seed s < 2 ^ 64
unfolding low_0
empty_low-lt seed s = avalanche_xxh64-lt _

low_1_to_3-lt : (seed : ℕ) (s : List ℕ) (c : ℕ) → low_1_to_3 seed s c < 2 ^ 64
unfolding low_1_to_3
low_1_to_3-lt seed s c = avalanche_xxh64-lt _

four_low-lt : (p : ℕ) → low_4_to_8 p < 2 ^ 64
unfolding low_4_to_8
four_low-lt p = xor_shift-lt 64 28 _ (mod-lt _ (pow_pos 64))

low_above_240-lt : (s m : List ℕ) → low_above_240 s m < 2 ^ 64
unfolding low_above_240 merge_accumulators
low_above_240-lt s m = avalanche-lt _

empty_128 : (seed : ℕ) (s m : List ℕ) → length m < 1 → xxh3_128 seed s m ≡ high_0 seed s * 2 ^ 64 + low_0 seed s
unfolding xxh3_128 low_in high_in
empty_128 seed s m high = rw (range_empty (length m) high) refl

tiny_128 : (seed : ℕ) (s m : List ℕ) → 1 ≤ length m → length m < 4
    → xxh3_128 seed s m ≡ high_1_to_3 seed s (combined_bytes m) * 2 ^ 64 + low_1_to_3 seed s (combined_bytes m)
unfolding xxh3_128 low_in high_in
tiny_128 seed s m low high = rw (range_tiny (length m) low high) refl

four_128 : (seed : ℕ) (s m : List ℕ) → 4 ≤ length m → length m < 9
    → xxh3_128 seed s m ≡ high_4_to_8 (product_4_to_8 seed s m) * 2 ^ 64 + low_4_to_8 (product_4_to_8 seed s m)
unfolding xxh3_128 low_in high_in
four_128 seed s m low high = rw (range_four (length m) low high) refl

nine_128 : (seed : ℕ) (s m : List ℕ) → 9 ≤ length m → length m < 17
    → xxh3_128 seed s m ≡ avalanche (product_9_to_16 seed s m / 2 ^ 64) * 2 ^ 64 + avalanche (product_9_to_16 seed s m % 2 ^ 64)
unfolding xxh3_128 low_in high_in
nine_128 seed s m low high = rw (range_nine (length m) low high) refl

pub middle_17_to_128 : (seed : ℕ) (s m : List ℕ) → 17 ≤ length m → length m < 129
    → xxh3_128 seed s m ≡ high_in Bytes17To128 seed s m * 2 ^ 64 + low_in Bytes17To128 seed s m
unfolding xxh3_128
middle_17_to_128 seed s m low high = rw (range_17_to_128 (length m) low high) refl

pub middle_129_to_240 : (seed : ℕ) (s m : List ℕ) → 129 ≤ length m → length m < 241
    → xxh3_128 seed s m ≡ high_in Bytes129To240 seed s m * 2 ^ 64 + low_in Bytes129To240 seed s m
unfolding xxh3_128
middle_129_to_240 seed s m low high = rw (range_129_to_240 (length m) low high) refl

pub long_128 : (seed : ℕ) (s m : List ℕ) → 240 < length m → xxh3_128 seed s m ≡ high_above_240 s m * 2 ^ 64 + low_above_240 s m
unfolding xxh3_128 low_in high_in
long_128 seed s m low = rw (range_above_240 (length m) low) refl

-- Lemma: h * 2 ^ 64 + l determines h and l if l is below 2 ^ 64.
same_halves : (h l k r : ℕ) → l < 2 ^ 64 → r < 2 ^ 64 → h * 2 ^ 64 + l ≡ k * 2 ^ 64 + r → (l ≡ r) × (h ≡ k)
same_halves h l k r a b e = (omega arith, omega arith)

low_of : (h l : ℕ) → l < 2 ^ 64 → (h * 2 ^ 64 + l) % 2 ^ 64 ≡ l
low_of h l small = omega arith

same_empty : (m n : List ℕ) → length n ≡ length m → length m < 1 → n ≡ m
same_empty m n len none = same_number_lists n m len (λ k h. absurd (omega arith))

-- Lemma: other bytes of the same length have another 128-bit value for up to 16 bytes.
pub changed_bytes_128 : (seed : ℕ) (s m n : List ℕ) → IsBytes m → IsOtherShort128 m n → xxh3_128 seed s n ≢ xxh3_128 seed s m
changed_bytes_128 seed s m n p apart e =
    let len = apart.lengths in
    let short = apart.short in
    elim (cases_lt (length m) 1) [
      | inl a ↦ apart.other (same_empty m n len a)
      | inr a ↦ elim (cases_lt (length m) 4) [
        | inl b ↦
            let halves = same_halves _ _ _ _ (low_1_to_3-lt seed s (combined_bytes n)) (low_1_to_3-lt seed s (combined_bytes m))
            (sym (tiny_128 seed s n (omega arith) (omega arith)) ∙ e ∙ tiny_128 seed s m a b) in
            apart.other (tiny_one_to_one seed s n m apart.bytes p (omega arith) (omega arith) halves.0)
        | inr b ↦ elim (cases_lt (length m) 9) [
          | inl c ↦
              let halves = same_halves _ _ _ _ (four_low-lt (product_4_to_8 seed s n)) (four_low-lt (product_4_to_8 seed s m))
              (sym (four_128 seed s n (omega arith) (omega arith)) ∙ e ∙ four_128 seed s m b c) in
              apart.other (four128_told seed s n m apart.bytes p len (omega arith) (omega arith) halves.0 halves.1)
          | inr c ↦
              let d : length m < 17 = omega arith in
              let halves = same_halves _ _ _ _ (avalanche-lt (product_9_to_16 seed s n % 2 ^ 64)) (avalanche-lt (product_9_to_16 seed s m % 2 ^ 64))
              (sym (nine_128 seed s n (omega arith) (omega arith)) ∙ e ∙ nine_128 seed s m c d) in
              apart.other (nine128_told seed s n m apart.bytes p len (omega arith) (omega arith) halves.0 halves.1)
        ]
      ]
    ]

-- Lemma: another seed has another 128-bit value for up to 16 bytes.
pub changed_seed_128 : (s m : List ℕ) (seed other : ℕ) → IsBytes s → IsBytes m → seed < 2 ^ 64 → other < 2 ^ 64 → length m ≤ 16 → other ≢ seed
    → xxh3_128 other s m ≢ xxh3_128 seed s m
changed_seed_128 s m seed other p q small small' short differs e = elim (cases_lt (length m) 1) [
  | inl a ↦
      let halves = same_halves _ _ _ _ (empty_low-lt other s) (empty_low-lt seed s) (sym (empty_128 other s m a) ∙ e ∙ empty_128 seed s m a) in
      differs (empty128_in_seed s other seed p small' small halves.0)
  | inr a ↦ elim (cases_lt (length m) 4) [
    | inl b ↦
        let halves = same_halves _ _ _ _ (low_1_to_3-lt other s (combined_bytes m)) (low_1_to_3-lt seed s (combined_bytes m)) (sym (tiny_128 other s m a b) ∙ e ∙ tiny_128 seed s m a b) in
        differs (tiny_in_seed s m other seed q (omega arith) small' small halves.0)
    | inr b ↦ elim (cases_lt (length m) 9) [
      | inl c ↦
          let halves = same_halves _ _ _ _ (four_low-lt (product_4_to_8 other s m)) (four_low-lt (product_4_to_8 seed s m)) (sym (four_128 other s m b c) ∙ e ∙ four_128 seed s m b c) in
          differs (four128_in_seed s m other seed q b (omega arith) small' small halves.0 halves.1)
      | inr c ↦
          let d : length m < 17 = omega arith in
          let halves = same_halves _ _ _ _ (avalanche-lt (product_9_to_16 other s m % 2 ^ 64)) (avalanche-lt (product_9_to_16 seed s m % 2 ^ 64))
          (sym (nine_128 other s m c d) ∙ e ∙ nine_128 seed s m c d) in
          differs (nine128_in_seed s m other seed q small' small halves.0 halves.1)
    ]
  ]
]

-- Lemma: the low half of the 128-bit value is the 64-bit value for 1 to 3 bytes and for more than 240 bytes.
pub low_half : (seed : ℕ) (s m : List ℕ) → ((1 ≤ length m) × (length m ≤ 3)) ⊎ (240 < length m) → xxh3_128 seed s m % 2 ^ 64 ≡ xxh3_64 seed s m
low_half seed s m range = elim range [
  | inl tiny ↦
      let high : length m < 4 = omega (arith, tiny.1) in
      ap (λ (x : ℕ). x % 2 ^ 64) (tiny_128 seed s m tiny.0 high) ∙ low_of _ _ (low_1_to_3-lt seed s (combined_bytes m)) ∙ sym (tiny_64 seed s m tiny.0 high)
  | inr long ↦ ap (λ (x : ℕ). x % 2 ^ 64) (long_128 seed s m long) ∙ low_of _ _ (low_above_240-lt s m) ∙ sym (long_64 seed s m long)
]

-- ---- the effective secret

pub effective_short : (own m : List ℕ) → length m ≤ 240 → effective_secret own m ≡ default_secret
unfolding effective_secret
effective_short own m high =
    let test : nat_lt (length m) 241 ≡ true = grind (arith, nat_tests) in rw test refl

pub effective_long : (own m : List ℕ) → 240 < length m → effective_secret own m ≡ own
unfolding effective_secret
effective_long own m low =
    let test : nat_lt (length m) 241 ≡ false = grind (arith, nat_tests) in rw test refl
