-- Lemmas on the lines of blocks after one more chunk.
use Rattle.std.proofs.Common.{◌≡◌, ◌↔◌, ℕ, cond, true, false, zero, suc, ◌+◌, ◌-◌, ◌*◌, ◌/◌, ◌%◌, ◌^◌, min, ◌<◌, ◌≤◌, List, [], ◌++◌, length, drop, refl, sym, ap, ◌∙◌, append-nil, append_assoc, length-append, length-drop, arith, nat_lt}
use Rattle.std.specs.Int.{div_ceil}
use Rattle.std.proofs.lemmas.List.{drop-append-le, take-append-le, take_rest}
use Rattle.std.proofs.Math.Seq.{drop-length}
use Rattle.std.proofs.lemmas.Grind.{div_ceil_times}
use Rattle.std.proofs.lemmas.Nat.{div-mul-add, mod-mul-add, le-div, mod_below}
use Rattle.std.proofs.Math.Nat.{div-mul-le_self, div-add-mod', add-mul, mul-le-mul_right, lt_of_mul-lt-mul_right, le-div_iff_mul-le}
use Rattle.twox_hash.specs.Secret.{default_secret}
use Rattle.twox_hash.specs.Value.{effective_secret, xxh3_128}
use Rattle.xxh_program.specs.Blocks.{block_bytes, offset_line, block_line, lines_from, block_lines, whole_block_lines, added_lines, last_lines}

-- ---- counts

-- Lemma: bytes that end inside the current block complete no block.
pub counts_inside : (b : ℕ) (m d : List ℕ) → length m % b + length d < b → (length (m ++ d) / b ≡ length m / b) × (length (m ++ d) % b ≡ length m % b + length d)
counts_inside b m d short =
    let size : length (m ++ d) ≡ length m / b * b + (length m % b + length d) = length-append m d ∙ omega (arith, div-add-mod' (length m) b) in
    (rw size (div-mul-add (length m / b) b (length m % b + length d) short), rw size (mod-mul-add (length m / b) b (length m % b + length d) short))

-- Lemma: bytes that end where the current block ends complete it and leave no rest.
pub counts_at_end : (b : ℕ) (m d : List ℕ) → 0 < b → length m % b + length d ≡ b → (length (m ++ d) / b ≡ length m / b + 1) × (length (m ++ d) % b ≡ 0)
counts_at_end b m d some ends =
    let size : length (m ++ d) ≡ (length m / b + 1) * b + 0 = length-append m d ∙ omega (arith, div-add-mod' (length m) b, add-mul (length m / b) 1 b) in
    (rw size (div-mul-add (length m / b + 1) b 0 some), rw size (mod-mul-add (length m / b + 1) b 0 some))

-- ---- lines

pub lines_from-split : (b : ℕ) (m : List ℕ) (first n k : ℕ) → lines_from b m first (n + k) ≡ lines_from b m first n ++ lines_from b m (first + n) k
lines_from-split b m first n zero = let none : n + 0 ≡ n = omega arith in rw none (sym (append-nil (lines_from b m first n)))
lines_from-split b m first n (suc k) =
    let next : n + suc k ≡ suc (n + k) = omega arith in
    let place : first + (n + k) ≡ first + n + k = omega arith in
    rw (next, lines_from-split b m first n k, place) (append_assoc (lines_from b m first n) (lines_from b m (first + n) k) (block_line b m (first + n + k)))

block_bytes-append : (b : ℕ) (m d : List ℕ) (c : ℕ) → (c + 1) * b ≤ length m → block_bytes b (m ++ d) c ≡ block_bytes b m c
block_bytes-append b m d c inside =
    let size = length-append m d in
    let here : min ((c + 1) * b) (length (m ++ d)) ≡ (c + 1) * b = omega arith in
    let there : min ((c + 1) * b) (length m) ≡ (c + 1) * b = omega arith in
    let next = add-mul c 1 b in
    let before : c * b ≤ length m = omega arith in
    let enough : (c + 1) * b - c * b ≤ length (drop (c * b) m) = simp length-drop (omega arith) in
    rw (here, there, drop-append-le (c * b) m d before) (take-append-le ((c + 1) * b - c * b) (drop (c * b) m) d enough)

lines_from-append : (b : ℕ) (m d : List ℕ) (first n : ℕ) → (first + n) * b ≤ length m → lines_from b (m ++ d) first n ≡ lines_from b m first n
lines_from-append b m d first zero inside = refl
lines_from-append b m d first (suc n) inside =
    let next : first + suc n ≡ first + n + 1 = omega arith in
    let whole : (first + n + 1) * b ≤ length m = rw next at inside in
    let before : (first + n) * b ≤ length m = omega (arith, add-mul (first + n) 1 b) in
    rw (lines_from-append b m d first n before, block_bytes-append b m d (first + n) whole) refl

div-append : (b : ℕ) (m d : List ℕ) → 0 < b → length m / b ≤ length (m ++ d) / b
div-append b m d some =
    let fits : length m / b * b ≤ length (m ++ d) = omega (arith, length-append m d, div-mul-le_self (length m) b) in
    le-div (length m / b) (length (m ++ d)) b some fits

pub added-append : (b : ℕ) (m d e : List ℕ) → 0 < b → added_lines b m (d ++ e) ≡ added_lines b m d ++ added_lines b (m ++ d) e
added-append b m d e some =
    let k0 = length m / b in
    let k1 = length (m ++ d) / b in
    let k2 = length (m ++ d ++ e) / b in
    let same : m ++ (d ++ e) ≡ m ++ d ++ e = sym (append_assoc m d e) in
    let first = div-append b m d some in
    let second = div-append b (m ++ d) e some in
    let counts : k2 - k0 ≡ (k1 - k0) + (k2 - k1) = omega arith in
    let middle : k0 + (k1 - k0) ≡ k1 = omega arith in
    let inside : (k0 + (k1 - k0)) * b ≤ length (m ++ d) = rw middle (div-mul-le_self (length (m ++ d)) b) in
    rw (same, counts, lines_from-split b (m ++ d ++ e) k0 (k1 - k0) (k2 - k1), lines_from-append b (m ++ d) e k0 (k1 - k0) inside, middle) refl

pub added-nil : (b : ℕ) (m : List ℕ) → added_lines b m [] ≡ []
added-nil b m =
    let none : length m / b - length m / b ≡ 0 = omega arith in
    rw (append-nil m, none) refl

pub whole-append : (b : ℕ) (m d : List ℕ) → 0 < b → whole_block_lines b (m ++ d) ≡ whole_block_lines b m ++ added_lines b m d
whole-append b m d some =
    let k0 = length m / b in
    let k1 = length (m ++ d) / b in
    let more = div-append b m d some in
    let counts : k1 ≡ k0 + (k1 - k0) = omega arith in
    let start : 0 + k0 ≡ k0 = omega arith in
    let inside : (0 + k0) * b ≤ length m = rw start (div-mul-le_self (length m) b) in
    ap (lines_from b (m ++ d) 0) counts ∙ lines_from-split b (m ++ d) 0 k0 (k1 - k0) ∙ rw (lines_from-append b m d 0 k0 inside, start) refl

pub all-split : (b : ℕ) (m : List ℕ) → block_lines b m ≡ whole_block_lines b m ++ last_lines b m
all-split b m =
    let start : 0 + length m / b ≡ length m / b = omega arith in
    lines_from-split b m 0 (length m / b) (min 1 (length m % b)) ∙ rw start refl

-- ---- the current block

block_bytes-last : (b : ℕ) (m : List ℕ) (c : ℕ) → length m ≤ (c + 1) * b → block_bytes b m c ≡ drop (c * b) m
block_bytes-last b m c last =
    let end : min ((c + 1) * b) (length m) ≡ length m = omega arith in
    rw end (take_rest m (c * b))

pub rest_inside : (b : ℕ) (m d : List ℕ) → length m % b + length d < b → drop (length (m ++ d) / b * b) (m ++ d) ≡ drop (length m / b * b) m ++ d
rest_inside b m d short =
    rw (counts_inside b m d short).0 (drop-append-le (length m / b * b) m d (div-mul-le_self (length m) b))

pub added_inside : (b : ℕ) (m d : List ℕ) → length m % b + length d < b → added_lines b m d ≡ []
added_inside b m d short =
    let none : length m / b - length m / b ≡ 0 = omega arith in
    rw ((counts_inside b m d short).0, none) refl

pub rest_at_end : (b : ℕ) (m d : List ℕ) → 0 < b → length m % b + length d ≡ b → drop (length (m ++ d) / b * b) (m ++ d) ≡ []
rest_at_end b m d some ends =
    let none = (counts_at_end b m d some ends).1 in
    let all : length (m ++ d) / b * b ≡ length (m ++ d) = omega (arith, div-add-mod' (length (m ++ d)) b) in
    rw all (drop-length (m ++ d))

pub effective-default : (m : List ℕ) → effective_secret default_secret m ≡ default_secret
unfolding effective_secret
effective-default m = elim (nat_lt (length m) 241) as (λ t. cond t default_secret default_secret ≡ default_secret) [ true ↦ refl | false ↦ refl ]

-- Lemma: bytes that complete the current block add its line.
pub added_at_end : (b : ℕ) (m d : List ℕ) → 0 < b → length m % b + length d ≡ b → added_lines b m d ≡ offset_line (min (length m / b * b) (2 ^ 64 - 1)) (xxh3_128 0 default_secret (drop (length m / b * b) m ++ d))
added_at_end b m d some ends =
    let c = length m / b in
    let counts = counts_at_end b m d some ends in
    let one : length (m ++ d) / b - c ≡ 1 = omega (arith, counts.0) in
    let same : c + 0 ≡ c = omega arith in
    let last : length (m ++ d) ≤ (c + 1) * b = omega (arith, counts.1, div-add-mod' (length (m ++ d)) b, ap (λ k. k * b) counts.0) in
    let bytes : block_bytes b (m ++ d) c ≡ drop (c * b) m ++ d = block_bytes-last b (m ++ d) c last ∙ drop-append-le (c * b) m d (div-mul-le_self (length m) b) in
    rw (one, same, bytes) refl

pub last_short : (b : ℕ) (m : List ℕ) → 0 < b → 0 < length m % b → last_lines b m ≡ offset_line (min (length m / b * b) (2 ^ 64 - 1)) (xxh3_128 0 default_secret (drop (length m / b * b) m))
last_short b m some short =
    let c = length m / b in
    let one : min 1 (length m % b) ≡ 1 = omega arith in
    let same : c + 0 ≡ c = omega arith in
    let last : length m ≤ (c + 1) * b = omega (arith, div-add-mod' (length m) b, add-mul c 1 b, mod_below (length m) b some) in
    rw (one, same, block_bytes-last b m c last) refl

-- Lemma: the offset of the next block is `b` higher, and at most 2^64 - 1.
pub next_offset : (b k offset n : ℕ) → offset ≡ min (k * b) (2 ^ 64 - 1) → n ≡ k + 1 → min (offset + b) (2 ^ 64 - 1) ≡ min (n * b) (2 ^ 64 - 1)
next_offset b k offset n is next = rw (is, next) (omega (arith, add-mul k 1 b))

-- ---- blocks that have a line

-- Lemma: a block has a line if and only if it begins before the end of the bytes.
pub begins : (b n c : ℕ) → 0 < b → (c < div_ceil n b) ↔ (c * b < n)
begins b n c some =
    let bounds = div_ceil_times n b some in
    let k = div_ceil n b in (
      λ below. let next : c + 1 ≤ k = omega (arith, below) in
          let more : (c + 1) * b ≤ k * b = mul-le-mul_right b next in omega (arith, more, bounds.1, add-mul c 1 b),
      λ before. let less : c * b < k * b = omega (arith, before, bounds.0) in lt_of_mul-lt-mul_right b less,
    )

-- Lemma: a block is whole if and only if it doesn't end after the bytes.
pub ends : (b n c : ℕ) → 0 < b → (c < n / b) ↔ ((c + 1) * b ≤ n)
ends b n c some =
    let law : (c + 1 ≤ n / b) ↔ ((c + 1) * b ≤ n) = le-div_iff_mul-le some in
    (λ below. law.0 (omega (arith, below)), λ within. let next = law.1 within in omega (arith, next))
