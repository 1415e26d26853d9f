-- Lemmas on the records of XXH64: a record represents some list of bytes if and only if it fits.
use Rattle.twox_plain.proofs.Prelude.{[], ◌%◌, ◌*◌, ◌/◌, ◌<◌, ◌^◌, ◌∙◌, ◌≡◌, IsBytes, List, ap, arith, length, lit<, lit≤, mod-lt, pow_pos, refl, replicate, suc, w64, zero, ℕ}
use Rattle.twox_plain.specs.Units.{after_units}
use Rattle.twox_plain.specs.Xxh64.{p1, p2, round, accumulator}
use Rattle.twox_plain.specs.Core64.{core_of_stripes, core_after_stripes}
use Rattle.twox_plain.specs.Record64.{Represents, UsageFits, CoreFits, parts}
use Rattle.twox_plain.specs.declared.xxhash64.Core.{Core}
use Rattle.twox_plain.specs.declared.xxhash64.SavedState.{SavedState}
use Rattle.twox_plain.proofs.Core64Facts.{core_of, core_of_stripes_longer, core_of_stripes_one}
use Rattle.twox_plain.proofs.Reachability.{IsReaching, writable_64, round_reaches, AreWords, stripe_between, IsBytes-stripe_between, length-stripe_between, four_reached}
use Rattle.twox_plain.proofs.RecordFacts

-- True if each accumulator is a word.
abbrev pub IsCore : Core → Type 0
IsCore c = AreWords w64 c.v1 c.v2 c.v3 c.v4

reaches : IsReaching w64 round
reaches = round_reaches w64 31 p1 0x887493432badb37 p2 0xba79078168d4baf (lit< tt) (lit< tt) refl refl

-- The stripe that takes the accumulators a to c.
abbrev between : Core → Core → List ℕ
between a c = stripe_between w64 writable_64 round reaches core_of a.v1 a.v2 a.v3 a.v4 c.v1 c.v2 c.v3 c.v4

core_reached : (a c : Core) → IsCore a → IsCore c → core_after_stripes a (between a c) 1 ≡ c
unfolding core_after_stripes
core_reached a c = four_reached w64 writable_64 round reaches core_of a.v1 a.v2 a.v3 a.v4 c.v1 c.v2 c.v3 c.v4

below : (x : ℕ) → x % 2 ^ 64 < 2 ^ 64
below x = mod-lt x (pow_pos 64)

IsCore-core_of_stripes : (seed : ℕ) (m : List ℕ) (k : ℕ) → seed < 2 ^ 64 → IsCore (core_of_stripes seed m k)
unfolding core_of_stripes accumulator after_units
IsCore-core_of_stripes seed m zero p = record { v1 = below _; v2 = below _; v3 = p; v4 = below _ }
IsCore-core_of_stripes seed m (suc k) p = record { v1 = below _; v2 = below _; v3 = below _; v4 = below _ }

-- Lemma: a record that fits represents some list of bytes.
pub fits_stands : (s : SavedState) → s.total_len < 2 ^ 64 → s.seed < 2 ^ 64 → IsCore s.core → IsBytes s.buffer → length s.buffer ≡ 32 → UsageFits s → CoreFits s
    → (m : List ℕ) × IsBytes m × Represents s m
unfolding Represents
fits_stands s small seed core bytes size usage initial =
    RecordFacts.fits_stands 32 core_of_stripes core_after_stripes (lit< tt) core_of_stripes_longer core_of_stripes_one (parts s) small bytes size usage initial (λ k.
    let a = core_of_stripes s.seed (replicate (k * 32) 0) k in
    let c = s.core in
    record {
      last = between a c;
      bytes = IsBytes-stripe_between w64 writable_64 round reaches core_of a.v1 a.v2 a.v3 a.v4 c.v1 c.v2 c.v3 c.v4;
      size = length-stripe_between w64 writable_64 round reaches core_of a.v1 a.v2 a.v3 a.v4 c.v1 c.v2 c.v3 c.v4;
      takes = core_reached a c (IsCore-core_of_stripes s.seed _ k seed) core;
    })

-- Lemma: a record that represents a list fits.
pub stands_fits : (s : SavedState) (m : List ℕ) → Represents s m → UsageFits s × CoreFits s
unfolding Represents
stands_fits s m stands =
    let count = stands.0 in
    let left = stands.1.left in (
      record { known = λ low. left ∙ ap (λ n. n % 32) (omega arith); lost = λ high. omega arith },
      λ low. let none : length m / 32 ≡ 0 = omega arith in stands.1.whole ∙ rw none (core_of_stripes_longer s.seed [] m 0 (lit≤ tt)),
    )
