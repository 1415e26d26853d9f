-- Lemmas on one-shots. Every seeded call uses the default secret up to 240 bytes.
use Rattle.twox_core.proofs.Prelude.{◌%◌, ◌<◌, ◌^◌, ◌∙◌, ◌≡◌, ◌≤◌, HasLowHalf64, IsBytes, IsOtherShort64, List, TellsOthers128, TellsOthers64, ap, arith, inl, inr, length, ℕ}
use Rattle.twox_core.specs.Value.{xxh3_64, xxh3_128}
use Rattle.twox_core.proofs.ValueLaws.{changed_bytes_64, changed_seed_64, changed_bytes_128, changed_seed_128, low_half}

short_64 : (m n : List ℕ) → IsOtherShort64 m n → length m ≤ 240
short_64 m n other = elim other.range [
  | inl few ↦ omega (arith, few)
  | inr more ↦ omega (arith, more)
]

-- Lemma: a result distinguishes other bytes and seeds if it is the value of m whenever m has up to 240 bytes.
pub tells_others_64 : (seed result : ℕ) (s m : List ℕ) → IsBytes s → IsBytes m → seed < 2 ^ 64
    → (length m ≤ 240 → result ≡ xxh3_64 seed s m) → TellsOthers64 seed s m result
tells_others_64 seed result s m secret bytes small value = record {
  changed_bytes = λ n other same. changed_bytes_64 seed s m n bytes other (same ∙ value (short_64 m n other));
  changed_seed = λ other below differs short same.
      changed_seed_64 s m seed other secret bytes small below short differs (same ∙ value (omega arith));
}

pub tells_others_128 : (seed result : ℕ) (s m : List ℕ) → IsBytes s → IsBytes m → seed < 2 ^ 64
    → (length m ≤ 240 → result ≡ xxh3_128 seed s m) → TellsOthers128 seed s m result
tells_others_128 seed result s m secret bytes small value = record {
  changed_bytes = λ n other same.
      let short : length m ≤ 240 = omega (arith, other.short) in
      changed_bytes_128 seed s m n bytes other (same ∙ value short);
  changed_seed = λ other below differs short same.
      changed_seed_128 s m seed other secret bytes small below short differs (same ∙ value (omega arith));
}

pub has_low_half_64 : (seed result : ℕ) (s m : List ℕ) → result ≡ xxh3_128 seed s m → HasLowHalf64 seed s m result
has_low_half_64 seed result s m value range = ap (λ (x : ℕ). x % 2 ^ 64) value ∙ low_half seed s m range
