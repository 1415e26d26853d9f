-- The values that the streams of both widths return, as a function of the whole stream.
use Rattle.std.specs.Prelude.{ℕ, List}
use Rattle.twox_core.specs.Value.{xxh3_64, xxh3_128}
use Rattle.twox_core.specs.Ending.{finalize_64, finalize_128}
use Rattle.twox_core.specs.CoreView.{CoreView}
use Rattle.twox_core.specs.Finish.{core_finish}

-- where `bytes` is the function from the secret to its bytes
unfoldable pub value_64 : {S : Type 0} → (S → List ℕ) → CoreView S → ℕ
value_64 bytes h = core_finish (λ s seed m. xxh3_64 seed s m) finalize_64 bytes h

unfoldable pub value_128 : {S : Type 0} → (S → List ℕ) → CoreView S → ℕ
value_128 bytes h = core_finish (λ s seed m. xxh3_128 seed s m) finalize_128 bytes h
