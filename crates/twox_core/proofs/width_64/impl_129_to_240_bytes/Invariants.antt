use Rattle.twox_core.proofs.Prelude.{◌%◌, ◌*◌, ◌+◌, ◌-◌, ◌/◌, ◌^◌, ◌≡◌, length, prime64_1, secret_bytes}
use Rattle.twox_core.specs.Steps.{avalanche, sum_below}
use Rattle.twox_core.specs.Middle.{early, later}
use Rattle.twox_core.proofs.width_64.impl_129_to_240_bytes.Given as goal

abbrev pub invariant-early : goal.invariant-early
invariant-early l =
    l.acc ≡ (length l.input * prime64_1 + sum_below (early l.seed (secret_bytes l.secret) l.input) l.c) % 2 ^ 64

-- Invariant: the sum includes the first c chunks of part 2, or all chunks if there are fewer.
abbrev pub invariant-later : goal.invariant-later
invariant-later l =
    l.acc ≡ (avalanche ((length l.input * prime64_1 + sum_below (early l.seed (secret_bytes l.secret) l.input) 8) % 2 ^ 64)
    + sum_below (later l.seed (secret_bytes l.secret) l.input) (l.c - (l.c - (length l.input / 16 - 8)))) % 2 ^ 64
