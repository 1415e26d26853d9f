use Rattle.twox_core.proofs.Prelude.{◌≡◌, length, prime64_1, secret_bytes}
use Rattle.twox_core.specs.Steps.{avalanche, mul64}
use Rattle.twox_core.specs.Middle.{pairs_first, pairs_second}
use Rattle.twox_core.proofs.width_128.impl_129_to_240_bytes.Given as goal

abbrev pub invariant-early : goal.invariant-early
invariant-early l = record {
  first : l.first ≡ pairs_first l.seed (secret_bytes l.secret) l.input 0 0 (mul64 (length l.input) prime64_1) l.p;
  second : l.second ≡ pairs_second l.seed (secret_bytes l.secret) l.input 0 0 0 l.p;
}

abbrev pub invariant-later : goal.invariant-later
invariant-later l = record {
  first : l.first ≡ pairs_first l.seed (secret_bytes l.secret) l.input 128 3 (avalanche (pairs_first l.seed (secret_bytes l.secret) l.input 0 0 (mul64 (length l.input) prime64_1) 4)) l.p;
  second : l.second ≡ pairs_second l.seed (secret_bytes l.secret) l.input 128 3 (avalanche (pairs_second l.seed (secret_bytes l.secret) l.input 0 0 0 4)) l.p;
}
