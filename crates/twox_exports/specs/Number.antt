-- 128-bit values as two words.
use Rattle.std.specs.Prelude.{ℕ, ◌+◌, ◌*◌, ◌^◌}
use Rattle.twox_core.specs.declared.width_128.Wide.{Wide}

abbrev pub number_of : Wide → ℕ
number_of w = w.high * 2 ^ 64 + w.low
