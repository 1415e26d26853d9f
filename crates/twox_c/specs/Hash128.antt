-- The number of the two halves of a 128-bit value.
use Rattle.std.specs.Prelude.{ℕ, ◌+◌, ◌*◌, ◌^◌}
use Rattle.twox_c.specs.declared.hash128.Xxh128Hash.{Xxh128Hash}

abbrev pub value_of : Xxh128Hash → ℕ
value_of h = h.high64 * 2 ^ 64 + h.low64
