use Rattle.std.proofs.Common.{◌≡◌, ◌<◌, drop, true}
use Rattle.std.specs.Str.{all_ascii_digits}
use Rattle.std.specs.Str.Parse.{digits_value, digits_value_after}
use Rattle.xxhsum_options.proofs.number.value_of.Given as goal

-- Invariant: the remaining digits continue the value, which is below 4294967290
abbrev pub invariant-loop-digit : goal.invariant-loop-digit
invariant-loop-digit l =
    (digits_value 10 l.digits ≡ digits_value_after 10 l.value (drop l.digit-index l.digits))
    × (all_ascii_digits (drop l.digit-index l.digits) ≡ true)
    × (l.value < 4294967290)
