use Rattle.std.proofs.Common.{◌≡◌, ◌*◌, ◌<◌, ◌≤◌, length, drop, false, nat_lt, refl, arith, length-drop}
use Rattle.std.proofs.lemmas.Bool.Decides.{nat_tests}
use Rattle.std.specs.Str.Parse.{digits_value}
use Rattle.xxhsum_options.proofs.NumberFacts.{digits_value_after-grows}
use Rattle.xxhsum_options.proofs.number.value_of.Goals as goal

pub returns-then-value-gt-MOST_BEFORE_A_DIGIT : goal.returns-then-value-gt-MOST_BEFORE_A_DIGIT
returns-then-value-gt-MOST_BEFORE_A_DIGIT c =
    let digits = c.args.digits.now in
    let left = drop c.loop-digit.digit-index digits in
    let some : 0 < length left = grind (arith, length-drop) in
    let grown : c.loop-digit.value * 10 ≤ digits_value 10 digits = rw c.loop-digit.invariant.0 (digits_value_after-grows c.loop-digit.value left some) in
    let over : nat_lt (digits_value 10 digits) 4294967290 ≡ false = grind (arith, nat_tests, grown) in
    rw over refl
