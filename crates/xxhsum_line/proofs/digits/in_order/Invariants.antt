use Rattle.xxhsum_line.proofs.Prelude.{◌≡◌, ◌+◌, ◌-◌, ◌*◌, ◌/◌, ◌^◌, digits_of, bytes_reversed}
use Rattle.xxhsum_line.proofs.digits.in_order.Given as goal

-- Invariant: the reversed bytes, followed by the remaining bytes reversed, are the result
abbrev pub invariant-loop-done : goal.invariant-loop-done
invariant-loop-done l =
    let left = digits_of l.fn.kind / 2 - l.done in
    l.reversed * 256 ^ left + bytes_reversed left l.left ≡ bytes_reversed (digits_of l.fn.kind / 2) l.value
