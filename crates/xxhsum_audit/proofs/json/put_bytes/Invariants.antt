use Rattle.xxhsum_audit.proofs.Prelude.{◌≡◌, ◌++◌, drop}
use Rattle.xxhsum_audit.proofs.json.put_bytes.Given as goal
use Rattle.xxhsum_audit.specs.Json.{json_bytes}

-- Invariant: the bytes so far, followed by the rest of the string, are the whole string
abbrev pub invariant-loop-byte : goal.invariant-loop-byte
invariant-loop-byte l =
    l.text.items ++ json_bytes l.is_text (drop l.byte-index l.bytes) ≡ l.initial.text.items ++ json_bytes l.is_text l.bytes
