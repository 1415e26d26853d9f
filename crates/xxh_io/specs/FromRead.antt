-- What clauses read of a standard reader as a source.
use Rattle.std.specs.Prelude.{Bool, ◌≡◌, ℕ, List, is_some, length, Option}
use Rattle.std.specs.Io.KnownBytes.{Consumes, IsAtEnd}
use Rattle.xxh_io.specs.Refusal.{failure_text}
use Rattle.xxh_io.specs.declared.from_read.FromRead.{FromRead}

-- the reader
abbrev pub reader_of : {R : Type 0} → FromRead R → R
reader_of s = s.inner

-- a read has failed
abbrev pub has_read_failed : {R : Type 0} → FromRead R → Bool
has_read_failed s = is_some s.failure

-- the system's message for the read that failed
abbrev pub reason_read : {R : Type 0} → FromRead R → List ℕ
reason_read s = failure_text s.failure

-- if the remaining bytes are known, they began with the chunk, which is empty only at their end
abbrev pub ReadsPiece : Option (List ℕ) → List ℕ → Option (List ℕ) → Type 0
ReadsPiece old piece new = Consumes old new piece × (length piece ≡ 0 → IsAtEnd new)
