-- What clauses read of a buffered reader.
use Rattle.std.specs.Prelude.{ℕ, List, slice_range, Option}
use Rattle.std.specs.Io.KnownBytes.{prepend_known}
use Rattle.xxh_io.specs.declared.buffered.Buffered.{Buffered}

-- the reader behind the buffer
abbrev pub buffered_reader : {R : Type 0} {N : ℕ} → Buffered R N → R
buffered_reader b = b.inner

-- the bytes in the buffer
abbrev pub buffered_bytes : {R : Type 0} {N : ℕ} → Buffered R N → List ℕ
buffered_bytes b = slice_range b.buf b.start b.end

-- the remaining bytes: those in the buffer, then the reader's, if these are known
abbrev pub buffered_remaining : {R : Type 0} {N : ℕ} → (R → Option (List ℕ)) → Buffered R N
    → Option (List ℕ)
buffered_remaining remaining b = prepend_known (buffered_bytes b) (remaining b.inner)
