-- What a digest has read and written when it returns.
use Rattle.std.specs.Prelude.{◌≡◌, ◌↔◌, ℕ, ◌<◌, List, [], ◌∷◌, ◌++◌, length, Result, Ok, Err}
use Rattle.std.specs.List.{concat}
use Rattle.xxh_io.specs.declared.digest_error.DigestError.{DigestError}
use Rattle.xxh_io.specs.declared.digest_error.DigestError.TheVariants.{ReadFailed, WriteFailed, TooLong}
use Rattle.xxh_io.specs.Pieces.{Pieces, NoneEmpty, IsProperBeginning}
use Rattle.xxh_io.specs.Rules.{SourceRules, SinkRules}

-- What was read, where `pieces` is the chunks that are not empty: at the end of the input, fewer than max_reads of them
-- and then an empty one; if a read failed, fewer than max_reads, up to the source that the failing read reached; if the
-- input was too long, max_reads and nothing more.
abbrev pub ReadsOn : {S T : Type 0} → SourceRules S → ℕ → List (List ℕ) → S → S
    → Result T DigestError → Type 0
ReadsOn reading max_reads pieces old new (Ok _) =
    (length pieces < max_reads) × Pieces reading.gives old (pieces ++ [] ∷ []) new
ReadsOn reading max_reads pieces old new (Err WriteFailed) =
    (length pieces < max_reads) × Pieces reading.gives old (pieces ++ [] ∷ []) new
ReadsOn {S} reading max_reads pieces old new (Err ReadFailed) =
    (length pieces < max_reads) × ((met : S) × Pieces reading.gives old pieces met × reading.fails met new)
ReadsOn reading max_reads pieces old new (Err TooLong) =
    (length pieces ≡ max_reads) × Pieces reading.gives old pieces new

-- The source was read to its end, or until the reading stopped: no chunk is empty, and there are max_reads of them if
-- and only if the input was too long.
abbrev pub ReadsTo : {S T : Type 0} → SourceRules S → ℕ → List (List ℕ) → S → S
    → Result T DigestError → Type 0
ReadsTo reading max_reads pieces old new result =
    NoneEmpty pieces × ReadsOn reading max_reads pieces old new result
    × ((result ≡ Err TooLong) ↔ (length pieces ≡ max_reads))

-- these bytes were taken, in some chunks
abbrev pub Took : {S : Type 0} → SinkRules S → List ℕ → S → S → Type 0
Took writing bytes old new =
    (taken : List (List ℕ)) × Pieces writing.takes old taken new × (concat taken ≡ bytes)

-- the beginning of the bytes was taken, and not all of them, up to the sink that the failing write reached
abbrev pub Refused : {S : Type 0} → SinkRules S → List ℕ → S → S → Type 0
Refused {S} writing bytes old new =
    (taken : List (List ℕ)) × (met : S) × Pieces writing.takes old taken met × writing.refuses met new
    × IsProperBeginning (concat taken) bytes

-- what was written: the whole line; if a write failed, the beginning of it; otherwise nothing
abbrev pub Writes : {S T : Type 0} → SinkRules S → List ℕ → S → S → Result T DigestError → Type 0
Writes writing line old new (Ok _) = Took writing line old new
Writes writing line old new (Err WriteFailed) = Refused writing line old new
Writes writing line old new (Err ReadFailed) = new ≡ old
Writes writing line old new (Err TooLong) = new ≡ old
