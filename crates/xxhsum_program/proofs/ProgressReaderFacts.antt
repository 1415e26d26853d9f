-- Proves that facts on sources with progress hold for their inner sources.
use Rattle.xxhsum_program.proofs.Prelude.{[], ◌++◌, ◌∷◌, DigestError, Err, List, Ok, Pieces, ReadsOn, ReadsTo, Result, SourceRules, ProgressReader, ap, source_of, progress_reading, ℕ}
use Rattle.xxh_io.specs.declared.digest_error.DigestError.TheVariants.{ReadFailed, WriteFailed, TooLong}

pub inner-pieces : {R X : Type 0} (reading : SourceRules R) (old new : ProgressReader R X) (pieces : List (List ℕ)) → Pieces (progress_reading reading).gives old pieces new → Pieces reading.gives (source_of old) pieces (source_of new)
inner-pieces reading old new [] is = ap source_of is
inner-pieces reading old new (piece ∷ pieces) (mid, step, rest) =
    (source_of mid, step, inner-pieces reading mid new pieces rest)

inner-on : {R X T : Type 0} (reading : SourceRules R) (most : ℕ) (pieces : List (List ℕ)) (old new : ProgressReader R X) (read : Result T DigestError) → ReadsOn (progress_reading reading) most pieces old new read → ReadsOn reading most pieces (source_of old) (source_of new) read
inner-on reading most pieces old new (Ok x) (count, read) = (count, inner-pieces reading old new (pieces ++ [] ∷ []) read)
inner-on reading most pieces old new (Err WriteFailed) (count, read) = (count, inner-pieces reading old new (pieces ++ [] ∷ []) read)
inner-on reading most pieces old new (Err ReadFailed) (count, (met, read, failed)) = (count, (source_of met, inner-pieces reading old met pieces read, failed))
inner-on reading most pieces old new (Err TooLong) (count, read) = (count, inner-pieces reading old new pieces read)

pub inner_reads : {R X T : Type 0} (reading : SourceRules R) (most : ℕ) (pieces : List (List ℕ)) (old new : ProgressReader R X) (read : Result T DigestError) → ReadsTo (progress_reading reading) most pieces old new read → ReadsTo reading most pieces (source_of old) (source_of new) read
inner_reads reading most pieces old new read (some, on, long) = (some, inner-on reading most pieces old new read on, long)
