-- Proves that facts on the text of a source with progress hold for its inner source.
use Rattle.xxhsum_app.proofs.Prelude.{[], ◌++◌, ◌∷◌, Breaks, HasText, List, SourceRules, ProgressReader, inner-pieces, source_of, progress_reading, ℕ}

pub inner-text : {R X : Type 0} (reading : SourceRules R) (source : ProgressReader R X) (text : List ℕ) → HasText (progress_reading reading) source text → HasText reading (source_of source) text
inner-text reading source text (end, (pieces, some, read, is)) =
    (source_of end, (pieces, some, inner-pieces reading source end (pieces ++ [] ∷ []) read, is))

pub inner-breaks : {R X : Type 0} (reading : SourceRules R) (name message : List ℕ) (source : ProgressReader R X) → Breaks (progress_reading reading) name source message → Breaks reading name (source_of source) message
inner-breaks reading name message source (end, (pieces, met, some, read, failed), is) =
    (source_of end, (pieces, source_of met, some, inner-pieces reading source met pieces read, failed), is)
