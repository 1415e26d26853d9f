use Rattle.twox_core.proofs.Prelude.{[], ◌∙◌, arith, secret_bytes}
use Rattle.twox_core.proofs.PartFacts.{pairs_at-eight, pairs_at-pair}
use Rattle.twox_core.proofs.xxhash3.parts.chunks_17_to_128.Goals as goal

pub returns-clause-words : goal.returns-clause-words
returns-clause-words c =
    let s = secret_bytes c.args.secret in
    let pairs = c.bp_as_chunks.ensures.chunks ∙ pairs_at-eight s _ 0 _ c.words_for_17_to_128.ensures.chunks (omega arith) in
    pairs_at-pair s _ 0 4 c.args.c _ [] pairs (omega arith) (omega arith)
