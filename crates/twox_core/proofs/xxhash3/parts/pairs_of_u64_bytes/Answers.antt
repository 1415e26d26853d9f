use Rattle.twox_core.proofs.Prelude.{◌/◌, ◌∙◌, ◌≡◌, ap, arith, first_chunks, length}
use Rattle.twox_core.proofs.PartFacts.{pairs_at-chunks}
use Rattle.twox_core.proofs.xxhash3.parts.pairs_of_u64_bytes.Goals as goal

pub returns-clause-pairs : goal.returns-clause-pairs
returns-clause-pairs c =
    let m = c.args.bytes.now in
    let count : length c.bp_as_chunks.result.0.now / 2 ≡ length m / 32 = omega (arith, c.bp_as_chunks.ensures.count) in
    c.bp_as_chunks-2.ensures.chunks
    ∙ ap (λ n. first_chunks 2 n c.bp_as_chunks.result.0.now) count
    ∙ pairs_at-chunks m _ 0 (length m / 32) (length m / 16) c.bp_as_chunks.ensures.chunks (omega arith)
