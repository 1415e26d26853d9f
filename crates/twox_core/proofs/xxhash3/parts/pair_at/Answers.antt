use Rattle.twox_core.proofs.Prelude.{[], ◌/◌, ◌∙◌, ◌≡◌, ap, arith, first_chunks, length}
use Rattle.twox_core.specs.Parts.{chunks_at}
use Rattle.twox_core.proofs.PartFacts.{chunks_at-part, pairs_at-chunks, pairs_at-pair}
use Rattle.twox_core.proofs.xxhash3.parts.pair_at.Goals as goal

pub returns : goal.returns
unfolding chunks_at
returns c =
    let m = c.args.bytes.now in
    let i = c.args.from in
    let chunks = c.bp_as_chunks.ensures.chunks ∙ chunks_at-part m _ i 2 _ c.part_at.ensures.value (omega arith) in
    let one : length c.bp_as_chunks.result.0.now / 2 ≡ 1 = omega (arith, c.bp_as_chunks.ensures.count) in
    let pairs = c.bp_as_chunks-2.ensures.chunks ∙ ap (λ n. first_chunks 2 n c.bp_as_chunks.result.0.now) one ∙ pairs_at-chunks m _ i 1 2 chunks (omega arith) in
    pairs_at-pair m _ i 1 0 i [] pairs (omega arith) (omega arith)
