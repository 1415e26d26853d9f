use Rattle.std.proofs.Common.{◌≡◌, ℕ, inl, ◌<◌, List, [], ◌∷◌, ◌++◌, length, Ok, Err, IfErr, inr, ◌≤◌, ◌∙◌, take, sym, ap, subst, arith, length-take, length-append, rules, Result}
use Rattle.std.specs.List.{concat}
use Rattle.xxh_io.specs.declared.digest_error.DigestError.{DigestError}
use Rattle.xxh_io.specs.declared.digest_error.DigestError.TheVariants.{ReadFailed, WriteFailed, TooLong}
use Rattle.xxh_io.specs.Pieces.{Pieces}
use Rattle.xxh_io.specs.Digest.{Writes, Took, Refused}
use Rattle.xxh_io.specs.Rules.{SourceRules, SinkRules}
use Rattle.xxh_io.proofs.PieceFacts.{Pieces-push, NoneEmpty-push, concat-push}
use Rattle.xxh_io.proofs.WriteFacts.{Took-join, Refused-join, Writes-join, write-failed, never-too-long}
use Rattle.xxh_program.specs.Blocks.{block_lines, added_lines, last_lines, whole_block_lines}
use Rattle.xxh_program.specs.Filter.{filter_of}
use Rattle.xxh_program.specs.BlockEnds.{DigestsBlocks}
use Rattle.xxh_program.specs.BlockState.{HasTaken}
use Rattle.xxh_program.proofs.BlockFacts.{whole-append, all-split}
use Rattle.xxh_program.proofs.program.blocks.digest_blocks_by.Goals as goal

-- Lemmas on the bytes read and written after the end of the input was read.

-- Lemma: a write of all block lines after the end of the input was read digests the blocks.
ends-well : {R W : Type 0} (reading : SourceRules R) (writing : SinkRules W) (block max_reads : ℕ) (pieces : List (List ℕ)) (r_old r_new : R) (w_old w_new : W) (result : Result (Unit {0}) DigestError) → IfErr result (λ e. e ≡ WriteFailed) → (length pieces < max_reads) × Pieces reading.gives r_old (pieces ++ [] ∷ []) r_new → Writes writing (block_lines block (concat pieces)) w_old w_new result → DigestsBlocks (filter_of reading writing r_old r_new w_old w_new) block max_reads pieces result
ends-well reading writing block max_reads pieces r_old r_new w_old w_new (Ok x) only read wrote = (read, wrote)
ends-well reading writing block max_reads pieces r_old r_new w_old w_new (Err WriteFailed) only read wrote = inl (read, wrote)
ends-well reading writing block max_reads pieces r_old r_new w_old w_new (Err ReadFailed) only read wrote = cc
ends-well reading writing block max_reads pieces r_old r_new w_old w_new (Err TooLong) only read wrote = cc

pub loop-turn-preserved : goal.loop-turn-preserved
loop-turn-preserved g c =
    let so_far = c.loop-turn.invariant in
    let piece = take c.in-Ok.count c.read.new.buf in
    let within : c.in-Ok.count ≤ length c.read.new.buf = c.in-Ok.ensures.within in
    let some : 0 < length piece = simp length-take (omega (arith, c.in-Ok.count-test.1)) in
    let joined : concat (so_far.pieces ++ piece ∷ []) ≡ concat so_far.pieces ++ piece = concat-push so_far.pieces piece in
    let b = c.args.block in
    let m = concat so_far.pieces in
    let wide : 0 < b = omega (arith, c.requires.some) in
    let here : Took g.W.Sink (added_lines b m piece) c.loop-turn.w c.take.new.w =
    subst (λ k. Took g.W.Sink (added_lines k m piece) c.loop-turn.w c.take.new.w) so_far.same (c.in_ok-take-in-Ok.ensures.writes m so_far.follows) in
    let lines : whole_block_lines b m ++ added_lines b m piece ≡ whole_block_lines b (concat (so_far.pieces ++ piece ∷ [])) =
    sym (ap (whole_block_lines b) joined ∙ whole-append b m piece wide) in
    record {
      reads = search rules;
      works = search rules;
      room = search rules;
      same = c.take.ensures.size ∙ so_far.same;
      pieces = so_far.pieces ++ piece ∷ [];
      count = simp length-append (omega (arith, so_far.count));
      some = NoneEmpty-push so_far.pieces piece so_far.some some;
      read = Pieces-push g.R.Source.gives _ _ _ so_far.pieces piece so_far.read c.in-Ok.ensures.piece;
      follows = subst (HasTaken c.take.new.self) (sym joined) (c.in_ok-take-in-Ok.ensures.follows m so_far.follows);
      wrote = subst (λ (x : List ℕ). Took g.W.Sink x c.args.w.now c.take.new.w) lines (Took-join g.W.Sink _ _ _ _ _ so_far.wrote here);
    }

pub returns-in-Ok-eq0-clause-digests : goal.returns-in-Ok-eq0-clause-digests
returns-in-Ok-eq0-clause-digests g c =
    let so_far = c.loop-turn.invariant in
    let b = c.args.block in
    let m = concat so_far.pieces in
    let fewer : length so_far.pieces < c.args.max_reads = omega (arith, so_far.count) in
    let at_end : g.R.Source.gives c.loop-turn.r [] c.read.new.self =
    subst (λ n. g.R.Source.gives c.loop-turn.r (take n c.read.new.buf) c.read.new.self) c.in-Ok-eq0.field-0-test c.in-Ok-eq0.ensures.piece in
    let read = Pieces-push g.R.Source.gives _ _ _ so_far.pieces [] so_far.read at_end in
    let last : Writes g.W.Sink (last_lines b m) c.loop-turn.w c.finish.new.w c.finish.result =
    subst (λ k. Writes g.W.Sink (last_lines k m) c.loop-turn.w c.finish.new.w c.finish.result) so_far.same (c.finish.ensures.writes m so_far.follows) in
    let all : Writes g.W.Sink (block_lines b m) c.args.w.now c.finish.new.w c.finish.result =
    subst (λ (x : List ℕ). Writes g.W.Sink x c.args.w.now c.finish.new.w c.finish.result) (sym (all-split b m))
    (Writes-join g.W.Sink _ _ _ _ _ c.finish.result c.finish.ensures.only so_far.wrote last) in
    (so_far.pieces, so_far.some, ends-well g.R.Source g.W.Sink b c.args.max_reads so_far.pieces _ _ _ _ c.finish.result c.finish.ensures.only (fewer, read) all, (λ e. absurd (never-too-long c.finish.result c.finish.ensures.only e), λ e. absurd (omega (arith, fewer, e.0))))

pub returns-in_err-take-in-Ok-clause-digests : goal.returns-in_err-take-in-Ok-clause-digests
returns-in_err-take-in-Ok-clause-digests g c =
    let so_far = c.loop-turn.invariant in
    let piece = take c.in-Ok.count c.read.new.buf in
    let within : c.in-Ok.count ≤ length c.read.new.buf = c.in-Ok.ensures.within in
    let some : 0 < length piece = simp length-take (omega (arith, c.in-Ok.count-test.1)) in
    let joined : concat (so_far.pieces ++ piece ∷ []) ≡ concat so_far.pieces ++ piece = concat-push so_far.pieces piece in
    let b = c.args.block in
    let m = concat so_far.pieces in
    let wide : 0 < b = omega (arith, c.requires.some) in
    let lines : whole_block_lines b m ++ added_lines b m piece ≡ whole_block_lines b (concat (so_far.pieces ++ piece ∷ [])) =
    sym (ap (whole_block_lines b) joined ∙ whole-append b m piece wide) in
    let failed : ◌≡◌ {A = Result (Unit {0}) DigestError} (Err c.in_err-take-in-Ok.field-0.0) (Err WriteFailed) = ap Err c.in_err-take-in-Ok.ensures.only in
    let only : IfErr c.from_residual.result (λ e. e ≡ WriteFailed) = search rules in
    let is : c.from_residual.result ≡ Err WriteFailed = write-failed c.from_residual.result c.from_residual.ensures.0 only in
    let here : Refused g.W.Sink (added_lines b m piece) c.loop-turn.w c.take.new.w =
    subst (λ k. Refused g.W.Sink (added_lines k m piece) c.loop-turn.w c.take.new.w) so_far.same
    (subst (λ r. Writes {T = Unit {0}} g.W.Sink (added_lines c.loop-turn.current.size m piece) c.loop-turn.w c.take.new.w r) failed (c.in_err-take-in-Ok.ensures.writes m so_far.follows)) in
    let refused : Refused g.W.Sink (whole_block_lines b (concat (so_far.pieces ++ piece ∷ []))) c.args.w.now c.take.new.w =
    subst (λ (x : List ℕ). Refused g.W.Sink x c.args.w.now c.take.new.w) lines (Refused-join g.W.Sink _ _ _ _ _ so_far.wrote here) in
    let most : length (so_far.pieces ++ piece ∷ []) ≤ c.args.max_reads = simp length-append (omega (arith, so_far.count)) in
    let read = Pieces-push g.R.Source.gives _ _ _ so_far.pieces piece so_far.read c.in-Ok.ensures.piece in (
      so_far.pieces ++ piece ∷ [],
      NoneEmpty-push so_far.pieces piece so_far.some some,
      subst (λ r. DigestsBlocks (filter_of g.R.Source g.W.Sink c.args.r.now c.read.new.self c.args.w.now c.take.new.w) b c.args.max_reads (so_far.pieces ++ piece ∷ []) r) (sym is) (inr (most, read, refused)),
      (λ e. absurd (never-too-long c.from_residual.result only e), λ e. let works = e.1 in let stops = c.in_err-take-in-Ok.ensures.write_failed.0 failed in absurd cc),
    )
