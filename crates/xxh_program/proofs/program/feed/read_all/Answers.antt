use Rattle.std.proofs.Common.{ℕ, List, [], ◌∷◌, ◌++◌, sym, subst, append_assoc, ◌<◌, ◌≤◌, length, take, arith, length-take, length-append, rules}
use Rattle.std.specs.List.{concat}
use Rattle.xxh_io.proofs.PieceFacts.{concat-push, Pieces-push, NoneEmpty-push}
use Rattle.xxh_program.specs.Feeding.{IsFed}
use Rattle.xxh_program.proofs.program.feed.read_all.Goals as goal

-- Lemmas on feeding one more chunk to a hasher.

-- Lemma: a hasher that was fed chunks and then one more was fed all of them, joined.
IsFed-push : {H : Type 0} (follows : H → ℕ → List ℕ → Type 0) (has_seed : H → ℕ → Type 0) (old mid new : H) (pieces : List (List ℕ)) (piece : List ℕ) → IsFed follows has_seed old (concat pieces) mid → IsFed follows has_seed mid piece new → IsFed follows has_seed old (concat (pieces ++ piece ∷ [])) new
IsFed-push follows has_seed old mid new pieces piece first second =
    subst (λ bytes. IsFed follows has_seed old bytes new) (sym (concat-push pieces piece)) (
      λ seed has. second.0 seed (first.0 seed has),
      λ seed m fed. subst (follows new seed) (append_assoc m (concat pieces) piece) (second.1 seed (m ++ concat pieces) (first.1 seed m fed)),
    )

pub loop-turn-preserved : goal.loop-turn-preserved
loop-turn-preserved g c =
    let so_far = c.loop-turn.invariant in
    let piece = take c.in-Ok.count c.read.new.buf in
    let within : c.in-Ok.count ≤ length c.read.new.buf = c.in-Ok.ensures.within in
    let some : 0 < length piece = simp length-take (omega (arith, c.in-Ok.count-test.1)) in
    record {
      works = search rules;
      pieces = so_far.pieces ++ piece ∷ [];
      count = simp length-append (omega (arith, so_far.count));
      some = NoneEmpty-push so_far.pieces piece so_far.some some;
      read = Pieces-push g.R.Source.gives _ _ _ so_far.pieces piece so_far.read c.in-Ok.ensures.piece;
      fed = IsFed-push g.H.Feed.follows g.H.Feed.has_seed _ _ _ so_far.pieces piece so_far.fed c.feed.ensures;
    }

pub returns-in-Ok-eq0-clause-reads : goal.returns-in-Ok-eq0-clause-reads
returns-in-Ok-eq0-clause-reads g c =
    let so_far = c.loop-turn.invariant in
    let fewer : length so_far.pieces < c.args.max_reads = omega (arith, so_far.count) in
    let at_end : g.R.Source.gives c.loop-turn.r [] c.read.new.self =
    subst (λ n. g.R.Source.gives c.loop-turn.r (take n c.read.new.buf) c.read.new.self) c.in-Ok-eq0.field-0-test c.in-Ok-eq0.ensures.piece in
    (so_far.pieces, (so_far.some, (fewer, Pieces-push g.R.Source.gives _ _ _ so_far.pieces [] so_far.read at_end), (λ e. cc, λ e. absurd (omega arith))), so_far.fed)
