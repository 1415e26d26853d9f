use Rattle.xxhsum_audit.proofs.Prelude.{◌≡◌, ◌≤◌, ◌∷◌, ◌++◌, [], ap, length, sym, subst, take, ◌∙◌, arith, length-take-le}
use Rattle.xxh_io.proofs.PieceFacts.{NoneEmpty-push, Pieces-push, concat-push}
use Rattle.xxhsum_audit.proofs.read.read_text.Goals as goal

pub returns-then-count-eq0 : goal.returns-then-count-eq0
returns-then-count-eq0 g c =
    let so_far = c.loop.invariant in
    let none : c.in-Ok.count ≡ 0 = omega arith in
    let piece = subst (λ n. g.R.Source.gives c.loop.source (take n c.read.new.buf) c.read.new.self) none c.in-Ok.ensures.piece in (
      so_far.pieces,
      so_far.none_empty,
      Pieces-push g.R.Source.gives c.args.source.now c.loop.source c.read.new.self so_far.pieces [] so_far.read piece,
      so_far.bytes,
    )

pub loop-preserved : goal.loop-preserved
loop-preserved g c =
    let so_far = c.loop.invariant in
    let count = c.in-Ok.count in
    let piece = take count c.read.new.buf in
    let within : count ≤ length c.read.new.buf = c.in-Ok.ensures.within in
    let len : length piece ≡ count = length-take-le count c.read.new.buf within in
    record {
      pieces = so_far.pieces ++ piece ∷ [];
      none_empty = NoneEmpty-push so_far.pieces piece so_far.none_empty (omega (arith, len));
      read = Pieces-push g.R.Source.gives c.args.source.now c.loop.source c.read.new.self so_far.pieces piece so_far.read c.in-Ok.ensures.piece;
      bytes = concat-push so_far.pieces piece ∙ ap (λ b. b ++ piece) so_far.bytes ∙ sym c.in_ok-extend_from_slice.ensures.items;
      works = c.in-Ok.ensures.failed;
    }
