use Rattle.std.proofs.Common.{◌≡◌, ◌≤◌, ◌++◌, ◌∷◌, [], ap, arith, length, subst, take, ◌∙◌}
use Rattle.std.proofs.lemmas.List.{flat_map_more, length-take-le}
use Rattle.xxh_io.proofs.PieceFacts.{NoneEmpty-push, Pieces-push}
use Rattle.xxhsum_fs.specs.Entries.{entries_of}
use Rattle.xxhsum_fs.specs.Uninterrupted.{GivesAtLast}
use Rattle.xxhsum_fs.proofs.entries.names_of.Goals as goal

pub returns-in-Ok-eq0 : goal.returns-in-Ok-eq0
returns-in-Ok-eq0 g c =
    let so_far = c.loop.invariant in
    let read = c.read_at_last.new in
    let none : c.in-Ok-eq0.field-0 ≡ 0 = omega arith in
    let piece = subst (λ n. GivesAtLast g.D.ReadCall c.loop.directory (take n read.buf) read.reader) none c.in-Ok-eq0.ensures.calls in (
      so_far.pieces,
      read.reader,
      so_far.none_empty,
      Pieces-push (GivesAtLast g.D.ReadCall) c.args.directory c.loop.directory read.reader so_far.pieces [] so_far.read piece,
      so_far.names,
    )

pub loop-preserved : goal.loop-preserved
loop-preserved g c =
    let so_far = c.loop.invariant in
    let read = c.read_at_last.new in
    let count = c.in-Ok.count in
    let piece = take count read.buf in
    let within : count ≤ length read.buf = omega (arith, c.in-Ok.ensures.bound) in
    let len : length piece ≡ count = length-take-le count read.buf within in
    record {
      pieces = so_far.pieces ++ piece ∷ [];
      none_empty = NoneEmpty-push so_far.pieces piece so_far.none_empty (omega (arith, len));
      read = Pieces-push (GivesAtLast g.D.ReadCall) c.args.directory c.loop.directory read.reader so_far.pieces piece so_far.read c.in-Ok.ensures.calls;
      names = c.in_ok-add_names-in-Ok.ensures ∙ ap (λ names. names ++ entries_of piece) so_far.names
          ∙ flat_map_more entries_of [] so_far.pieces piece;
    }
