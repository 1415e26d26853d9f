use Rattle.std.proofs.Common.{◌∷◌, ◌++◌, [], take, rules}
use Rattle.xxh_io.proofs.PieceFacts.{Pieces-push, taken-push}
use Rattle.xxh_io.proofs.write.write_all.Goals as goal

pub loop-rest-preserved : goal.loop-rest-preserved
loop-rest-preserved g c =
    let so_far = c.loop-rest.invariant in
    let rest = c.loop-rest.rest.now in
    let piece = take c.in-Ok.count rest in
    record {
      works = search rules;
      taken = so_far.taken ++ piece ∷ [];
      wrote = Pieces-push g.W.Sink.takes _ _ _ so_far.taken piece so_far.wrote c.in-Ok.ensures.piece;
      left = taken-push _ rest so_far.taken c.in-Ok.count so_far.left;
    }
