use Rattle.xxhsum_app.proofs.Prelude.{◌≡◌, drop, is_hidden, texts_of}
use Rattle.xxhsum_app.proofs.digests.is_hidden.Given as goal

abbrev pub invariant-loop-folder : goal.invariant-loop-folder
invariant-loop-folder l = is_hidden (texts_of l.lost) l.name ≡ is_hidden (texts_of (drop l.folder-index l.lost)) l.name
