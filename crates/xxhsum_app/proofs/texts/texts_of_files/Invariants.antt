use Rattle.xxhsum_app.proofs.Prelude.{◌≡◌, EachHas, GivesText, files_of, map, take}
use Rattle.xxhsum_app.proofs.texts.texts_of_files.Given as goal

-- Invariant: one text for each name so far, and nothing is reported
abbrev pub invariant-loop-name : goal.invariant-loop-name
invariant-loop-name g l = record {
  each : EachHas (GivesText (files_of g.S.Store g.S.File.Source l.fn.context.store.now)) (map (λ name. name.items) (take l.name-index l.names)) (map (λ text. text.items) l.texts.items);
  silent : l.err ≡ l.initial.err;
}
