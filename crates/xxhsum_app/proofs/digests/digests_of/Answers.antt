use Rattle.std.proofs.Common.{rules, ◌∷◌, ◌++◌, [], ap, append-nil, append_assoc, drop, length, refl, subst, sym, take, ◌-◌, ◌∙◌}
use Rattle.xxhsum_app.proofs.Prelude.{EprintsLines, files_of, items_of, lines-more, matched_in, matched_one, missing_in, missing_one, new_in, new_one, reports-nothing, take_rest, texts_of}
use Rattle.xxhsum_audit.specs.Side.{by_path, lines_of, names_of, path_side}
use Rattle.xxhsum_app.specs.Rows.{AreRows, first_of, messages_in, row_messages, unread_in, unread_of}
use Rattle.xxhsum_app.proofs.RowFacts.{fails-rows, first-push, flat-push, rows-more}
use Rattle.xxhsum_app.proofs.digests.digests_of.Goals as goal

pub loop-side-init : goal.loop-side-init
loop-side-init g c = record {
  rows = [];
  done = [];
  parts = refl;
  are = refl;
  holds = record { matched = search rules; removed = search rules; added = search rules; unread = ap texts_of c.in_ok-from_slice.ensures.items ∙ sym (append-nil _) };
  reports = reports-nothing g.E.Sink c.args.err.now;
}

pub loop-side-preserved : goal.loop-side-preserved
loop-side-preserved g c =
    let so_far = c.loop-side.invariant in
    let rows = so_far.rows in
    let kind = c.args.kind in
    let side = path_side c.in-Some.side in
    let lines = c.loop-side.lines_left.now in
    let names = c.loop-side.names_left.now in
    let fewer = ap (λ k. drop k lines) (sym c.lines.ensures) ∙ sym (take_rest lines c.lines.result) in
    let others = ap (λ k. drop k names) (sym c.names.ensures) ∙ sym (take_rest names c.names.result) in
    let left = by_path (items_of (drop (lines_of c.in-Some.side) lines)) (texts_of (drop (names_of c.in-Some.side) names)) in
    let behind = ap (λ l. by_path (items_of l) (texts_of (drop (names_of c.in-Some.side) names))) fewer
    ∙ ap (λ l. by_path (items_of (take (length lines - c.lines.result) (drop c.lines.result lines))) (texts_of l)) others in
    let row_added = c.in_ok-add_side.ensures in
    let row = row_added.0 in
    let grows = row_added.2 in
    record {
      rows = rows ++ row ∷ [];
      done = so_far.done ++ side ∷ [];
      parts = so_far.parts ∙ ap (λ s. so_far.done ++ s) c.in-Some.ensures.is ∙ sym (append_assoc so_far.done (side ∷ []) left)
          ∙ ap (λ s. (so_far.done ++ side ∷ []) ++ s) behind;
      are = rows-more (files_of g.S.Store g.S.File.Source c.args.context.now.store.now) kind (texts_of c.args.lost.now) so_far.done rows side row so_far.are row_added.1;
      holds = record {
        matched = grows.0 ∙ ap (λ f. f ++ matched_in (first_of kind row)) so_far.holds.matched ∙ sym (first-push matched_one kind rows row);
        removed = grows.1 ∙ ap (λ f. f ++ missing_in (first_of kind row)) so_far.holds.removed ∙ sym (first-push missing_one kind rows row);
        added = grows.2 ∙ ap (λ f. f ++ new_in (first_of kind row)) so_far.holds.added ∙ sym (first-push new_one kind rows row);
        unread = grows.3 ∙ ap (λ names. names ++ unread_of row) so_far.holds.unread ∙ append_assoc (texts_of c.args.lost.now) (unread_in rows) (unread_of row)
            ∙ ap (λ names. texts_of c.args.lost.now ++ names) (sym (flat-push unread_of rows row));
      };
      reports = subst (λ texts. EprintsLines g.E.Sink texts c.args.err.now c.add_side.new.err) (sym (flat-push row_messages rows row))
          (lines-more g.E.Sink (messages_in rows) (row_messages row) _ _ _ so_far.reports row_added.3);
    }

pub returns : goal.returns
returns g c =
    let so_far = c.loop-side.invariant in
    let all = sym (so_far.parts ∙ ap (λ s. so_far.done ++ s) c.in_default.ensures ∙ append-nil so_far.done) in
    (so_far.rows, subst (λ s. AreRows (files_of g.S.Store g.S.File.Source c.args.context.now.store.now) c.args.kind (texts_of c.args.lost.now) s so_far.rows) all so_far.are, so_far.holds, so_far.reports)

pub returns-in_err-room : goal.returns-in_err-room
returns-in_err-room g c =
    let sides = by_path (items_of c.args.lines.now) (texts_of c.args.names.now) in
    fails-rows _ _ c.from_residual-in_err-room.result c.from_residual-in_err-room.ensures.0 ([], ([], sides, refl, refl, reports-nothing g.E.Sink c.args.err.now))

pub returns-in_err-from_slice : goal.returns-in_err-from_slice
returns-in_err-from_slice g c =
    let sides = by_path (items_of c.args.lines.now) (texts_of c.args.names.now) in
    fails-rows _ _ c.from_residual.result c.from_residual.ensures.0 ([], ([], sides, refl, refl, reports-nothing g.E.Sink c.args.err.now))

pub returns-in_err-add_side : goal.returns-in_err-add_side
returns-in_err-add_side g c =
    let so_far = c.loop-side.invariant in
    let side = path_side c.in-Some.side in
    let left = by_path (items_of (drop (lines_of c.in-Some.side) c.loop-side.lines_left.now)) (texts_of (drop (names_of c.in-Some.side) c.loop-side.names_left.now)) in
    let added = c.in_err-add_side.ensures in
    let row = added.0 in
    fails-rows _ _ c.from_residual-in_err-add_side.result c.from_residual-in_err-add_side.ensures.0 (
      so_far.rows ++ row ∷ [],
      (
        so_far.done ++ side ∷ [],
        left,
        so_far.parts ∙ ap (λ s. so_far.done ++ s) c.in-Some.ensures.is ∙ sym (append_assoc so_far.done (side ∷ []) left),
        rows-more (files_of g.S.Store g.S.File.Source c.args.context.now.store.now) c.args.kind (texts_of c.args.lost.now) so_far.done so_far.rows side row so_far.are added.1,
        subst (λ texts. EprintsLines g.E.Sink texts c.args.err.now c.add_side.new.err) (sym (flat-push row_messages so_far.rows row))
            (lines-more g.E.Sink (messages_in so_far.rows) (row_messages row) _ _ _ so_far.reports added.2),
      ),
    )
