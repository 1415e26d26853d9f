use Rattle.std.proofs.Common.{◌+◌, ◌∷◌, ◌++◌, [], ap, arith, inl, inr, length, map, refl, subst, true, false}
use Rattle.xxhsum_app.proofs.Prelude.{IsGiven, TakesLine, breaks-endless, breaks-failed, ends-well, entry_item, improper_text, length_push, reason_behind, some-read, source_of, stands-line, stands-new, too_long_text, unread_text}
use Rattle.xxhsum_app.proofs.ReadListFacts.{have-entries-more}
use Rattle.xxhsum_app.proofs.read_list.read_lines.Goals as goal

pub loop-number-init : goal.loop-number-init
loop-number-init g c = record {
  read = [];
  entries = (tt, ap (map entry_item) c.new-entries.ensures.items);
  count = refl;
  stands = stands-new g.R.Source (source_of c.args.source) c.new-lines.result c.new-lines.ensures;
  silent = refl;
}

pub loop-number-preserved : goal.loop-number-preserved
loop-number-preserved g c =
    let so_far = c.loop-number.invariant in
    let little = c.args.is_little in
    let (line, held, stands) = stands-line g.R.Source (source_of c.args.source) c.loop-number.lines c.next.new.self so_far.read so_far.stands c.in-Line.ensures.next c.in-Line.ensures.ended in
    let given = subst (IsGiven line) c.in-Some.is (c.line.ensures line held) in
    let takes = subst (λ taken. TakesLine little c.in-Some.line.now (map entry_item c.loop-number.entries.items) (map entry_item c.take_line.new.entries.items) taken) c.if-not-branch.false c.in_ok-take_line.ensures in
    let entries = have-entries-more little so_far.read line _ _ so_far.entries given.0 (subst (λ text. TakesLine little text (map entry_item c.loop-number.entries.items) (map entry_item c.take_line.new.entries.items) true) given.1 takes) in
    record {
      read = so_far.read ++ line ∷ [];
      entries = entries;
      count = omega (arith, length_push so_far.read line, so_far.count);
      stands = stands;
      silent = so_far.silent;
    }

pub returns-in-End : goal.returns-in-End
returns-in-End g c =
    let so_far = c.loop-number.invariant in
    ((so_far.read, ends-well g.R.Source (source_of c.args.source) c.loop-number.lines c.next.new.self so_far.read so_far.stands c.in-End.ensures.next, so_far.entries), so_far.silent)

pub returns-in-Failed : goal.returns-in-Failed
returns-in-Failed g c =
    let so_far = c.loop-number.invariant in
    let ends = breaks-failed g.R.Source (source_of c.args.source) c.loop-number.lines c.next.new.self so_far.read so_far.stands c.in-Failed.ensures.next c.in-Failed.ensures.ended in
    let why = reason_behind g.R.Source c.next.new.self in
    (unread_text c.args.list.now why, (so_far.read, map entry_item c.loop-number.entries.items, so_far.entries, inl (why, ends, refl)), rw (c.failure.ensures, so_far.silent) at c.eprint_unread.ensures)

pub returns-in-Endless : goal.returns-in-Endless
returns-in-Endless g c =
    let so_far = c.loop-number.invariant in
    let ends = breaks-endless g.R.Source (source_of c.args.source) c.loop-number.lines c.next.new.self so_far.read so_far.stands c.in-Endless.ensures.next c.in-Endless.ensures.ended in
    (too_long_text c.args.list.now (length so_far.read + 1), (so_far.read, map entry_item c.loop-number.entries.items, so_far.entries, inr (inl (ends, refl))), rw (so_far.count, so_far.silent) at c.eprint_line_error.ensures)

pub returns-in_default : goal.returns-in_default
returns-in_default g c =
    let so_far = c.loop-number.invariant in
    let (line, held, stands) = stands-line g.R.Source (source_of c.args.source) c.loop-number.lines c.next.new.self so_far.read so_far.stands c.in-Line.ensures.next c.in-Line.ensures.ended in
    let long = subst (IsGiven line) c.in_default.is (c.line.ensures line held) in
    let some = some-read g.R.Source (source_of c.args.source) c.next.new.self (so_far.read ++ line ∷ []) stands in
    (too_long_text c.args.list.now (length so_far.read + 1), (so_far.read, map entry_item c.loop-number.entries.items, so_far.entries, inr (inr (line, some, inl (long, refl)))), rw (so_far.count, so_far.silent) at c.eprint_line_error-in_default.ensures)

pub returns-then-not-branch : goal.returns-then-not-branch
returns-then-not-branch g c =
    let so_far = c.loop-number.invariant in
    let little = c.args.is_little in
    let (line, held, stands) = stands-line g.R.Source (source_of c.args.source) c.loop-number.lines c.next.new.self so_far.read so_far.stands c.in-Line.ensures.next c.in-Line.ensures.ended in
    let given = subst (IsGiven line) c.in-Some.is (c.line.ensures line held) in
    let takes = subst (λ taken. TakesLine little c.in-Some.line.now (map entry_item c.loop-number.entries.items) (map entry_item c.take_line.new.entries.items) taken) c.if-not-branch.true c.in_ok-take_line.ensures in
    let nothing = subst (λ bytes. TakesLine little bytes (map entry_item c.loop-number.entries.items) (map entry_item c.take_line.new.entries.items) false) given.1 takes in
    let some = some-read g.R.Source (source_of c.args.source) c.next.new.self (so_far.read ++ line ∷ []) stands in
    (improper_text c.args.list.now (length so_far.read + 1), (so_far.read, map entry_item c.loop-number.entries.items, so_far.entries, inr (inr (line, some, inr (given.0, nothing, refl)))), rw (so_far.count, so_far.silent) at c.eprint_line_error-then-not-branch.ensures)
