use Rattle.xxhsum_app.proofs.Prelude.{◌+◌, ◌≡◌, HaveItems, List, Stands, length, map, entry_item, source_of, ℕ}
use Rattle.xxhsum_app.proofs.read_list.read_lines.Given as goal

-- Invariant: the entries of the lines so far, and nothing is reported
abbrev pub invariant-loop-number : goal.invariant-loop-number
invariant-loop-number g l = record {
  read : List (List ℕ);
  entries : HaveItems l.fn.is_little read (map entry_item l.entries.items);
  count : l.number ≡ length read + 1;
  stands : Stands g.R.Source (source_of l.fn.source) l.lines read;
  silent : l.err ≡ l.initial.err;
}
