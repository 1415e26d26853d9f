use Rattle.twox_plain.proofs.Prelude.{◌++◌, ◌≡◌, drop, item_bytes, items_view, length, option_map, take}
use Rattle.twox_plain.proofs.saved_text.byte_array.Given as goal

-- Invariant: the first i elements of the array are the first i bytes.
abbrev pub invariant-loop-i : goal.invariant-loop-i
invariant-loop-i g l = record {
  size : length l.bytes ≡ g.row.N;
  read : item_bytes (items_view l.list.items) ≡ option_map (λ rest. take l.i l.bytes ++ rest) (item_bytes (items_view (drop l.i l.list.items)));
}
