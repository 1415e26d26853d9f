use Rattle.xxhsum_audit.proofs.Prelude.{◌≡◌, rules, is_lt, always_returns_same, IsPermutation-map, ranks_by, item_of, rank_lines}
use Rattle.xxhsum_audit.proofs.OrderFacts.{ranks_total}
use Rattle.xxhsum_audit.proofs.SortFacts.{ascends_of}
use Rattle.xxhsum_audit.proofs.order.put_lines_in_order.Goals as goal

pub returns : goal.returns
returns c = (
  IsPermutation-map item_of _ _ c.sort_unstable_by.ensures.permutation,
  ascends_of item_of rank_lines ranks_total _
      (c.sort_unstable_by.ensures.sorted (λ x y. is_lt (rank_lines (item_of x) (item_of y))) (ranks_by ranks_total item_of)
      (always_returns_same _ (λ a r. is_lt r ≡ is_lt (rank_lines (item_of a.0.now) (item_of a.1.0.now))) _ (λ a r g h. (search rules, search rules)))),
)
