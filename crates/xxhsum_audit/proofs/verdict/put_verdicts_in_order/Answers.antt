use Rattle.xxhsum_audit.proofs.Prelude.{◌≡◌, rules, is_lt, always_returns_same, IsPermutation-map, ranks_by, found_of, rank_founds}
use Rattle.xxhsum_audit.proofs.OrderFacts.{founds_total}
use Rattle.xxhsum_audit.proofs.SortFacts.{ascends_of}
use Rattle.xxhsum_audit.proofs.verdict.put_verdicts_in_order.Goals as goal

pub returns : goal.returns
returns c = (
  IsPermutation-map found_of _ _ c.sort_unstable_by.ensures.permutation,
  ascends_of found_of rank_founds founds_total _
      (c.sort_unstable_by.ensures.sorted (λ x y. is_lt (rank_founds (found_of x) (found_of y))) (ranks_by founds_total found_of)
      (always_returns_same _ (λ a r. is_lt r ≡ is_lt (rank_founds (found_of a.0.now) (found_of a.1.0.now))) _ (λ a r g h. (search rules, search rules)))),
)
