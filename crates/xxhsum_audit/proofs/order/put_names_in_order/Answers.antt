use Rattle.xxhsum_audit.proofs.Prelude.{Bor, ◌≡◌, ℕ, List, rules, is_lt, always_returns_same, IsPermutation-map, ranks_by, rank_names}
use Rattle.xxhsum_audit.proofs.OrderFacts.{names_total}
use Rattle.xxhsum_audit.proofs.SortFacts.{ascends_of}
use Rattle.xxhsum_audit.proofs.order.put_names_in_order.Goals as goal

pub returns : goal.returns
returns c =
    let text_of : Bor (List ℕ) → List ℕ = λ (text : Bor (List ℕ)). text.now in (
      IsPermutation-map text_of _ _ c.sort_unstable_by.ensures.permutation,
      ascends_of text_of rank_names names_total _
          (c.sort_unstable_by.ensures.sorted (λ x y. is_lt (rank_names (text_of x) (text_of y))) (ranks_by names_total text_of)
          (always_returns_same _ (λ a r. is_lt r ≡ is_lt (rank_names a.0.now.now a.1.0.now.now)) _ (λ a r g h. (search rules, search rules)))),
    )
