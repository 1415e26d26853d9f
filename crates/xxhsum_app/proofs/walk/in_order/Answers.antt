use Rattle.std.proofs.lemmas.List.Sorted.{IsPermutation-map}
use Rattle.xxhsum_app.proofs.VisitFacts.{names-sorted}
use Rattle.xxhsum_app.proofs.walk.in_order.Goals as goal

pub returns : goal.returns
returns c =
    (IsPermutation-map (λ name. name.items) _ _ c.sort_unstable.ensures.permutation, names-sorted (λ name. name.items) _ c.sort_unstable.ensures.sorted)
