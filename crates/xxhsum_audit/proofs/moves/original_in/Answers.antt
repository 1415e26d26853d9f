use Rattle.xxhsum_audit.proofs.Prelude.{◌≡◌, ◌≤◌, ◌<◌, length, get_or, ap, sym, ◌∙◌, rules, arith, ◌==◌, IsPartitionPoint-from_clause, ordering_index, item_of, items_of}
use Rattle.xxhsum_audit.proofs.DigestFacts.{climbs}
use Rattle.xxhsum_audit.proofs.SearchFacts.{equal_is, is_below, parted, search-above, search-here, search-none}
use Rattle.xxhsum_audit.proofs.moves.original_in.Goals as goal

pub returns-in_err-first : goal.returns-in_err-first
returns-in_err-first c =
    let kept = c.args.kept.now in
    let n = item_of c.args.name in
    let place = c.partition_point-place.result in
    let parts = parted n kept (climbs (items_of kept) c.requires) in
    let point = IsPartitionPoint-from_clause (is_below n) kept place c.partition_point-place.ensures.partitioned parts (λ a r q k. search rules) in
    let past : length kept ≤ place = search rules in
    rw c.from_residual.ensures (search-none n kept place c.partition_point-place.ensures.bound past (λ i d lt. point.0 i d (omega arith) lt))

pub returns-then-eq : goal.returns-then-eq
returns-then-eq c =
    let kept = c.args.kept.now in
    let n = item_of c.args.name in
    let place = c.partition_point-place.result in
    let parts = parted n kept (climbs (items_of kept) c.requires) in
    let point = IsPartitionPoint-from_clause (is_below n) kept place c.partition_point-place.ensures.partitioned parts (λ a r q k. search rules) in
    let within : place < length kept = search rules in
    let is : c.in_ok-first.field-0.now ≡ get_or kept place c.in_ok-first.field-0.now = search rules in
    search-here n kept place c.in_ok-first.field-0.now within is (λ i d lt. point.0 i d (omega arith) lt)
    (sym c.compare_digests.ensures ∙ equal_is c.compare_digests.result (sym c.eq.ensures ∙ c.if-eq.true))

pub returns-else-eq : goal.returns-else-eq
returns-else-eq c =
    let kept = c.args.kept.now in
    let n = item_of c.args.name in
    let place = c.partition_point-place.result in
    let up = climbs (items_of kept) c.requires in
    let point = IsPartitionPoint-from_clause (is_below n) kept place c.partition_point-place.ensures.partitioned (parted n kept up) (λ a r q k. search rules) in
    let within : place < length kept = search rules in
    let first = c.in_ok-first.field-0.now in
    let is : first ≡ get_or kept place first = search rules in
    search-above n kept place first up within is (λ i d lt. point.0 i d (omega arith) lt)
    (ap (is_below n) is ∙ point.1 place first (omega arith) within)
    (ap (λ o. ordering_index o == 1) (sym c.compare_digests.ensures) ∙ sym c.eq.ensures ∙ c.if-eq.false)
