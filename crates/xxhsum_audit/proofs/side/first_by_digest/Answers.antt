use Rattle.xxhsum_audit.proofs.TurnFacts.{first-both, first-greater, first-less, first-line, first-name, first-none}
use Rattle.xxhsum_audit.proofs.Prelude.{item_of, compare_digests}
use Rattle.xxhsum_audit.proofs.side.first_by_digest.Goals as goal

pub returns-in-None-None : goal.returns-in-None-None
returns-in-None-None c = first-none compare_digests item_of item_of _ _ c.in-None-None.ensures.cases c.in-None-None.ensures'.cases

pub returns-in-Some-None : goal.returns-in-Some-None
returns-in-Some-None c = first-line compare_digests item_of item_of _ _ _ _ c.in-Some-None.ensures.cases.0 c.in-Some-None.ensures'.cases

pub returns-in-None-Some : goal.returns-in-None-Some
returns-in-None-Some c = first-name compare_digests item_of item_of _ _ _ _ c.in-None-Some.ensures.cases c.in-None-Some.ensures'.cases.0

pub returns-in-Less : goal.returns-in-Less
returns-in-Less c =
    first-less compare_digests item_of item_of _ _ _ _ _ _ _ c.in-Some-Some.ensures.cases.0 c.in-Some-Some.ensures'.cases.0 c.compare_digests.ensures c.in-Less.is

pub returns-in-Equal : goal.returns-in-Equal
returns-in-Equal c =
    first-both compare_digests item_of item_of _ _ _ _ _ _ _ c.in-Some-Some.ensures.cases.0 c.in-Some-Some.ensures'.cases.0 c.compare_digests.ensures c.in-Equal.is

pub returns-in-Greater : goal.returns-in-Greater
returns-in-Greater c =
    first-greater compare_digests item_of item_of _ _ _ _ _ _ _ c.in-Some-Some.ensures.cases.0 c.in-Some-Some.ensures'.cases.0 c.compare_digests.ensures c.in-Greater.is
