use Rattle.std.proofs.Common.{refl}
use Rattle.xxhsum_app.proofs.digests.digest_name.Goals as goal

pub returns-in-Digested : goal.returns-in-Digested
returns-in-Digested g c =
    (c.in-Digested.value, refl, rw c.in-Digested.is at c.outcome_of-outcome.ensures, rw c.in-Digested.is at c.eprint_outcome.ensures)
