use Rattle.xxhsum_theorems.proofs.same_means_equal.Goals as goal

pub returns : goal.returns
returns c = λ lines names found is all. c.laws_of_audits.ensures.equal lines names found is all
