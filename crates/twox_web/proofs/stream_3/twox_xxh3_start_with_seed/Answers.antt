use Rattle.twox_web.proofs.stream_3.twox_xxh3_start_with_seed.Goals as goal

pub returns-clause-empty : goal.returns-clause-empty
returns-clause-empty c = c.starting_with.ensures c.derived_secret.result
