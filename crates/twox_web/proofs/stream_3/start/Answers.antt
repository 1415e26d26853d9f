use Rattle.twox_web.proofs.stream_3.start.Goals as goal

pub returns-clause-empty : goal.returns-clause-empty
returns-clause-empty c = λ _. c.starting_with.ensures c.args.secret.now
