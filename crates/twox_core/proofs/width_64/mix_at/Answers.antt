use Rattle.twox_core.proofs.width_64.mix_at.Goals as goal

pub returns : goal.returns
returns c = c.mix_words.ensures c.args.input.now c.args.i c.u64_at.ensures c.second_word.ensures
