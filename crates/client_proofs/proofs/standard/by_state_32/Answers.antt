use Rattle.std.proofs.Common.{[], ◌∙◌, refl}
use Rattle.twox_hash.specs.Record32.{initial_record, after_write}
use Rattle.twox_plain.proofs.Message32.{initial_record_stands, after_write_stands, finish_value_of_message}
use Rattle.client_proofs.proofs.standard.by_state_32.Goals as goal

pub returns : goal.returns
unfolding after_write
returns c =
    let first = initial_record c.args.state.now in
    rw (c.write.ensures, c.build_hasher-hasher_32.ensures) at c.finish.ensures
    ∙ finish_value_of_message (after_write first c.args.bytes.now) c.args.bytes.now (after_write_stands first [] c.args.bytes.now refl (initial_record_stands c.args.state.now))
