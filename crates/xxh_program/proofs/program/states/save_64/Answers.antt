use Rattle.std.proofs.Common.{◌≡◌, [], string_bytes, ap, ◌∙◌, Ok}
use Rattle.twox_hash.specs.Saved64.{saved_text}
use Rattle.xxh_program.proofs.program.states.save_64.Goals as goal

pub returns : goal.returns
returns g c =
    let read = c.in_ok-hasher.ensures.reads in
    let text : string_bytes c.in_ok-text.text ≡ saved_text c.in_ok-hasher.hasher = c.in_ok-text.ensures.text ∙ ap saved_text c.to_state.ensures in
    let seed : c.in_ok-hasher.hasher.seed ≡ c.args.seed = read.2.0 ∙ ap (λ s. s.seed) c.with_seed.ensures.record in
    (Ok c.in_ok-hasher.hasher, (read.0, read.1, (seed, read.2.1 [] c.with_seed.ensures.empty, rw text at c.print_line.ensures)))
