use Rattle.std.proofs.Common.{◌≡◌, [], ◌∷◌, ◌++◌, string_bytes, lit<, ◌∙◌}
use Rattle.std.proofs.lemmas.Result.{err_from_is_err_and}
use Rattle.xxh_program.proofs.program.states.print_line.Goals as goal

pub returns-in_err-write_all : goal.returns-in_err-write_all
returns-in_err-write_all g c =
    let line : c.as_bytes.result.now ≡ string_bytes c.args.text ++ 10 ∷ [] = rw (c.in_ok-push.ensures.ascii (lit< tt)) at (c.as_bytes.ensures.value ∙ c.in_ok-push.ensures.bytes) in
    let only = c.in_err-write_all.ensures.only in
    let fault = err_from_is_err_and c.from_residual-in_err-write_all.result c.from_residual-in_err-write_all.ensures.1 in
    rw (fault.1, fault.2, only) (rw (only, line) at c.in_err-write_all.ensures.writes)

pub returns : goal.returns
returns g c =
    let line : c.as_bytes.result.now ≡ string_bytes c.args.text ++ 10 ∷ [] = rw (c.in_ok-push.ensures.ascii (lit< tt)) at (c.as_bytes.ensures.value ∙ c.in_ok-push.ensures.bytes) in
    let wrote = c.in_ok-write_all.ensures.writes in
    (wrote.0, wrote.1, wrote.2 ∙ line)
