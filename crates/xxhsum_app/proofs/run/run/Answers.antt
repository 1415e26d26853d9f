use Rattle.std.proofs.Common.{Err, None, Some, map, refl}
use Rattle.xxhsum_program.specs.declared.stop.Stop.TheVariants.{OutOfMemory}
use Rattle.xxhsum_app.proofs.run.run.Goals as goal

pub returns-in-Ok : goal.returns-in-Ok
returns-in-Ok g c =
    let action = rw c.deref.ensures.value at c.run_arguments-done.ensures in
    (Some (map (λ argument. argument.items) c.in-Ok.args.items), c.run_arguments-done.result, c.release.new.self, c.run_arguments-done.new.streams, c.in-Ok.ensures, c.release.ensures.releases, action, c.end.ensures)

pub returns-in-Err : goal.returns-in-Err
returns-in-Err g c =
    (None, Err OutOfMemory, c.release.new.self, c.release.new.self, tt, c.release.ensures.releases, (refl, refl, refl), c.end-in-Err.ensures)
