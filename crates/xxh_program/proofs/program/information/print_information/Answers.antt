use Rattle.std.proofs.Common.{Ok, Err, refl}
use Rattle.std.proofs.KnownBytes.{Keeps-refl}
use Rattle.xxh_program.proofs.program.information.print_information.Goals as goal

pub returns-in-Ok : goal.returns-in-Ok
returns-in-Ok g c =
    (c.write_information.new.w, Ok c.in-Ok.field-0, c.in-Ok.ensures, c.flush.ensures.fault, c.flush.ensures.bytes)

pub returns-in-Err : goal.returns-in-Err
returns-in-Err g c =
    (c.write_information.new.w, Err c.in-Err.error, c.in-Err.ensures, refl, Keeps-refl _)
