use Rattle.std.proofs.Common.{◌≡◌, Ok, Err, map, string_bytes, refl, sym, ◌∙◌, subst, Result}
use Rattle.xxh_io.specs.declared.fault.Fault.{Fault}
use Rattle.xxh_io.specs.declared.fault.Fault.TheVariants.{OutOfMemory}
use Rattle.xxh_io.specs.Process.{AreWords, EndsAs}
use Rattle.xxh_program.specs.Run.{ReportsError}
use Rattle.std.proofs.KnownBytes.{Keeps-refl}
use Rattle.xxh_io.proofs.ProcessFacts.{no-fault, message-nothing, ends-itself}
use Rattle.xxh_program.proofs.program.process.run_arguments.Goals as goal

pub returns-in-0 : goal.returns-in-0
returns-in-0 g c =
    let ran = c.run.ensures in
    let words : AreWords (map string_bytes c.args.args.now) c.deref.result.now = rw c.deref.ensures.value c.in-Ok.ensures in
    let why = g.R.Source.reason c.run.new.r in
    let none : ran.0 ≡ Ok tt = no-fault ran.0 (sym ran.3 ∙ c.in-0.is) in
    let quiet : c.run.new.err ≡ c.args.err.now = message-nothing g.E.Sink why ran.0 _ _ none ran.2 in
    let ends : EndsAs ran.0 c.flush.result = subst (λ (r : Result (Unit {0}) Fault). EndsAs r c.flush.result) (sym none) c.flush.ensures.fault in
    let told = rw c.failure.ensures at c.conclude.ensures.reports in
    let reports : ReportsError g.E.Sink why c.flush.result c.args.err.now c.conclude.new.err =
    subst (λ e. ReportsError g.E.Sink why c.flush.result e c.conclude.new.err) quiet told in
    (Ok c.deref.result.now, words, (ran.0, c.flush.result, c.run.new.out, ran.1, ends, c.flush.ensures.bytes, reports, c.conclude.ensures.status))

pub returns-in-Ok : goal.returns-in-Ok
returns-in-Ok g c =
    let ran = c.run.ensures in
    let words : AreWords (map string_bytes c.args.args.now) c.deref.result.now = rw c.deref.ensures.value c.in-Ok.ensures in
    (Ok c.deref.result.now, words, (ran.0, ran.0, c.run.new.out, ran.1, ends-itself ran.0, Keeps-refl _, ran.2, ran.3))

pub returns : goal.returns
returns g c =
    (Err OutOfMemory, refl, (Err OutOfMemory, Err OutOfMemory, c.args.out.now, (refl, refl, refl), refl, Keeps-refl _, c.conclude-in-Err.ensures.reports, c.conclude-in-Err.ensures.status))
