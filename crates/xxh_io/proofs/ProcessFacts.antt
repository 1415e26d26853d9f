-- Proves that a run with exit status 0 had no error and wrote no error message.
use Rattle.std.proofs.Common.{◌≡◌, ℕ, List, Ok, Err, refl, Result}
use Rattle.xxh_io.specs.declared.fault.Fault.{Fault}
use Rattle.xxh_io.specs.declared.fault.Fault.TheVariants.{Usage, BadSeed, BadSize, BadState, OutOfMemory, Digest}
use Rattle.xxh_io.specs.Process.{EndsAs}
use Rattle.xxh_io.specs.Reports.{ReportsError, status_after}
use Rattle.xxh_io.specs.Rules.{SinkRules}

pub no-fault : (answer : Result (Unit {0}) Fault) → status_after answer ≡ 0 → answer ≡ Ok tt
no-fault (Ok x) is = refl
no-fault (Err Usage) is = cc
no-fault (Err BadSeed) is = cc
no-fault (Err BadSize) is = cc
no-fault (Err BadState) is = cc
no-fault (Err OutOfMemory) is = cc
no-fault (Err (Digest e)) is = cc

pub message-nothing : {E : Type 0} (reporting : SinkRules E) (reason : List ℕ) (answer : Result (Unit {0}) Fault) (old new : E) → answer ≡ Ok tt → ReportsError reporting reason answer old new → new ≡ old
message-nothing reporting reason (Ok x) old new is message = message
message-nothing reporting reason (Err fault) old new is message = cc

pub ends-itself : (answer : Result (Unit {0}) Fault) → EndsAs answer answer
ends-itself (Ok x) = tt
ends-itself (Err fault) = refl
