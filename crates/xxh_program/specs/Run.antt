-- The effect of the program, by the command of its arguments.
use Rattle.std.specs.Prelude.{◌≡◌, ℕ, List, Result, Ok, Err}
use Rattle.std.specs.List.{concat}
use Rattle.xxh_io.specs.declared.digest_error.DigestError.{DigestError}
use Rattle.xxh_io.specs.declared.fault.Fault.{Fault}
use Rattle.xxh_io.specs.declared.command.Command.{Command}
use Rattle.xxh_io.specs.declared.command.Command.TheVariants.{Hash, Save32, Save64, Resume32, Resume64, Blocks}
use Rattle.xxh_io.specs.Pieces.{NoneEmpty}
use Rattle.xxh_io.specs.Digest.{ReadsTo, Writes}
use Rattle.xxh_program.specs.Filter.{Filter}
use Rattle.xxh_program.specs.BlockEnds.{DigestsBlocks}
use Rattle.xxh_io.specs.Hex.{hex_line}
use Rattle.xxh_program.specs.Kind.{digits_of, value_of}
use Rattle.xxh_program.specs.States.{most_reads, digest_answer, Saves32, Saves64, Resumes32, Resumes64}
pub use Rattle.xxh_io.specs.Reports.{ReportsError, status_after}

-- The lines of the input's blocks were printed, as by block digests.
abbrev pub DigestsInput : {R W : Type 0} → Filter R W → ℕ → Result (Unit {0}) DigestError → Type 0
DigestsInput filter size digested =
    (pieces : List (List ℕ)) × NoneEmpty pieces × DigestsBlocks filter size most_reads pieces digested

-- The reads and writes of the program with this result. Invalid arguments cause none. `hash` and `blocks` read and
-- write as a digest does. The other commands do as defined in `States`.
abbrev pub Performs : {R W : Type 0} → Filter R W → Result Command Fault → Result (Unit {0}) Fault → Type 0
Performs filter (Err fault) answer =
    (answer ≡ Err fault) × (filter.rest ≡ filter.source) × (filter.new ≡ filter.old)
Performs filter (Ok (Hash kind seed)) answer =
    (digested : Result (Unit {0}) DigestError) × (answer ≡ digest_answer digested)
    × ((pieces : List (List ℕ)) × ReadsTo filter.reading most_reads pieces filter.source filter.rest digested
    × Writes filter.writing (hex_line (digits_of kind) (value_of kind seed (concat pieces))) filter.old filter.new digested)
Performs filter (Ok (Save32 seed)) answer = Saves32 filter seed answer
Performs filter (Ok (Save64 seed)) answer = Saves64 filter seed answer
Performs filter (Ok (Resume32 json)) answer = Resumes32 filter json.now answer
Performs filter (Ok (Resume64 json)) answer = Resumes64 filter json.now answer
Performs filter (Ok (Blocks size)) answer =
    (digested : Result (Unit {0}) DigestError) × (answer ≡ digest_answer digested) × DigestsInput filter size digested
