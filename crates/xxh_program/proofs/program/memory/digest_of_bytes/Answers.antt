use Rattle.std.proofs.Common.{◌≡◌, ◌<◌, ◌≤◌, ◌+◌, ◌++◌, ℕ, List, length, Ok, ap, ◌∙◌, arith}
use Rattle.std.specs.List.{concat}
use Rattle.xxh_io.specs.Hex.{hex_line}
use Rattle.xxh_program.specs.Kind.{digits_of, value_of}
use Rattle.xxh_io.specs.Script.{slice_rest, sink_bytes}
use Rattle.xxh_io.proofs.HexPlace.{length-hex_line}
use Rattle.xxh_io.proofs.MemoryFacts.{always-ok, read-all, wrote-all}
use Rattle.xxh_program.proofs.program.memory.digest_of_bytes.Goals as goal

pub returns-clause-answer : goal.returns-clause-answer
returns-clause-answer g c =
    let done = c.digest.ensures.digests in
    let digits = digits_of c.args.kind in
    let value = value_of c.args.kind c.args.seed (concat done.0) in
    let same : length (slice_rest c.new.result) ≡ length c.args.bytes.now = ap length c.new.ensures in
    let enough : length (slice_rest c.new.result) < length c.args.bytes.now + 1 = omega (arith, same) in
    let room : length (sink_bytes c.args.w.now) + length (hex_line digits value) ≤ g.row.N = omega (arith, c.requires.room, length-hex_line digits value) in
    always-ok _ done.0 _ _ _ _ _ c.digest.result done.1.0 enough c.requires.never_fails room done.1.1 done.2

pub returns-clause-line : goal.returns-clause-line
returns-clause-line g c =
    let done = c.digest.ensures.digests in
    let line = λ (m : List ℕ). hex_line (digits_of c.args.kind) (value_of c.args.kind c.args.seed m) in
    let is : c.digest.result ≡ Ok tt = returns-clause-answer g c in
    let all : concat done.0 ≡ c.args.bytes.now = read-all _ done.0 _ _ c.digest.result is done.1.1 ∙ c.new.ensures in
    wrote-all (line (concat done.0)) _ _ c.digest.result is done.2 ∙ ap (λ m. sink_bytes c.args.w.now ++ line m) all
