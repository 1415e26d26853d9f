use Rattle.xxhsum_program.proofs.Prelude.{◌++◌, ◌+◌, ◌-◌, ◌∙◌, ◌≡◌, ◌≤◌, ap, arith, length, length-take-le, refl, slice_range, source_of, sym, take, waiting}
use borrow.Rule.Slice.PartMut.{put_mid}
use Rattle.xxhsum_program.proofs.LineFacts.{moved, put-behind, reads-on}
use Rattle.xxhsum_program.proofs.lines.Lines.refill.Goals as goal

pub returns-clause-reads : goal.returns-clause-reads
returns-clause-reads g c = λ from done read.
    let old = c.args.self.now in
    let len = old.end - old.start in
    let moved_to = c.copy_within.new.self in
    let room = c.read.new.buf in
    let count = c.in_ok-count.count in
    let within : count ≤ length room = c.in_ok-count.ensures.within in
    let front : take len moved_to ≡ waiting old = moved old.buf moved_to old.start old.end len (omega arith) (omega arith) refl c.copy_within.ensures.after in
    let grown : slice_range (put_mid len (65536 - len) moved_to room) 0 (len + count) ≡ waiting old ++ take count room = put-behind moved_to (waiting old) room len (65536 - len) count front (omega arith) within in
    let reads = reads-on g.R.Source from (source_of old.source) (source_of c.read.new.self) done (waiting old) (take count room) old.has_ended count c.requires.open (length-take-le count room within) read c.in_ok-count.ensures.piece in
    (reads.0, reads.1, reads.2, reads.3 ∙ ap (λ bytes. done ++ bytes) (sym grown))
