use Rattle.std.proofs.Common.{◌≡◌, false, take}
use Rattle.xxh_io.specs.Digest.{Took}
use Rattle.xxhsum_output.specs.Shown.{shown_all}
use Rattle.xxhsum_output.proofs.visible.write_shown.Given as goal

-- Invariant: the displayed form of the bytes so far was taken, and no write has failed
abbrev pub invariant-loop-byte : goal.invariant-loop-byte
invariant-loop-byte g l = record {
  works : g.W.Sink.has_failed l.w ≡ false;
  took : Took g.W.Sink (shown_all (take l.byte-index l.bytes)) l.initial.w l.w;
}
