use Rattle.std.proofs.Common.{◌≡◌, ℕ, List, length, false}
use Rattle.std.specs.List.{concat}
use Rattle.xxh_io.specs.Pieces.{Pieces, NoneEmpty}
use Rattle.xxh_program.specs.Blocks.{whole_block_lines}
use Rattle.xxh_io.specs.Digest.{Took}
use Rattle.xxh_program.specs.BlockState.{HasTaken}
use Rattle.xxh_program.proofs.program.blocks.digest_blocks_by.Given as goal

-- Invariant: each iteration has read and taken one nonempty chunk, the lines of the whole blocks were written, and
-- neither stream has failed
abbrev pub invariant-loop-turn : goal.invariant-loop-turn
invariant-loop-turn g l = record {
  reads : g.R.Source.has_failed l.r ≡ false;
  works : g.W.Sink.has_failed l.w ≡ false;
  room : length l.buf ≡ length l.initial.buf;
  same : l.current.size ≡ l.fn.block;
  pieces : List (List ℕ);
  count : length pieces ≡ l.turn;
  some : NoneEmpty pieces;
  read : Pieces g.R.Source.gives l.initial.r pieces l.r;
  follows : HasTaken l.current (concat pieces);
  wrote : Took g.W.Sink (whole_block_lines l.fn.block (concat pieces)) l.initial.w l.w;
}
