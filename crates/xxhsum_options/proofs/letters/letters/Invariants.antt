use Rattle.std.proofs.Common.{◌≡◌, length}
use Rattle.xxhsum_options.specs.Letters.{letters_step}
use Rattle.xxhsum_options.proofs.letters.letters.Given as goal

-- Invariant: the result is that of the remaining letters with the options so far
abbrev pub invariant-loop-letter : goal.invariant-loop-letter
invariant-loop-letter l = letters_step 0 l.fn.options l.fn.word ≡ letters_step 0 l.options l.rest

abbrev pub decreases-loop-letter : goal.decreases-loop-letter
decreases-loop-letter l = length l.rest
