-- The parts of a terminal that clauses use.
use Rattle.std.specs.Prelude.{Bool}
use Rattle.xxhsum_program.specs.declared.terminal.Terminal.{Terminal}

-- True if a write to the terminal has failed.
abbrev pub has_terminal_failed : {W P : Type 0} → Terminal W P → Bool
has_terminal_failed terminal = terminal.has_failed

-- The writer of the terminal.
abbrev pub shown_on : {W P : Type 0} → Terminal W P → W
shown_on terminal = terminal.writer
