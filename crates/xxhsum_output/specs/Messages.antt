-- Messages that are passed on whole.
use Rattle.std.specs.Prelude.{ℕ, Bool, List, codes, nat_eq}
use Rattle.std.specs.List.{ends_with}
use Rattle.xxhsum_output.specs.declared.messages.Messages.{Messages}
use Rattle.xxh_io.specs.Digest.{Took}
use Rattle.xxh_io.specs.Rules.{SinkRules}

-- The inner sink.
abbrev pub holder_of : {W : Type 0} → Messages W → W
holder_of messages = messages.inner

-- True if the text ends with a newline.
abbrev pub is_whole : List ℕ → Bool
is_whole text = ends_with nat_eq text (codes "\n")

-- The inner sink took the part.
abbrev pub TakesPart : {W : Type 0} → SinkRules W → Messages W → List ℕ → Messages W → Type 0
TakesPart writing old piece new = Took writing piece (holder_of old) (holder_of new)
