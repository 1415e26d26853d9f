-- The end of a run, which writes the buffered output.
use Rattle.std.specs.Prelude.{◌≡◌, ℕ, Bool, true, false, List, [], Result, Ok, Err}
use Rattle.xxhsum_program.specs.Prelude.{Stop, WriteFailed}

-- The result of a run. It is an error if some of the output was lost.
abbrev pub end_after : Bool → Result Bool Stop → Result Bool Stop
end_after false done = done
end_after true (Ok all) = Err WriteFailed
end_after true (Err stop) = Err stop

-- No output is buffered, unless some of it was lost.
abbrev pub IsWritten : {W : Type 0} → (W → List ℕ) → (W → Bool) → W → Type 0
IsWritten held has_lost out = has_lost out ≡ false → held out ≡ []
