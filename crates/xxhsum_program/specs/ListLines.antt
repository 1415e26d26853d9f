-- The lines of a list, and reads of a list that fail.
use Rattle.std.specs.Prelude.{◌≡◌, ◌⊎◌, ℕ, ◌-◌, ◌<◌, ◌≤◌, ◌^◌, Bool, true, List, [], ◌∷◌, length, if◌then◌else◌}
use Rattle.xxhsum_program.specs.Prelude.{Lacks, NoneEmpty, Pieces, SourceRules, concat}

-- Maximum length of a line in bytes, without its line feed.
abbrev pub longest_line : ℕ
longest_line = 32767

-- The line can be the last of a list, without a line feed at its end: it is not empty and contains none.
abbrev pub IsLastLine : List ℕ → Type 0
IsLastLine line = Lacks 10 line × (0 < length line)

-- The line is too long to be checked. Its line feed does not count.
abbrev pub IsTooLong : List ℕ → Type 0
IsTooLong line = longest_line < length line

-- The bytes have no line feed and are 2^64 - 2 or more: their line is not read to its end.
abbrev pub IsEndless : List ℕ → Type 0
IsEndless bytes = Lacks 10 bytes × (2 ^ 64 - 2 ≤ length bytes)

-- The empty chunk of the last read, if the source has ended.
abbrev pub end_piece : Bool → List (List ℕ)
end_piece has_ended = if has_ended then [] ∷ [] else []

-- The source has failed before, or its read fails. The system's message for it is `why`.
abbrev pub CantRead : {R : Type 0} → SourceRules R → R → List ℕ → Type 0
CantRead {R} reading met why =
    ((reading.has_failed met ≡ true) × (why ≡ reading.reason met))
    ⊎ ((end : R) × reading.fails met end × (why ≡ reading.reason end))

-- Reads returned these bytes, and the next one failed, with the message `why`.
abbrev pub FailsAfter : {R : Type 0} → SourceRules R → R → List ℕ → List ℕ → Type 0
FailsAfter {R} reading from why bytes =
    (pieces : List (List ℕ)) × (met : R) × NoneEmpty pieces × Pieces reading.gives from pieces met
    × CantRead reading met why × (concat pieces ≡ bytes)
