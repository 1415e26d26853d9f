-- The view of the reader of a list's lines: the buffered bytes, the last line, and the bytes read.
use Rattle.std.specs.Prelude.{◌≡◌, ◌⊎◌, ℕ, ◌+◌, ◌-◌, ◌<◌, ◌≤◌, Bool, true, List, [], ◌∷◌, ◌++◌, MatchBool, Option, Some, None, length, slice_range, if◌then◌else◌, Result, Ok, Err}
use Rattle.std.specs.Borrow.{Bor}
use Rattle.xxhsum_program.specs.Prelude.{Lacks, NoneEmpty, Pieces, SourceRules, concat}
use Rattle.xxh_io.specs.declared.streams.Failed.{Failed}
use Rattle.xxhsum_program.specs.declared.lines.Lines.{Lines}
use Rattle.xxhsum_program.specs.declared.lines.Next.{Next}
use Rattle.xxhsum_program.specs.declared.lines.Next.TheVariants as Variant
use Rattle.xxhsum_program.specs.ListLines.{FailsAfter, IsEndless, IsTooLong, end_piece, longest_line}
use Rattle.xxhsum_program.specs.ProgressReader.{source_of}

-- The buffered bytes.
abbrev pub waiting : {R X : Type 0} → Lines R X → List ℕ
waiting lines = slice_range lines.buf lines.start lines.end

-- The source has ended, and nothing is buffered.
abbrev pub IsAtEnd : {R X : Type 0} → Lines R X → Type 0
IsAtEnd lines = (lines.has_ended ≡ true) × (waiting lines ≡ [])

-- The number of buffered bytes before the first line feed among them. None if there is no line feed.
abbrev pub IsBeforeLineFeed : {R X : Type 0} → Option ℕ → Lines R X → Type 0
IsBeforeLineFeed None lines = Lacks 10 (waiting lines)
IsBeforeLineFeed (Some len) lines =
    let front = slice_range lines.buf lines.start (lines.start + len) in
    let rest = slice_range lines.buf (lines.start + (len + 1)) lines.end in
    (lines.start + len < lines.end) × Lacks 10 front × (waiting lines ≡ front ++ 10 ∷ rest)

-- As above. If there is no line feed, the source has ended or more than 32,767 bytes are buffered.
abbrev pub StopsAt : {R X : Type 0} → Option ℕ → Lines R X → Type 0
StopsAt (Some len) lines = IsBeforeLineFeed (Some len) lines
StopsAt None lines =
    IsBeforeLineFeed None lines × ((lines.has_ended ≡ true) ⊎ (longest_line < lines.end - lines.start))

-- The line that was read last, as far as it is kept.
abbrev pub line_of : {R X : Type 0} → Lines R X → List ℕ
line_of lines = slice_range lines.buf lines.line_start lines.line_end

-- The line that was read last is this one. It is kept unless it is too long.
abbrev pub IsHeld : {R X : Type 0} → List ℕ → Lines R X → Type 0
IsHeld line lines = MatchBool lines.is_long (IsTooLong line) ((length line ≤ longest_line) × (line_of lines ≡ line))

-- The line is returned, or is too long.
abbrev pub IsGiven : List ℕ → Option (Bor (List ℕ)) → Type 0
IsGiven line None = IsTooLong line
IsGiven line (Some given) = (length line ≤ longest_line) × (given.now ≡ line)

-- The first `taken` buffered bytes are gone. The first `len` of them are the last line, or belong to a long one.
abbrev pub IsTaken : {R X : Type 0} → ℕ → ℕ → Bool → Lines R X → Lines R X → Type 0
IsTaken len taken is_long old new =
    (line_of new ≡ slice_range old.buf old.start (old.start + len))
    × (new.source ≡ old.source) × (new.has_ended ≡ old.has_ended)
    × (waiting new ≡ slice_range old.buf (old.start + taken) old.end)
    × (new.is_long ≡ is_long) × (new.end - new.start + taken ≡ old.end - old.start)

-- The maximum number of further reads for the next line.
abbrev pub most_reads_left : {R X : Type 0} → Lines R X → ℕ
most_reads_left lines = (if lines.has_ended then 0 else 1) + (65536 - (lines.end - lines.start))

-- Reads returned the bytes `done`, and then the buffered bytes. Only the last read may be empty.
abbrev pub HasRead : {R X : Type 0} → SourceRules R → R → List ℕ → Lines R X → Type 0
HasRead reading from done lines =
    (pieces : List (List ℕ)) × NoneEmpty pieces
    × Pieces reading.gives from (pieces ++ end_piece lines.has_ended) (source_of lines.source)
    × (concat pieces ≡ done ++ waiting lines)

-- The system's message for the read that failed.
abbrev pub reason_behind : {R X : Type 0} → SourceRules R → Lines R X → List ℕ
reason_behind reading lines = reading.reason (source_of lines.source)

-- Reads returned `done` and the buffered bytes. On an error, the next read failed, and no line feed is buffered.
abbrev pub ReadsBehind : {R X T : Type 0} → SourceRules R → R → List ℕ → Lines R X → Result T Failed → Type 0
ReadsBehind reading from done new (Ok x) = HasRead reading from done new
ReadsBehind reading from done new (Err e) =
    FailsAfter reading from (reason_behind reading new) (done ++ waiting new) × Lacks 10 (waiting new)

-- The line was read after the bytes `done`, with its line feed or as the last line.
abbrev pub IsRead : {R X : Type 0} → SourceRules R → R → List ℕ → List ℕ → Lines R X → Type 0
IsRead reading from done line new =
    HasRead reading from (done ++ line ++ 10 ∷ []) new
    ⊎ ((0 < length line) × HasRead reading from (done ++ line) new × IsAtEnd new)

-- The next item after the bytes `done`: a line, an endless line (`IsEndless`), the end of the source, or a failed read
-- after bytes without a line feed.
abbrev pub IsNext : {R X : Type 0} → SourceRules R → R → List ℕ → Lines R X → Next → Type 0
IsNext reading from done new Variant.Line =
    (line : List ℕ) × Lacks 10 line × IsHeld line new × IsRead reading from done line new
IsNext reading from done new Variant.Endless =
    (removed : List ℕ) × HasRead reading from (done ++ removed) new × IsEndless (removed ++ waiting new)
IsNext reading from done new Variant.End = HasRead reading from done new × IsAtEnd new
IsNext reading from done new Variant.Failed =
    (rest : List ℕ) × FailsAfter reading from (reason_behind reading new) (done ++ rest) × Lacks 10 rest
