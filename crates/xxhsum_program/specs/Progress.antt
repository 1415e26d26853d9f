-- The progress display of a long file.
use Rattle.std.specs.Prelude.{◌≡◌, ℕ, ◌+◌, ◌-◌, ◌*◌, ◌^◌, ◌/◌, Bool, true, false, List, [], ◌∷◌, ◌++◌, Option, Some, None, codes, decimal, if◌then◌else◌, max, min, nat_eq, nat_lt}
use Rattle.xxhsum_program.specs.Prelude.{Eprints, SinkRules, concat}
use Rattle.xxhsum_program.specs.declared.progress.Progress.{Progress}

-- The sink that progress is written to.
abbrev pub end_of : {E : Type 0} → Progress E → E
end_of progress = progress.end

-- True if progress is shown.
abbrev pub is_shown : {E : Type 0} → Progress E → Bool
is_shown progress = progress.is_on

-- The number of bytes read so far.
abbrev pub bytes_read : {E : Type 0} → Progress E → ℕ
bytes_read progress = progress.count

-- The expected number of bytes, if known.
abbrev pub bytes_expected : {E : Type 0} → Progress E → Option ℕ
bytes_expected progress = progress.size

-- The start time of the reading, in milliseconds.
abbrev pub begun : {E : Type 0} → Progress E → ℕ
begun progress = progress.started

-- The count after a read, saturating at 2^64 - 1.
abbrev pub count_after : ℕ → ℕ → ℕ
count_after before count = min (before + count) (2 ^ 64 - 1)

-- The rate in KiB per second of this many bytes in this many milliseconds.
abbrev pub rate_of : ℕ → ℕ → ℕ
rate_of count millis = count / 1024 * 1000 / max millis 1

-- An empty line: a carriage return, and ESC [ K.
abbrev pub empty_line : List ℕ
empty_line = 13 ∷ 27 ∷ 91 ∷ 75 ∷ []

-- ESC [ ? 7 l, after which no character wraps to the terminal's next row.
abbrev pub one_row : List ℕ
one_row = 27 ∷ 91 ∷ 63 ∷ 55 ∷ 108 ∷ []

-- ESC [ ? 7 h, after which characters wrap again, and a carriage return.
abbrev pub row_end : List ℕ
row_end = 27 ∷ 91 ∷ 63 ∷ 55 ∷ 104 ∷ 13 ∷ []

-- A count in MiB and a rate in MiB per second, on an empty line of one row.
abbrev pub rate_text : ℕ → ℕ → List ℕ
rate_text count rate =
    concat (empty_line ∷ one_row ∷ decimal (count / 1048576) ∷ codes " MiB, " ∷ decimal (rate / 1024)
    ∷ codes " MiB/s" ∷ [])

-- The remaining seconds at this rate. Empty if the size is unknown or the rate is 0.
abbrev pub left_text : Option ℕ → ℕ → ℕ → List ℕ
left_text None count rate = []
left_text (Some size) count rate =
    if nat_lt 0 rate then codes ", " ++ decimal ((size - count) / 1024 / rate) ++ codes " s left" else []

abbrev pub line_text : Option ℕ → ℕ → ℕ → List ℕ
line_text size count rate = (rate_text count rate ++ left_text size count rate) ++ row_end

-- The line of a count, if it has reached a multiple of 64 MiB since the count before. Otherwise empty.
abbrev pub progress_line : Option ℕ → ℕ → ℕ → ℕ → List ℕ
progress_line size millis before count =
    if nat_lt (before / 67108864) (count / 67108864) then line_text size count (rate_of count millis) else []

-- The bytes that clear the line. Empty if this count had no line.
abbrev pub cleared : ℕ → List ℕ
cleared count = if nat_lt count 67108864 then [] else empty_line

-- The output for a read of `count` bytes: its line, or, at the end, the bytes that clear the last line.
abbrev pub shown_text : Bool → Option ℕ → ℕ → ℕ → ℕ → List ℕ
shown_text false size millis before count = []
shown_text true size millis before count =
    if nat_eq count 0 then cleared before else progress_line size millis before (count_after before count)

-- A read of `count` bytes was counted, and shown at the time `now`. If it is off, nothing was written.
abbrev pub Shows : {E : Type 0} → SinkRules E → ℕ → ℕ → Progress E → Progress E → Type 0
Shows reporting count now old new =
    (is_shown new ≡ is_shown old) × (bytes_expected new ≡ bytes_expected old) × (begun new ≡ begun old)
    × (bytes_read new ≡ count_after (bytes_read old) count)
    × (is_shown old ≡ false → end_of new ≡ end_of old)
    × Eprints reporting (shown_text (is_shown old) (bytes_expected old) (now - begun old) (bytes_read old) count)
    (end_of old) (end_of new)

-- A read was shown, at some time.
abbrev pub ShowsSometime : {E : Type 0} → SinkRules E → ℕ → Progress E → Progress E → Type 0
ShowsSometime reporting count old new = (now : ℕ) × Shows reporting count now old new
