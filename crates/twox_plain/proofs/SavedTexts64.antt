-- Lemmas on the text and the value of a record of XXH64, and on reading the record back.
use Rattle.twox_plain.proofs.Prelude.{◌<◌, ◌^◌, ◌≡◌, ◌≤◌, Some, bytes_data, bytes_of_data, compact_text, core_data, core_of_data, depth, false, has_float, max_depth, record_data, record_of_data, saved_text}
use Rattle.twox_plain.specs.declared.xxhash64.Core.{Core}
use Rattle.twox_plain.specs.declared.xxhash64.SavedState.{SavedState}
use Rattle.twox_plain.proofs.SavedTexts

pub has_no_float : (s : SavedState) → has_float (record_data s) ≡ false
has_no_float s = SavedTexts.has_no_float s.total_len s.seed s.core.v1 s.core.v2 s.core.v3 s.core.v4 s.buffer s.buffer_usage

pub shallow : (s : SavedState) → depth (record_data s) ≤ max_depth
shallow s = SavedTexts.shallow s.total_len s.seed s.core.v1 s.core.v2 s.core.v3 s.core.v4 s.buffer s.buffer_usage

pub compact_text-record_data : (s : SavedState) → compact_text (record_data s) ≡ saved_text s
compact_text-record_data s = SavedTexts.compact_text-record_data s.total_len s.seed s.core.v1 s.core.v2 s.core.v3 s.core.v4 s.buffer s.buffer_usage

pub core_of_data-core_data : (c : Core) → c.v1 < 2 ^ 64 → c.v2 < 2 ^ 64 → c.v3 < 2 ^ 64 → c.v4 < 2 ^ 64 → core_of_data (core_data c) ≡ Some c
core_of_data-core_data c = SavedTexts.core_of_data-core_data (2 ^ 64) (λ a b c d. record { v1 = a; v2 = b; v3 = c; v4 = d }) c.v1 c.v2 c.v3 c.v4

pub record_of_data-record_data : (s : SavedState) → bytes_of_data 32 (bytes_data s.buffer) ≡ Some s.buffer → core_of_data (core_data s.core) ≡ Some s.core
    → s.buffer_usage < 2 ^ 64 → s.seed < 2 ^ 64 → s.total_len < 2 ^ 64 → record_of_data (record_data s) ≡ Some s
record_of_data-record_data s =
    SavedTexts.record_of_data-record_data (2 ^ 64) 32 core_of_data
    (λ total_len seed core buffer usage. record { total_len = total_len; seed = seed; core = core; buffer = buffer; buffer_usage = usage })
    s.total_len s.seed s.core (core_data s.core) s.buffer s.buffer_usage
