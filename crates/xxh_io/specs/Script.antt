-- What clauses read of the streams in memory.
use Rattle.std.specs.Prelude.{◌≡◌, ◌≢◌, ℕ, codes, false, ◌⊎◌, ◌+◌, ◌-◌, ◌^◌, ◌<◌, min, List, [], ◌++◌, drop, take, length, slice_index}
use Rattle.xxh_io.specs.Rules.{SourceRules, SinkRules}
use Rattle.xxh_io.specs.declared.script_source.ScriptSource.{ScriptSource}
use Rattle.xxh_io.specs.declared.script_source.SliceSource.{SliceSource}
use Rattle.xxh_io.specs.declared.script_sink.ScriptSink.{ScriptSink}

-- the number of reads or writes after one more
abbrev pub counted : ℕ → ℕ
counted n = min (n + 1) (2 ^ 64 - 1)

-- ---- a source that follows a script

-- the remaining bytes
abbrev pub script_rest : ScriptSource → List ℕ
script_rest s = drop s.at s.bytes.now

-- its sizes, the read that fails, and the number of reads
abbrev pub script_sizes : ScriptSource → List ℕ
script_sizes s = s.sizes.now

abbrev pub script_fail_at : ScriptSource → ℕ
script_fail_at s = s.fail_at

abbrev pub script_reads : ScriptSource → ℕ
script_reads s = s.reads

-- the number of bytes that the next read returns for a buffer of this size
abbrev pub next_size : ScriptSource → ℕ → ℕ
next_size s offered =
    min (slice_index (script_sizes s) (script_reads s)) (min (length (script_rest s)) offered)

-- a read that was counted, by the same script
abbrev pub IsNextRead : ScriptSource → ScriptSource → Type 0
IsNextRead old new =
    (script_reads new ≡ counted (script_reads old))
    × (script_sizes new ≡ script_sizes old)
    × (script_fail_at new ≡ script_fail_at old)

-- a read returns the next bytes, as many as the script has for some buffer
abbrev pub ScriptGives : ScriptSource → List ℕ → ScriptSource → Type 0
ScriptGives old piece new =
    (script_rest old ≡ piece ++ script_rest new)
    × ((offered : ℕ) × (0 < offered) × (length piece ≡ next_size old offered))
    × (counted (script_reads old) ≢ script_fail_at old)
    × IsNextRead old new

-- a failing read is the one that the script names, and returns nothing
abbrev pub ScriptFails : ScriptSource → ScriptSource → Type 0
ScriptFails old new =
    (script_rest new ≡ script_rest old)
    × (counted (script_reads old) ≡ script_fail_at old)
    × IsNextRead old new

-- the message for the read that fails
abbrev pub script_reason : List ℕ
script_reason = codes "Input/output error"

-- ---- a source of a slice

-- the remaining bytes
abbrev pub slice_rest : SliceSource → List ℕ
slice_rest s = s.rest.now

-- a read returns the next bytes, and none only at their end
abbrev pub SliceGives : SliceSource → List ℕ → SliceSource → Type 0
SliceGives old piece new =
    (slice_rest old ≡ piece ++ slice_rest new) × (length piece ≡ 0 → slice_rest new ≡ [])

-- its rules: no read fails
abbrev pub slice_reading : SourceRules SliceSource
slice_reading = record { has_failed = λ _. false; gives = SliceGives; fails = λ _ _. ⊥; reason = λ _. [] }

-- ---- a sink that follows a script

-- the bytes that were taken
abbrev pub sink_bytes : {N : ℕ} → ScriptSink N → List ℕ
sink_bytes s = take s.len s.bytes

-- how many bytes it takes at once, the write that fails, and the number of writes
abbrev pub sink_take : {N : ℕ} → ScriptSink N → ℕ
sink_take s = s.take

abbrev pub sink_fail_at : {N : ℕ} → ScriptSink N → ℕ
sink_fail_at s = s.fail_at

abbrev pub sink_writes : {N : ℕ} → ScriptSink N → ℕ
sink_writes s = s.writes

-- a write that was counted, by the same script
abbrev pub IsNextWrite : {N : ℕ} → ScriptSink N → ScriptSink N → Type 0
IsNextWrite old new =
    (sink_writes new ≡ counted (sink_writes old))
    × (sink_take new ≡ sink_take old)
    × (sink_fail_at new ≡ sink_fail_at old)

-- a write appends a chunk to the others: as many bytes as the script has for those passed
abbrev pub ScriptTakes : {N : ℕ} → ScriptSink N → List ℕ → ScriptSink N → Type 0
ScriptTakes {N} old piece new =
    (sink_bytes new ≡ sink_bytes old ++ piece)
    × ((brought : ℕ)
    × (length piece ≡ min (sink_take old) (min brought (N - length (sink_bytes old)))))
    × (counted (sink_writes old) ≢ sink_fail_at old)
    × IsNextWrite old new

-- a failing write is the one that the script names, or is made to a full sink, and takes nothing
abbrev pub ScriptRefuses : {N : ℕ} → ScriptSink N → ScriptSink N → Type 0
ScriptRefuses {N} old new =
    (sink_bytes new ≡ sink_bytes old)
    × ((counted (sink_writes old) ≡ sink_fail_at old) ⊎ (length (sink_bytes old) ≡ N))
    × IsNextWrite old new

-- its rules
abbrev pub script_writing : {N : ℕ} → SinkRules (ScriptSink N)
script_writing = record { has_failed = λ s. s.failed; takes = ScriptTakes; refuses = ScriptRefuses }
