-- Lemmas on reads from a slice and writes to a sink that follows a script.
use Rattle.std.proofs.Common.{◌≡◌, ℕ, inl, inr, ◌+◌, ◌<◌, ◌≤◌, List, [], ◌∷◌, ◌++◌, length, refl, sym, ap, ◌∙◌, append-nil, append_assoc, length-append, arith, Ok, Err, Result}
use Rattle.std.specs.List.{concat}
use Rattle.xxh_io.specs.declared.digest_error.DigestError.{DigestError}
use Rattle.xxh_io.specs.declared.digest_error.DigestError.TheVariants.{ReadFailed, WriteFailed, TooLong}
use Rattle.xxh_io.specs.declared.script_source.SliceSource.{SliceSource}
use Rattle.xxh_io.specs.declared.script_sink.ScriptSink.{ScriptSink}
use Rattle.xxh_io.specs.Pieces.{Pieces, NoneEmpty}
use Rattle.xxh_io.specs.Digest.{ReadsOn, Refused, Writes}
use Rattle.xxh_io.specs.Script.{counted, slice_rest, sink_bytes, sink_fail_at, sink_writes, SliceGives, ScriptTakes, script_writing, slice_reading}

-- ---- reads

-- Lemma: the bytes before the reads are the chunks, joined, followed by the bytes that remain.
pub slice-pieces : (old new : SliceSource) (pieces : List (List ℕ)) → Pieces SliceGives old pieces new → slice_rest old ≡ concat pieces ++ slice_rest new
slice-pieces old new [] led = ap slice_rest (sym led)
slice-pieces old new (p ∷ ps) led = led.1.0 ∙ ap (λ rest. p ++ rest) (slice-pieces led.0 new ps led.2) ∙ sym (append_assoc p (concat ps) (slice_rest new))

-- Lemma: the chunks before an empty chunk, joined, are all the bytes.
pub slice-end : (old new : SliceSource) (pieces : List (List ℕ)) → Pieces SliceGives old (pieces ++ [] ∷ []) new → concat pieces ≡ slice_rest old
slice-end old new [] led = sym (led.1.0 ∙ led.1.1 refl)
slice-end old new (p ∷ ps) led = ap (λ rest. p ++ rest) (slice-end led.0 new ps led.2) ∙ sym led.1.0

count-pieces : (pieces : List (List ℕ)) → NoneEmpty pieces → length pieces ≤ length (concat pieces)
count-pieces [] some = omega arith
count-pieces (p ∷ ps) some = simp length-append (omega (arith, some.0, count-pieces ps some.1))

never-too-long : (old new : SliceSource) (pieces : List (List ℕ)) → NoneEmpty pieces → Pieces SliceGives old pieces new → length pieces ≤ length (slice_rest old)
never-too-long old new pieces some led =
    let all : length (slice_rest old) ≡ length (concat pieces) + length (slice_rest new) = ap length (slice-pieces old new pieces led) ∙ length-append (concat pieces) (slice_rest new) in
    omega (arith, all, count-pieces pieces some)

-- ---- writes

sink-pieces : {N : ℕ} (old new : ScriptSink N) (pieces : List (List ℕ)) → Pieces ScriptTakes old pieces new → (sink_bytes new ≡ sink_bytes old ++ concat pieces) × (sink_fail_at new ≡ sink_fail_at old)
sink-pieces old new [] led = (ap sink_bytes led ∙ sym (append-nil (sink_bytes old)), ap sink_fail_at led)
sink-pieces old new (p ∷ ps) led =
    let rest = sink-pieces led.0 new ps led.2 in
    (rest.0 ∙ ap (λ bytes. bytes ++ concat ps) led.1.0 ∙ append_assoc (sink_bytes old) p (concat ps), rest.1 ∙ led.1.3.2)

-- Lemma: a line is never refused if the script fails no write and the line fits in the rest of the sink.
never-refused : {N : ℕ} (line : List ℕ) (old new : ScriptSink N) → sink_fail_at old ≡ 0 → length (sink_bytes old) + length line ≤ N → Refused script_writing line old new → ⊥
never-refused {N} line old new never room refused =
    let taken = refused.0 in
    let met = refused.1 in
    let so_far = sink-pieces old met taken refused.2 in
    let size : length line ≡ length (concat taken) + length refused.4.0 = ap length refused.4.1 ∙ length-append (concat taken) refused.4.0 in
    let there : length (sink_bytes met) ≡ length (sink_bytes old) + length (concat taken) = ap length so_far.0 ∙ length-append (sink_bytes old) (concat taken) in
    elim refused.3.1 [
      | inl fails ↦ let none : counted (sink_writes met) ≡ 0 = fails ∙ so_far.1 ∙ never in absurd (omega (arith, none))
      | inr full ↦ absurd (omega (arith, size, there, full, room, refused.4.2))
    ]

-- ---- the result

pub always-ok : {N : ℕ} (max_reads : ℕ) (pieces : List (List ℕ)) (line : List ℕ) (r_old r_new : SliceSource) (w_old w_new : ScriptSink N) (result : Result (Unit {0}) DigestError) → NoneEmpty pieces → length (slice_rest r_old) < max_reads → sink_fail_at w_old ≡ 0 → length (sink_bytes w_old) + length line ≤ N → ReadsOn slice_reading max_reads pieces r_old r_new result → Writes script_writing line w_old w_new result → result ≡ Ok tt
always-ok max_reads pieces line r_old r_new w_old w_new (Ok x) some enough never room read wrote = refl
always-ok max_reads pieces line r_old r_new w_old w_new (Err ReadFailed) some enough never room read wrote = absurd read.1.2
always-ok max_reads pieces line r_old r_new w_old w_new (Err WriteFailed) some enough never room read wrote = absurd (never-refused line w_old w_new never room wrote)
always-ok max_reads pieces line r_old r_new w_old w_new (Err TooLong) some enough never room read wrote = absurd (omega (arith, read.0, enough, never-too-long r_old r_new pieces some read.1))

pub read-all : (max_reads : ℕ) (pieces : List (List ℕ)) (old new : SliceSource) (result : Result (Unit {0}) DigestError) → result ≡ Ok tt → ReadsOn slice_reading max_reads pieces old new result → concat pieces ≡ slice_rest old
read-all max_reads pieces old new (Ok x) is read = slice-end old new pieces read.1
read-all max_reads pieces old new (Err e) is read = cc

pub wrote-all : {N : ℕ} (line : List ℕ) (old new : ScriptSink N) (result : Result (Unit {0}) DigestError) → result ≡ Ok tt → Writes script_writing line old new result → sink_bytes new ≡ sink_bytes old ++ line
wrote-all line old new (Ok x) is wrote = (sink-pieces old new wrote.0 wrote.1).0 ∙ ap (λ bytes. sink_bytes old ++ bytes) wrote.2
wrote-all line old new (Err e) is wrote = cc
