-- Lemmas on the state of a stream that may have only its bytes.
use Rattle.std.proofs.Common.{◌≡◌, ℕ, Option, Some, None, ◌+◌, ◌-◌, ◌^◌, ◌<◌, ◌≤◌, min, nat_le, true, List, [], ◌++◌, length, take, drop, replicate, refl, sym, ap, ◌∙◌, arith, length-append, length-drop}
use Rattle.twox_core.proofs.Prelude.{CoreState, nat_tests, short_secret, stream_seed, stripes_of}
use Rattle.std.proofs.lemmas.List.{append_assoc, drop-drop, drop_at, take_at, length-take-le}
use Rattle.twox_core.specs.AfterWrite.{empty_state, no_bytes, state_after_write, state_over, with_buffered, with_longer_length}
use Rattle.twox_core.specs.Finish.{state_finish}
use Rattle.twox_core.specs.InRange.{IsInRange}
use Rattle.twox_core.specs.Secret.{default_secret, derived_secret}
use Rattle.twox_core.proofs.DerivedFacts.{derived_pairs-length}
use Rattle.twox_core.specs.StreamState.{short_state, state_in, state_of}
use Rattle.twox_core.specs.declared.xxhash3.streaming.stream_state.StreamState.{StreamState}

-- a chunk that fits
fitted : (s : List ℕ) (c : CoreState) (d : List ℕ) → c.counts.buffer_usage + length d ≤ length c.buffer → state_after_write s c d ≡ with_buffered (with_longer_length c d) d
unfolding state_after_write
fitted s c d fits =
    let test : nat_le (length d) (length c.buffer - c.counts.buffer_usage) ≡ true = grind (arith, nat_tests, fits) in
    rw test refl

abbrev short_form : List ℕ → CoreState
short_form m = state_over (record no_bytes { buffer_usage = length m; total_bytes = length m }) (m ++ drop (length m) (replicate 512 0))

-- the size of its buffer
form_size : (m : List ℕ) → length m ≤ 512 → length (m ++ drop (length m) (replicate 512 0)) ≡ 512
form_size m few =
    let z : List ℕ = replicate 512 0 in
    let whole : length z ≡ 512 = refl in
    omega (arith, few, length-append m (drop (length m) z), length-drop (length m) z, whole)

form : (s m : List ℕ) → length m ≤ 512 → state_after_write s empty_state m ≡ short_form m
form s m few =
    let used : 0 + length m ≡ length m = omega arith in
    let total : min (0 + length m) (2 ^ 64 - 1) ≡ length m = omega (arith, few) in
    let z : List ℕ = replicate 512 0 in
    let whole : length z ≡ 512 = refl in
    fitted s empty_state m (omega (arith, few, whole)) ∙ rw (total, used) refl

form_more : (s m d : List ℕ) → length m + length d ≤ 512 → state_after_write s (short_form m) d ≡ short_form (m ++ d)
form_more s m d few =
    let z = replicate 512 0 in
    let rest = drop (length m) z in
    let front : take (length m) (m ++ rest) ≡ m = take_at m rest (length m) refl in
    let back : drop (length m) (m ++ rest) ≡ rest = drop_at m rest (length m) refl in
    let far : drop (length d) rest ≡ drop (length m + length d) z = drop-drop (length d) (length m) z in
    let width : length (m ++ d) ≡ length m + length d = length-append m d in
    let total : min (length m + length d) (2 ^ 64 - 1) ≡ length m + length d = omega (arith, few) in
    let joined : (m ++ d) ++ drop (length m + length d) z ≡ m ++ (d ++ drop (length m + length d) z) = append_assoc m d (drop (length m + length d) z) in
    fitted s (short_form m) d (omega (arith, few, form_size m (omega (arith, few)))) ∙ rw (front, back, far, width, total, joined) refl

-- Lemma: bytes that fit the buffer of an empty state have this effect under any secret.
pub short_any : (s m : List ℕ) → length m ≤ 512 → state_after_write s empty_state m ≡ short_state m
unfolding short_state
short_any s m few = form s m few ∙ sym (form [] m few)

-- Lemma: a chunk after bytes that it fits the buffer with.
pub short_more : (s m d : List ℕ) → length m + length d ≤ 512 → short_state (m ++ d) ≡ state_after_write s (short_state m) d
unfolding short_state
short_more s m d few =
    form [] (m ++ d) (omega (arith, few, length-append m d))
    ∙ sym (form_more s m d few)
    ∙ ap (λ c. state_after_write s c d) (sym (form [] m (omega (arith, few))))

pub short_none : short_state [] ≡ empty_state
unfolding short_state
short_none = form [] [] (omega arith)

pub short_range : (s m : List ℕ) → 0 < stripes_of s → length m ≤ 512 → IsInRange s (short_state m)
unfolding short_state
short_range s m some few = rw (form [] m few) (record { place = some; within = few; left = omega arith })

pub short_finish : {R : Type 0} (small : List ℕ → ℕ → List ℕ → R) (large : List ℕ → List ℕ → List ℕ → List ℕ → ℕ → R) (seed : Option ℕ) (s m : List ℕ)
    → length m ≤ 240 → state_finish small large seed s (short_state m) ≡ small (short_secret seed s) (stream_seed seed) m
unfolding short_state state_finish
short_finish small large seed s m few =
    let test : nat_le (length m) 240 ≡ true = grind (arith, nat_tests, few) in
    let bytes : take (length m) (m ++ drop (length m) (replicate 512 0)) ≡ m = take_at m (drop (length m) (replicate 512 0)) (length m) refl in
    rw (form [] m (omega (arith, few)), test, bytes) refl

pub short_size : (m : List ℕ) → length m ≤ 512 → length (short_state m).buffer ≡ 512
unfolding short_state
short_size m few = rw (form [] m few) (form_size m few)

-- Lemma: with a longer state, that is the state.
pub state_of_long : (t : StreamState) (c : CoreState) → t.long ≡ Some c → state_of t ≡ c
unfolding state_of state_in
state_of_long t c some = rw some refl

-- Lemma: without one, the state is that of the bytes.
pub state_of_short : (t : StreamState) → t.long ≡ None → state_of t ≡ short_state (take t.used t.short)
unfolding state_of state_in
state_of_short t none = rw none refl

-- Lemma: the state after a chunk that is put after the bytes.
pub short_kept : (t new : StreamState) (s d : List ℕ) → t.long ≡ None → new.long ≡ None → t.used ≤ 128 → length t.short ≡ 128 → length d ≤ 128
    → take new.used new.short ≡ take t.used t.short ++ d → state_of new ≡ state_after_write s (state_of t) d
short_kept t new s d none still few size short bytes =
    let width = length-take-le t.used t.short (omega (arith, few, size)) in
    state_of_short new still
    ∙ ap short_state bytes
    ∙ short_more s (take t.used t.short) d (omega (arith, width, few, short))
    ∙ ap (λ c. state_after_write s c d) (sym (state_of_short t none))

-- Lemma: a state of a few bytes is in range.
pub short_stays : (t new : StreamState) (s d : List ℕ) → new.long ≡ None → t.used ≤ 128 → length t.short ≡ 128 → length d ≤ 128
    → take new.used new.short ≡ take t.used t.short ++ d → IsInRange s (state_of t) → IsInRange s (state_of new)
short_stays t new s d still few size short bytes range =
    let width = length-take-le t.used t.short (omega (arith, few, size)) in
    let long = length-append (take t.used t.short) d in
    rw (state_of_short new still, bytes) (short_range s (take t.used t.short ++ d) (omega (arith, range.place)) (omega (arith, width, long, few, short)))

pub state_size-short : (t : StreamState) → t.long ≡ None → t.used ≤ 128 → length t.short ≡ 128 → length (state_of t).buffer ≡ 512
state_size-short t none few size =
    rw (state_of_short t none) (short_size (take t.used t.short) (omega (arith, few, size, length-take-le t.used t.short (omega (arith, few, size)))))

pub state_size-long : (t : StreamState) (c : CoreState) → t.long ≡ Some c → length c.buffer ≡ 512 → length (state_of t).buffer ≡ 512
state_size-long t c some size = rw (state_of_long t c some) size

pub empty_range : (s : List ℕ) → 136 ≤ length s → IsInRange s empty_state
empty_range s long = record { place = omega (arith, long); within = omega arith; left = omega arith }

pub derived_secret-length : (seed : ℕ) → length (derived_secret seed) ≡ 192
unfolding derived_secret
derived_secret-length seed = omega (arith, derived_pairs-length seed default_secret 12)
