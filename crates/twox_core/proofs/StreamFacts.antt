-- Lemmas on streams: a stream represents the concatenation of its chunks.
use Rattle.std.proofs.Common.{◌≡◌, ℕ, Option, zero, suc, ◌+◌, ◌-◌, ◌*◌, ◌/◌, ◌%◌, ◌^◌, ◌<◌, ◌≤◌, min, nat_le, nat_lt, if◌then◌else◌, Bool, true, false, List, [], ◌++◌, length, take, drop, replicate, refl, sym, ap, ◌∙◌, arith, length-append, length-drop}
use Rattle.twox_core.proofs.Prelude.{CoreState, CoreView, StreamKey, TakenStripes, buffered_of, counted, done_of, nat_tests, short_secret, stream_seed, stripes_of, take-append-add, total_of}
use Rattle.std.proofs.lemmas.List.{append-nil, append_assoc, drop-append-le, drop-drop, drop-take, drop_all, drop_at, take_at, length-take-le, take-append-drop, take-append-le, take_all}
use Rattle.std.proofs.lemmas.Slice.{drop-append-drop}
use Rattle.twox_core.specs.Parts.{stripe_at}
use Rattle.twox_core.specs.Ending.{accumulators_after, stream_accumulators, stream_block, last_stripe}
use Rattle.twox_core.specs.AfterWrite.{after_taking, empty_state, no_bytes, state_over, stripes_in_place, after_rest, after_long_piece, state_after_write, core_after_write}
use Rattle.twox_core.specs.Finish.{last_bytes, buffered_bytes, stripes_left, end_accumulators, end_block, state_finish, core_finish}
use Rattle.twox_core.specs.Represents.{Holds, LeavesLast, Follows, Represents, IsCopy}
use Rattle.twox_core.proofs.StripeFacts.{folded_more}
use Rattle.twox_core.proofs.TakenFacts.{took_none, took_longer, took_more}

-- ---- a chunk that fits the buffer

holds_added : (s m d b : List ℕ) (k u : ℕ) (t : TakenStripes) → Holds s m k t b u → u + length d ≤ length b
    → Holds s (m ++ d) k t (take u b ++ (d ++ drop (length d) (drop u b))) (u + length d)
holds_added s m d b k u t held fits =
    let all = held.all in
    let front : length (take u b) ≡ u = length-take-le u b (omega arith) in
    let placed : take (length (take u b) + length d) (take u b ++ (d ++ drop (length d) (drop u b))) ≡ take u b ++ d =
    take-append-add (take u b) (d ++ drop (length d) (drop u b)) (length d) ∙ ap (λ (x : List ℕ). take u b ++ x) (take_at d (drop (length d) (drop u b)) (length d) refl) in
    record {
      taken = took_longer s m d k t held.taken (omega arith);
      all = omega (arith, length-append m d);
      bytes = rw front at placed ∙ ap (λ (x : List ℕ). x ++ d) held.bytes ∙ sym (drop-append-le (64 * k) m d (omega arith));
    }

-- ---- buffered bytes that are whole stripes

holds_emptied : (s m b : List ℕ) (k u : ℕ) (t : TakenStripes) → 0 < stripes_of s → Holds s m k t b u → u ≤ length b → 64 * (u / 64) ≡ u
    → Holds s m (k + u / 64) (after_taking s t (take u b) (u / 64)) b 0
holds_emptied s m b k u t some held fits whole =
    let all = held.all in
    record {
      taken = took_more s m (take u b) [] k (u / 64) t some held.taken (sym held.bytes ∙ sym (append-nil (take u b))) (omega (arith, length-take-le u b fits));
      all = omega arith;
      bytes = sym (drop_all (64 * (k + u / 64)) m (omega arith));
    }

-- ---- bytes written to an empty buffer

holds_rest : (s m r b : List ℕ) (k n : ℕ) (t : TakenStripes) → 0 < stripes_of s → Holds s m k t b 0 → n ≡ stripes_in_place (length r)
    → Holds s (m ++ r) (k + n) (after_taking s t r n) (drop (64 * n) r ++ drop (length r - 64 * n) b) (length r - 64 * n)
holds_rest s m r b k n t some held count =
    let all = held.all in
    let here : drop (64 * k) (m ++ r) ≡ r = drop_at m r (64 * k) (omega arith) in
    let left : length (drop (64 * n) r) ≡ length r - 64 * n = length-drop (64 * n) r in
    let place : 64 * (k + n) ≡ 64 * k + 64 * n = omega arith in
    record {
      taken = took_more s (m ++ r) r [] k n t some (took_longer s m r k t held.taken (omega arith)) (here ∙ sym (append-nil r)) (omega arith);
      all = omega (arith, length-append m r);
      bytes =
          take_at (drop (64 * n) r) (drop (length r - 64 * n) b) (length r - 64 * n) left
          ∙ rw place (ap (drop (64 * n)) (sym here) ∙ drop-drop (64 * n) (64 * k) (m ++ r));
    }

-- ---- a write

counted_more : (t n : ℕ) (m d : List ℕ) → t ≡ counted (length m) → n ≡ min (t + length d) (2 ^ 64 - 1) → n ≡ counted (length (m ++ d))
counted_more t n m d count sum = omega (arith, length-append m d)

-- Lemma: bytes appended to m don't change a whole stripe of it.
stripe_longer : (m d : List ℕ) (i : ℕ) → i + 64 ≤ length m → stripe_at (m ++ d) i ≡ stripe_at m i
stripe_longer m d i fits = rw (drop-append-le i m d (omega arith)) (take-append-le 64 (drop i m) d (omega (arith, length-drop i m)))

written_length : (b d : List ℕ) (u : ℕ) → u + length d ≤ length b → length (take u b ++ (d ++ drop (length d) (drop u b))) ≡ length b
written_length b d u fits =
    omega (arith, length-append (take u b) (d ++ drop (length d) (drop u b)), length-append d (drop (length d) (drop u b)), length-take-le u b (omega arith), length-drop (length d) (drop u b), length-drop u b)

-- Lemma: bytes written before the buffer's last stripe leave it.
end_stays : (b d : List ℕ) (u : ℕ) → 64 ≤ length b → u + length d ≤ length b - 64
    → drop (length b - 64) (take u b ++ (d ++ drop (length d) (drop u b))) ≡ drop (length b - 64) b
end_stays b d u some fits =
    let written : take u b ++ (d ++ drop (length d) (drop u b)) ≡ (take u b ++ d) ++ drop (u + length d) b =
    ap (λ (x : List ℕ). take u b ++ (d ++ x)) (drop-drop (length d) u b) ∙ sym (append_assoc (take u b) d (drop (u + length d) b)) in
    rw written (drop-append-drop (u + length d) b (take u b ++ d) (length b - 64) fits (omega (arith, length-append (take u b) d, length-take-le u b (omega arith))))

late_more : (m d b : List ℕ) (k u : ℕ) → LeavesLast m k b u → 240 < length b → u + length d ≤ length b → 64 * k ≤ length m
    → LeavesLast (m ++ d) k (take u b ++ (d ++ drop (length d) (drop u b))) (u + length d)
late_more m d b k u late enough within fits = record {
  left = λ some. omega (arith, late.left some);
  long = λ some. omega (arith, late.long some, length-append m d);
  last = λ some few. rw (written_length b d u within) (end_stays b d u (omega arith) (omega arith) ∙ late.last some (omega arith) ∙ sym (stripe_longer m d (64 * k - 64) (omega arith)));
}

-- Lemma: where fewer than 64 bytes begin the buffer again, it was full, and its last stripe is the last taken.
late_again : (m r b : List ℕ) (k w : ℕ) → length b ≡ 64 * w → 1 < w → length r < 64 → 64 * k + length b ≡ length m → b ≡ drop (64 * k) m
    → drop (length (r ++ drop (length r) b) - 64) (r ++ drop (length r) b) ≡ stripe_at (m ++ r) (64 * (k + w) - 64)
late_again m r b k w size some few full bytes =
    let place : 64 * k + (length b - 64) ≡ 64 * (k + w) - 64 = omega (arith, size) in
    let same : length (r ++ drop (length r) b) ≡ length b = omega (arith, length-append r (drop (length r) b), length-drop (length r) b, size) in
    let end : drop (length b - 64) b ≡ drop (64 * k + (length b - 64)) m = ap (drop (length b - 64)) bytes ∙ drop-drop (length b - 64) (64 * k) m in
    let whole : length (drop (64 * k + (length b - 64)) m) ≡ 64 = omega (arith, length-drop (64 * k + (length b - 64)) m, size) in
    rw same (
    drop-append-drop (length r) b r (length b - 64) (omega (arith, size)) refl
    ∙ end
    ∙ sym (take_all 64 (drop (64 * k + (length b - 64)) m) (omega (arith, whole)))
    ∙ ap (stripe_at m) place
    ∙ sym (stripe_longer m r (64 * (k + w) - 64) (omega (arith, size)))
    )

written_in : (b : Bool) (s m d : List ℕ) (c : CoreState) → nat_le (length d) (length c.buffer - c.counts.buffer_usage) ≡ b → 0 < stripes_of s → (length c.buffer) % 64 ≡ 0 → 240 < length c.buffer → c.counts.buffer_usage ≤ length c.buffer
    → Follows s c m → Follows s (state_after_write s c d) (m ++ d)
unfolding Follows state_after_write after_long_piece after_rest
written_in true s m d c e some size enough within held =
    let fits : length d ≤ length c.buffer - c.counts.buffer_usage = grind (arith, nat_tests, e) in
    rw e (
      held.0,
      counted_more c.counts.total_bytes _ m d held.1 refl,
      late_more m d c.buffer held.0 c.counts.buffer_usage held.2 enough (omega arith) (omega (arith, held.3.all)),
      holds_added s m d c.buffer held.0 c.counts.buffer_usage c.counts.taken held.3 (omega arith),
    )
written_in false s m d c e some size enough within held =
    let more : length c.buffer - c.counts.buffer_usage < length d = grind (arith, nat_tests, e) in
    let u = c.counts.buffer_usage in
    let k = held.0 in
    let part = (64 - u % 64) % 64 in
    let head = take part d in
    let rest = drop part d in
    let n = stripes_in_place (length rest) in
    let all = held.3.all in
    let width : length head ≡ part = length-take-le part d (omega arith) in
    let left : length rest ≡ length d - part = length-drop part d in
    let whole : 64 * ((u + length head) / 64) ≡ u + length head = omega arith in
    let fits : u + length head ≤ length c.buffer = omega arith in
    let buffer = take u c.buffer ++ (head ++ drop (length head) (drop u c.buffer)) in
    let wide : length buffer ≡ length c.buffer = written_length c.buffer head u fits in
    let filled = holds_added s m head c.buffer k u c.counts.taken held.3 fits in
    let taken = holds_rest s (m ++ head) rest buffer (k + (u + length head) / 64) n _ some (holds_emptied s (m ++ head) buffer k (u + length head) c.counts.taken some filled (omega arith) whole) refl in
    let joined : (m ++ head) ++ rest ≡ m ++ d = append_assoc m head rest ∙ ap (λ (x : List ℕ). m ++ x) (take-append-drop part d) in
    let again = drop (64 * n) rest ++ drop (length rest - 64 * n) buffer in
    let last : length rest - 64 * n < 64 → drop (length again - 64) again ≡ stripe_at (m ++ d) (64 * (k + (u + length head) / 64 + n) - 64) =
    λ few.
    let start : 64 * n ≡ 0 = omega arith in
    let entire : length rest - 64 * n ≡ length rest = omega arith in
    let full : u + length head ≡ length c.buffer = omega arith in
    let w = length c.buffer / 64 in
    let count : k + (u + length head) / 64 + n ≡ k + w = omega arith in
    let bytes : buffer ≡ drop (64 * k) (m ++ head) = sym (take_all (u + length head) buffer (omega arith)) ∙ filled.bytes in
    rw (count, entire, start) (late_again (m ++ head) rest buffer k w (omega arith) (omega arith) (omega arith) (omega (arith, filled.all)) bytes ∙ ap (λ (x : List ℕ). stripe_at x (64 * (k + w) - 64)) joined) in
    rw e (
      k + (u + length head) / 64 + n,
      counted_more c.counts.total_bytes _ m d held.1 refl,
      record { left = λ _. omega arith; long = λ _. omega (arith, length-append m d); last = λ _ few. last few },
      rw joined at taken,
    )

written_follows : (s m d : List ℕ) (c : CoreState) → 0 < stripes_of s → (length c.buffer) % 64 ≡ 0 → 240 < length c.buffer → c.counts.buffer_usage ≤ length c.buffer
    → Follows s c m → Follows s (state_after_write s c d) (m ++ d)
written_follows s m d c some size enough within held = written_in (nat_le (length d) (length c.buffer - c.counts.buffer_usage)) s m d c refl some size enough within held

-- ---- the end of a stream

no_stripes : (k n : ℕ) → (0 < k → 240 < n) → n ≤ 240 → k ≡ 0
no_stripes zero n late short = refl
no_stripes (suc k) n late short = absurd (omega (arith, late (omega arith)))

some_left : (k u : ℕ) → (0 < k → 0 < u) → 0 < 64 * k + u → 0 < u
some_left zero u left long = omega arith
some_left (suc k) u left long = left (omega arith)

follows_count : (s m : List ℕ) (c : CoreState) → Follows s c m → c.counts.total_bytes ≡ counted (length m)
unfolding Follows
follows_count s m c held = held.1

short_bytes : (s m : List ℕ) (c : CoreState) → Follows s c m → length m ≤ 240 → take c.counts.total_bytes c.buffer ≡ m
unfolding Follows
short_bytes s m c held short =
    let none : held.0 ≡ 0 = no_stripes held.0 (length m) held.2.long short in
    let all = held.3.all in
    let used : c.counts.total_bytes ≡ c.counts.buffer_usage = omega (arith, held.1) in
    let start : 64 * held.0 ≡ 0 = omega arith in
    rw used (held.3.bytes ∙ rw start refl)

end_accumulators_follow : (s m : List ℕ) (c : CoreState) → 0 < stripes_of s → (length c.buffer) % 64 ≡ 0 → 240 < length c.buffer → c.counts.buffer_usage ≤ length c.buffer
    → Follows s c m → 240 < length m → end_accumulators s c ≡ stream_accumulators s m
unfolding Follows end_accumulators stream_accumulators accumulators_after
end_accumulators_follow s m c some size enough within held long =
    let k = held.0 in
    let n = stripes_left c in
    let all = held.3.all in
    let left = some_left k c.counts.buffer_usage held.2.left (omega arith) in
    let last : k + n ≡ (length m - 1) / 64 = omega arith in
    let width : length (buffered_bytes c) ≡ c.counts.buffer_usage = length-take-le c.counts.buffer_usage c.buffer (omega arith) in
    let done = folded_more s m (buffered_bytes c) [] k n c.counts.taken.stripes some held.3.taken.stripes (sym held.3.bytes ∙ sym (append-nil (buffered_bytes c))) (omega arith) in
    rw (sym last) done.accumulators

end_block_follows : (s m : List ℕ) (c : CoreState) → Follows s c m → 240 < length m → end_block c ≡ stream_block m
unfolding Follows end_block stream_block
end_block_follows s m c held long =
    let k = held.0 in
    let n = stripes_left c in
    let all = held.3.all in
    let left = some_left k c.counts.buffer_usage held.2.left (omega arith) in
    let last : 64 * k + 64 * n ≡ 64 * ((length m - 1) / 64) = omega arith in
    ap (drop (64 * n)) held.3.bytes ∙ drop-drop (64 * n) (64 * k) m ∙ rw last refl

last_in : (b : Bool) (s m buffer : List ℕ) (k u : ℕ) (t : TakenStripes) → nat_lt u 64 ≡ b → Holds s m k t buffer u → LeavesLast m k buffer u → 64 ≤ length m → last_bytes buffer u ≡ last_stripe m
unfolding last_bytes last_stripe
last_in true s m buffer k u t e held late long =
    let few : u < 64 = grind (arith, nat_tests, e) in
    let all = held.all in
    let some : 0 < k = omega arith in
    let kept : drop (length buffer - 64 + u) buffer ≡ take (64 - u) (drop (length m - 64) m) =
    let there : 64 * k - 64 + u ≡ length m - 64 = omega arith in
    let width : u + (64 - u) ≡ 64 = omega arith in
    sym (drop-drop u (length buffer - 64) buffer) ∙ ap (drop u) (late.last some few)
    ∙ rw width at (drop-take u (64 - u) (drop (64 * k - 64) m))
    ∙ ap (take (64 - u)) (drop-drop u (64 * k - 64) m ∙ rw there refl) in
    let rest : take u buffer ≡ drop (64 - u) (drop (length m - 64) m) =
    let there : length m - 64 + (64 - u) ≡ 64 * k = omega arith in
    held.bytes ∙ sym (drop-drop (64 - u) (length m - 64) m ∙ rw there refl) in
    rw (e, kept, rest) (take-append-drop (64 - u) (drop (length m - 64) m))
last_in false s m buffer k u t e held late long =
    let many : 64 ≤ u = grind (arith, nat_tests, e) in
    let all = held.all in
    let width : u - 64 + 64 ≡ u = omega arith in
    let there : 64 * k + (u - 64) ≡ length m - 64 = omega arith in
    rw e (sym (rw width at (drop-take (u - 64) 64 buffer)) ∙ ap (drop (u - 64)) held.bytes ∙ drop-drop (u - 64) (64 * k) m ∙ rw there refl)

end_stripe_follows : (s m : List ℕ) (c : CoreState) → Follows s c m → 240 < length m → last_bytes c.buffer c.counts.buffer_usage ≡ last_stripe m
unfolding Follows
end_stripe_follows s m c held long = last_in (nat_lt c.counts.buffer_usage 64) s m c.buffer held.0 c.counts.buffer_usage c.counts.taken refl held.3 held.2 (omega arith)

-- ---- the clauses of the core's contracts

-- Lemma: a core with an empty state and any bytes in its buffer represents the empty list.
pub stands_cleared : {S : Type 0} (bytes : S → List ℕ) (h : StreamKey S) (buffer : List ℕ)
    → Represents bytes (record { key = h; state = state_over no_bytes buffer }) h.seed (bytes h.secret) []
unfolding Represents Follows
stands_cleared bytes h buffer = (
  refl,
  refl,
  (
    0,
    refl,
    record { left = λ some. absurd (omega (arith, some)); long = λ some. absurd (omega (arith, some)); last = λ some few. absurd (omega (arith, some)) },
    record { taken = took_none (bytes h.secret) []; all = refl; bytes = refl },
  ),
)

-- Lemma: a new core represents the empty list.
pub stands_fresh : {S : Type 0} (bytes : S → List ℕ) (h : StreamKey S) → Represents bytes (record { key = h; state = empty_state }) h.seed (bytes h.secret) []
stands_fresh bytes h = stands_cleared bytes h empty_state.buffer

pub stands_written : {S : Type 0} (bytes : S → List ℕ) (h : CoreView S) (seed : Option ℕ) (s m d : List ℕ)
    → 0 < stripes_of (bytes h.key.secret) → length h.state.buffer % 64 ≡ 0 → 240 < length h.state.buffer → h.state.counts.buffer_usage ≤ length h.state.buffer
    → Represents bytes h seed s m → Represents bytes (core_after_write bytes h d) seed s (m ++ d)
unfolding Represents core_after_write
stands_written bytes h seed s m d some size enough within held =
    (held.0, held.1, rw held.1 (written_follows s m d h.state (rw held.1 at some) size enough within held.2))

pub stands_count : {S : Type 0} (bytes : S → List ℕ) (h : CoreView S) (seed : Option ℕ) (s m : List ℕ) → Represents bytes h seed s m → total_of h ≡ counted (length m)
unfolding Represents
stands_count bytes h seed s m held = follows_count s m h.state held.2

pub stands_none : {S : Type 0} (bytes : S → List ℕ) (h : CoreView S) (seed : Option ℕ) (s : List ℕ) → Represents bytes h seed s [] → buffered_of h ≡ 0
unfolding Represents Follows
stands_none bytes h seed s held = omega (arith, held.2.3.all)

pub stands_some : {S : Type 0} (bytes : S → List ℕ) (h : CoreView S) (seed : Option ℕ) (s m : List ℕ) → Represents bytes h seed s m → 0 < length m → 0 < buffered_of h
unfolding Represents Follows
stands_some bytes h seed s m held some = some_left held.2.0 h.state.counts.buffer_usage held.2.2.left (omega (arith, held.2.3.all))

pub stands_all : {S : Type 0} (bytes : S → List ℕ) (h : CoreView S) (seed : Option ℕ) (s m : List ℕ) → Represents bytes h seed s m → length m < 2 ^ 64
    → 64 * done_of h + buffered_of h ≡ length m
unfolding Represents Follows
stands_all bytes h seed s m held low = omega (arith, held.2.3.all, held.2.3.taken.count)

pub stands_secret : {S : Type 0} (bytes : S → List ℕ) (h : CoreView S) (seed : Option ℕ) (s m : List ℕ) → Represents bytes h seed s m → bytes h.key.secret ≡ s
unfolding Represents
stands_secret bytes h seed s m held = held.1

finished_in : {R : Type 0} (b : Bool) (small : List ℕ → ℕ → List ℕ → R) (large : List ℕ → List ℕ → List ℕ → List ℕ → ℕ → R) (seed : Option ℕ) (s : List ℕ) (c : CoreState)
    → nat_le c.counts.total_bytes 240 ≡ b → state_finish small large seed s c
    ≡ (if b then small (short_secret seed s) (stream_seed seed) (take c.counts.total_bytes c.buffer) else large (end_accumulators s c) (end_block c) (last_bytes c.buffer c.counts.buffer_usage) s c.counts.total_bytes)
unfolding state_finish
finished_in b small large seed s c e = rw e refl

pub stands_finished_short : {S R : Type 0} (small : List ℕ → ℕ → List ℕ → R) (large : List ℕ → List ℕ → List ℕ → List ℕ → ℕ → R) (bytes : S → List ℕ) (h : CoreView S) (seed : Option ℕ) (s m : List ℕ)
    → Represents bytes h seed s m → length m ≤ 240 → core_finish small large bytes h ≡ small (short_secret seed s) (stream_seed seed) m
unfolding Represents core_finish
stands_finished_short small large bytes h seed s m held short =
    let test : nat_le h.state.counts.total_bytes 240 ≡ true = grind (arith, nat_tests, follows_count s m h.state held.2) in
    finished_in true small large h.key.seed (bytes h.key.secret) h.state test
    ∙ rw (held.0, held.1, short_bytes s m h.state held.2 short) refl

pub stands_finished_long : {S R : Type 0} (small : List ℕ → ℕ → List ℕ → R) (large : List ℕ → List ℕ → List ℕ → List ℕ → ℕ → R) (bytes : S → List ℕ) (h : CoreView S) (seed : Option ℕ) (s m : List ℕ)
    → 0 < stripes_of (bytes h.key.secret) → length h.state.buffer % 64 ≡ 0 → 240 < length h.state.buffer → h.state.counts.buffer_usage ≤ length h.state.buffer
    → Represents bytes h seed s m → 240 < length m → core_finish small large bytes h ≡ large (stream_accumulators s m) (stream_block m) (last_stripe m) s (counted (length m))
unfolding Represents core_finish
stands_finished_long small large bytes h seed s m some size enough within held long =
    let test : nat_le h.state.counts.total_bytes 240 ≡ false = grind (arith, nat_tests, follows_count s m h.state held.2) in
    finished_in false small large h.key.seed (bytes h.key.secret) h.state test
    ∙ rw (held.1, end_accumulators_follow s m h.state (rw held.1 at some) size enough within held.2 long, end_block_follows s m h.state held.2 long, end_stripe_follows s m h.state held.2 long, follows_count s m h.state held.2) refl

-- Lemma: a core with the seed, the secret's bytes and the state of another is a copy of it.
pub stands_copied : {S : Type 0} (bytes : S → List ℕ) (a b : CoreView S) → b.key.seed ≡ a.key.seed → bytes b.key.secret ≡ bytes a.key.secret → b.state ≡ a.state
    → IsCopy bytes a b
unfolding Represents
stands_copied bytes a b seed secret state = record {
  seed = seed;
  secret = secret;
  state = state;
  stands = λ _ s m held. (seed ∙ held.0, secret ∙ held.1, rw state held.2);
}
