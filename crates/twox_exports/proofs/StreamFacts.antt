-- Lemmas on a state that follows a list of bytes, with the secret that is stored beside the state.
use Rattle.std.proofs.Common.{◌≡◌, ℕ, Option, None, ◌+◌, ◌-◌, ◌*◌, ◌^◌, ◌<◌, ◌≤◌, min, List, [], ◌++◌, length, refl, sym, ap, ◌∙◌, arith, length-drop, zero, suc}
use Rattle.std.proofs.lemmas.List.{length-take}
use Rattle.twox_core.specs.CoreView.{CoreView}
use Rattle.twox_core.specs.Value.{stream_64, stream_128}
use Rattle.twox_core.specs.AfterWrite.{empty_state, state_after_write, core_after_write}
use Rattle.twox_core.specs.Finish.{core_finish}
use Rattle.twox_exports.specs.StateValue.{state_value_64, state_value_128}
use Rattle.twox_core.specs.Represents.{Follows, Represents}
use Rattle.twox_core.specs.declared.xxhash3.streaming.core_state.CoreState.{CoreState}
use Rattle.twox_core.proofs.StreamFacts.{stands_fresh, stands_written, stands_finished_short, stands_finished_long}
use Rattle.twox_hash.proofs.StreamFacts.{value_64_stands, value_128_stands}
use Rattle.twox_core.specs.InRange.{IsInRange}

abbrev own : List ℕ → List ℕ
own bytes = bytes

-- Lemma: an empty state follows the empty list.
pub follows_fresh : (s : List ℕ) (c : CoreState) → c ≡ empty_state → Follows s c []
unfolding Represents
follows_fresh s c fresh =
    let begun = stands_fresh own (record { seed = None; secret = s }) in
    rw fresh begun.2

-- Lemma: at least one byte is buffered if any byte was counted.
byte_left : (k u n total : ℕ) → total ≡ min n (2 ^ 64 - 1) → 64 * k + u ≡ n → (0 < k → 0 < u) → min total 1 ≤ u
byte_left zero u n total count all left = omega arith
byte_left (suc k) u n total count all left = omega (arith, left (omega arith))

-- Lemma: a state that follows a list is in range, so it isn't refused.
pub follows_in_range : (s m : List ℕ) (c : CoreState) → 136 ≤ length s → length c.buffer ≡ 512 → Follows s c m → IsInRange s c
unfolding Follows
follows_in_range s m c enough size held =
    let k = held.0 in
    let holds = held.3 in
    let bytes : min c.counts.buffer_usage (length c.buffer) ≡ length m - 64 * k =
    sym (length-take c.counts.buffer_usage c.buffer) ∙ ap length holds.bytes ∙ length-drop (64 * k) m in
    record {
      place = omega (arith, holds.taken.stripes.place);
      within = omega (arith, bytes, holds.all);
      left = byte_left k c.counts.buffer_usage (length m) c.counts.total_bytes held.1 holds.all held.2.left;
    }

-- The core that the library's laws are about: the state, the secret, and the seed, if any.
abbrev view_of : CoreState → Option ℕ → List ℕ → CoreView (List ℕ)
view_of c seed s = record { key = record { seed = seed; secret = s }; state = c }

stands : (s m : List ℕ) (c : CoreState) (seed : Option ℕ) → Follows s c m → Represents own (view_of c seed s) seed s m
unfolding Represents
stands s m c seed held = (refl, refl, held)

-- Lemma: a state that follows m follows m ++ d after a write of d.
pub follows_written : (s m d : List ℕ) (c : CoreState) → 136 ≤ length s → length c.buffer ≡ 512 → Follows s c m
    → Follows s (state_after_write s c d) (m ++ d)
unfolding Represents core_after_write
follows_written s m d c enough size held =
    let within = (follows_in_range s m c enough size held).within in
    (stands_written own (view_of c None s) None s m d (omega arith) (omega arith) (omega arith) (omega arith) (stands s m c None held)).2

-- Lemma: the value of a state that follows m is the value of a stream of m.
pub finished_64 : (s m : List ℕ) (c : CoreState) (seed : Option ℕ) (r : ℕ) → 136 ≤ length s → length c.buffer ≡ 512 → Follows s c m
    → r ≡ state_value_64 seed s c → r ≡ stream_64 seed s m
unfolding core_finish
finished_64 s m c seed r enough size held exact =
    let within = (follows_in_range s m c enough size held).within in
    let stood = stands s m c seed held in
    value_64_stands r seed s m
    (λ short. exact ∙ stands_finished_short _ _ own (view_of c seed s) seed s m stood short)
    (λ long. exact ∙ stands_finished_long _ _ own (view_of c seed s) seed s m (omega arith) (omega arith) (omega arith) (omega arith) stood long)

pub finished_128 : (s m : List ℕ) (c : CoreState) (seed : Option ℕ) (r : ℕ) → 136 ≤ length s → length c.buffer ≡ 512 → Follows s c m
    → r ≡ state_value_128 seed s c → r ≡ stream_128 seed s m
unfolding core_finish
finished_128 s m c seed r enough size held exact =
    let within = (follows_in_range s m c enough size held).within in
    let stood = stands s m c seed held in
    value_128_stands r seed s m
    (λ short. exact ∙ stands_finished_short _ _ own (view_of c seed s) seed s m stood short)
    (λ long. exact ∙ stands_finished_long _ _ own (view_of c seed s) seed s m (omega arith) (omega arith) (omega arith) (omega arith) stood long)
