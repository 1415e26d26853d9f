use Rattle.std.proofs.Common.{◌≡◌, ℕ, ◌+◌, ◌-◌, ◌<◌, ◌≤◌, min, List, [], ◌++◌, length, take, drop, slice_range, refl, sym, ap, ◌∙◌, arith, length-take, length-drop, length-append, drop-drop, take-append-drop, subst, Option, None, Some}
use Rattle.std.proofs.lemmas.List.{drop-take, take_at, length-take-le}
use Rattle.std.specs.Io.KnownBytes.{Keeps, Consumes, IsAtEnd, prepend_known, ReadConsumes}
use Rattle.std.proofs.KnownBytes.{prepend_known-read}
use Rattle.xxh_io.proofs.buffered.BufferedRead.read.Goals as goal

-- Lemmas on a read from a buffer and on the bytes that remain in it.

-- Lemma: the buffered bytes are the first `n` of them, followed by the others.
waiting_parts : (xs : List ℕ) (start end n : ℕ) → n ≤ end - start → slice_range xs start end ≡ take n (slice_range xs start end) ++ slice_range xs (start + n) end
waiting_parts xs start end n within =
    let whole : n + (end - (start + n)) ≡ end - start = omega arith in
    let cut : drop n (take (n + (end - (start + n))) (drop start xs)) ≡ take (end - (start + n)) (drop n (drop start xs)) = drop-take n (end - (start + n)) (drop start xs) in
    sym (take-append-drop n (slice_range xs start end)) ∙ ap (λ (rest : List ℕ). take n (slice_range xs start end) ++ rest) (rw whole at cut ∙ ap (take (end - (start + n))) (drop-drop n start xs))

-- Lemma: copying `n` buffered bytes to the front of a nonempty slice reads them. `n` is 0 only at the end.
waiting_read : (a b : Option (List ℕ)) (xs room copied : List ℕ) (start end n : ℕ) → end ≤ length xs → n ≡ min (length (slice_range xs start end)) (length room) → copied ≡ take n (slice_range xs start end)
    → Keeps a (prepend_known (slice_range xs start end) b) → (end ≤ start → IsAtEnd b)
    → Consumes a (prepend_known (slice_range xs (start + n) end) b) (take n (copied ++ drop n room)) × (n ≡ 0 → 0 < length (copied ++ drop n room) → IsAtEnd (prepend_known (slice_range xs (start + n) end) b))
waiting_read a b xs room copied start end n inside count copy kept ended =
    let waiting = slice_range xs start end in
    let long : length (slice_range xs start end) ≡ min (end - start) (length xs - start) = simp (length-take, length-drop) in
    let size : length copied ≡ n = ap length copy ∙ length-take-le n waiting (omega arith) in
    let front : take n (copied ++ drop n room) ≡ take n waiting = take_at copied (drop n room) n size ∙ copy in
    let none_left : (n ≡ 0) × (0 < length room) → (slice_range xs (start + n) end ≡ []) × IsAtEnd b =
    λ p. (ap (λ k. take k (drop (start + n) xs)) {y = 0} (omega (arith, p.0, p.1)), ended (omega (arith, p.0, p.1))) in
    let read = prepend_known-read a b waiting (slice_range xs (start + n) end) (take n waiting) ((n ≡ 0) × (0 < length room)) kept (waiting_parts xs start end n (omega arith)) none_left in
    let room_left : length (copied ++ drop n room) ≡ length copied + (length room - n) = simp (length-append, length-drop) in
    (rw front read.0, λ none some. read.1 (none, omega arith))

-- Lemma: the remaining bytes are those of the reader if none are buffered.
none_waiting : (xs : List ℕ) (start end : ℕ) (known : Option (List ℕ)) → end ≤ start → prepend_known (slice_range xs start end) known ≡ known
none_waiting xs start end known past =
    let none : slice_range xs start end ≡ [] = ap (λ k. take k (drop start xs)) {y = 0} (omega (arith, past)) in
    rw none (elim known as (λ k. prepend_known [] k ≡ k) [ None ↦ refl | Some bytes ↦ refl ])

pub returns-clause-bytes : goal.returns-clause-bytes
returns-clause-bytes g c =
    let filled = c.fill.new.self in
    let inside : filled.end ≤ length filled.buf = omega arith in
    waiting_read _ _ filled.buf c.args.buf.now _ filled.start filled.end c.min-count.result inside c.min-count.ensures c.copy_from_slice.ensures.after c.in_ok-fill.ensures.bytes c.in_ok-fill.ensures.end

pub returns-then-buf-clause-bytes : goal.returns-then-buf-clause-bytes
returns-then-buf-clause-bytes g c =
    let none : (known : Option (List ℕ)) → prepend_known (slice_range c.args.self.now.buf c.args.self.now.start c.args.self.now.end) known ≡ known =
    λ known. none_waiting c.args.self.now.buf c.args.self.now.start c.args.self.now.end known c.if-self.true in
    subst (λ old. ReadConsumes old (prepend_known (slice_range c.args.self.now.buf c.args.self.now.start c.args.self.now.end) (g.R.Read.remaining c.read.new.self)) c.read.result c.read.new.buf) (sym (none (g.R.Read.remaining c.args.self.now.inner)))
    (subst (λ new. ReadConsumes (g.R.Read.remaining c.args.self.now.inner) new c.read.result c.read.new.buf) (sym (none (g.R.Read.remaining c.read.new.self))) c.read.ensures.bytes)
