-- Lemmas on the progress line of a read, by its byte counts.
use Rattle.std.proofs.Common.{◌≡◌, ◌≢◌, ℕ, ◌<◌, ◌≤◌, ◌/◌, ◌-◌, ◌++◌, Bool, true, false, Option, Some, [], ap, codes, decimal, nat_eq, nat_lt, refl, arith, if◌then◌else◌}
use Rattle.xxhsum_program.proofs.Prelude.{cleared, count_after, empty_line, left_text, line_text, nat_tests, progress_line, rate_of, shown_text}

-- Lemma: a line is displayed if a multiple of 64 MiB is between the counts.
pub line-between : (size : Option ℕ) (millis before count : ℕ) → before / 67108864 < count / 67108864 → progress_line size millis before count ≡ line_text size count (rate_of count millis)
line-between size millis before count less =
    let test : nat_lt (before / 67108864) (count / 67108864) ≡ true = grind (arith, nat_tests, less) in
    ap (λ b. if b then line_text size count (rate_of count millis) else []) test

-- Lemma: the remaining time is displayed if the size is known and the rate is above 0.
pub left-is : (size : Option ℕ) (most count rate : ℕ) → size ≡ Some most → 0 < rate → left_text size count rate ≡ codes ", " ++ decimal ((most - count) / 1024 / rate) ++ codes " s left"
left-is size most count rate is some =
    let test : nat_lt 0 rate ≡ true = grind (arith, nat_tests, some) in
    rw (is, test) refl

-- Lemma: the line is cleared if there is one.
pub cleared-after : (count : ℕ) → 67108864 ≤ count → cleared count ≡ empty_line
cleared-after count past = grind arith

pub shown-end : (is_on : Bool) (size : Option ℕ) (millis before count : ℕ) → is_on ≡ true → count ≡ 0 → shown_text is_on size millis before count ≡ cleared before
shown-end true size millis before count on none = rw none refl
shown-end false size millis before count on none = cc

pub shown-line : (is_on : Bool) (size : Option ℕ) (millis before count : ℕ) → is_on ≡ true → count ≢ 0 → shown_text is_on size millis before count ≡ progress_line size millis before (count_after before count)
shown-line true size millis before count on some =
    let test : nat_eq count 0 ≡ false = grind (arith, nat_tests, some) in
    ap (λ b. if b then cleared before else progress_line size millis before (count_after before count)) test
shown-line false size millis before count on some = cc
