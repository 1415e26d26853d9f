-- Lemmas on bytes as they are displayed on a terminal.
use Rattle.std.proofs.Common.{◌≡◌, ℕ, ◌+◌, ◌<◌, ◌/◌, ◌%◌, Bool, true, false, ◌&&◌, not, if◌then◌else◌, List, [], ◌∷◌, ◌++◌, length, take, drop, get_or, refl, sym, ap, subst, ◌∙◌, append-nil, map, take-append-drop, arith}
use Rattle.std.specs.List.{AllByRecursion, concat}
use Rattle.std.proofs.lemmas.Grind.{flat_map-append}
use Rattle.std.proofs.lemmas.List.{take_more}
use Rattle.std.proofs.lemmas.Bool.Decides.{nat_tests}
use Rattle.xxh_io.specs.Digest.{Refused, Took}
use Rattle.xxh_io.specs.Hex.{hex_digit}
use Rattle.xxh_io.specs.Pieces.{Pieces}
use Rattle.xxh_io.specs.Rules.{SinkRules}
use Rattle.xxh_io.proofs.WriteFacts.{Refused-join, Refused-more, Took-join}
use Rattle.xxhsum_output.specs.Shown.{is_calm, is_clean, is_plain, in_hex, shown, shown_all, shown_byte}
use Rattle.xxhsum_output.specs.Visible.{TakesShown, is_shown, terminal_of}
use Rattle.xxhsum_output.specs.declared.visible.Visible.{Visible}

-- Lemma: one more byte appends its displayed form.
pub shown-more : (bytes : List ℕ) (i : ℕ) → i < length bytes → shown_all (take (i + 1) bytes) ≡ shown_all (take i bytes) ++ shown_byte (get_or bytes i 0)
shown-more bytes i h =
    ap shown_all (take_more bytes i 0 h)
    ∙ flat_map-append shown_byte (take i bytes) (get_or bytes i 0 ∷ [])
    ∙ ap (λ r. shown_all (take i bytes) ++ r) (append-nil (shown_byte (get_or bytes i 0)))

-- Lemma: the displayed forms of the bytes before, at and after index `i`, joined, are the displayed form of all.
shown-parts : (bytes : List ℕ) (i : ℕ) → i < length bytes → (shown_all (take i bytes) ++ shown_byte (get_or bytes i 0)) ++ shown_all (drop (i + 1) bytes) ≡ shown_all bytes
shown-parts bytes i h =
    ap (λ front. front ++ shown_all (drop (i + 1) bytes)) (sym (shown-more bytes i h))
    ∙ sym (flat_map-append shown_byte (take (i + 1) bytes) (drop (i + 1) bytes))
    ∙ ap shown_all (take-append-drop (i + 1) bytes)

-- Lemma: a sink that takes the displayed form of byte `i` after the bytes before it has taken the first `i + 1`.
pub takes-more : {W : Type 0} (writing : SinkRules W) (bytes : List ℕ) (i : ℕ) (old mid new : W) → i < length bytes → Took writing (shown_all (take i bytes)) old mid → Took writing (shown_byte (get_or bytes i 0)) mid new → Took writing (shown_all (take (i + 1) bytes)) old new
takes-more writing bytes i old mid new h took more =
    subst (λ text. Took writing text old new) (sym (shown-more bytes i h)) (Took-join writing (shown_all (take i bytes)) (shown_byte (get_or bytes i 0)) old mid new took more)

-- Lemma: the displayed form of all bytes is refused if one byte's form is refused after the bytes before it.
pub refuses-rest : {W : Type 0} (writing : SinkRules W) (bytes : List ℕ) (i : ℕ) (old mid new : W) → i < length bytes → Took writing (shown_all (take i bytes)) old mid
    → Refused writing (shown_byte (get_or bytes i 0)) mid new → Refused writing (shown_all bytes) old new
refuses-rest writing bytes i old mid new h took refused =
    let front = shown_all (take i bytes) ++ shown_byte (get_or bytes i 0) in
    let joined = Refused-join writing (shown_all (take i bytes)) (shown_byte (get_or bytes i 0)) old mid new took refused in
    subst (λ text. Refused writing text old new) (shown-parts bytes i h) (Refused-more writing front (shown_all (drop (i + 1) bytes)) old new joined)

-- ---- laws

-- Lemma: the inner sink takes the displayed forms of the chunks, joined.
pub shows_pieces : {W : Type 0} (writing : SinkRules W) (pieces : List (List ℕ)) (old new : Visible W) → Pieces (TakesShown writing) old pieces new
    → Took writing (concat (map (shown (is_shown old)) pieces)) (terminal_of old) (terminal_of new)
shows_pieces writing [] old new led = ([], ap terminal_of led, refl)
shows_pieces {W} writing (piece ∷ pieces) old new led =
    let mid : Visible W = led.0 in
    let rest = subst (λ on. Took writing (concat (map (shown on) pieces)) (terminal_of mid) (terminal_of new)) led.1.0 (shows_pieces writing pieces mid new led.2) in
    Took-join writing (shown (is_shown old) piece) (concat (map (shown (is_shown old)) pieces)) (terminal_of old) (terminal_of mid) (terminal_of new) led.1.1 rest

-- ---- displayed text, which has no control character

-- Lemma: a printable byte belongs to no control character, whatever byte is before it.
plain-calm : (before byte : ℕ) → is_plain byte ≡ true → is_calm before byte ≡ true
plain-calm before byte plain = grind (arith, nat_tests, plain)

digit-plain : (n : ℕ) → n < 16 → is_plain (hex_digit n) ≡ true
digit-plain n h = grind (arith, nat_tests, h)

both : (a b : Bool) → a ≡ true → b ≡ true → (a && b) ≡ true
both a b is is' = rw (is, is') refl

both-true : (a b : Bool) → (a && b) ≡ true → (a ≡ true) × (b ≡ true)
both-true true b is = (refl, is)
both-true false b is = cc

clean-join : (before : ℕ) (front rest : List ℕ) → is_clean before front ≡ true → ((b : ℕ) → is_clean b rest ≡ true) → is_clean before (front ++ rest) ≡ true
clean-join before [] rest a b = b before
clean-join before (byte ∷ front) rest a b =
    let parts = both-true (is_calm before byte) (is_clean byte front) a in
    both (is_calm before byte) (is_clean byte (front ++ rest)) parts.0 (clean-join byte front rest parts.1 b)

byte-clean : (before byte : ℕ) (plain : Bool) → is_plain byte ≡ plain → byte < 256 → is_clean before (if plain then byte ∷ [] else in_hex byte) ≡ true
byte-clean before byte true is h = both (is_calm before byte) true (plain-calm before byte is) refl
byte-clean before byte false is h =
    let high = hex_digit (byte / 16) in
    let low = hex_digit (byte % 16) in
    both (is_calm 120 high) (is_calm high low && true) (plain-calm 120 high (digit-plain (byte / 16) (omega arith)))
    (both (is_calm high low) true (plain-calm high low (digit-plain (byte % 16) (omega arith))) refl)

all-clean : (bytes : List ℕ) → AllByRecursion (λ byte. byte < 256) bytes → (before : ℕ) → is_clean before (shown_all bytes) ≡ true
all-clean [] h before = refl
all-clean (byte ∷ bytes) h before =
    clean-join before (shown_byte byte) (shown_all bytes) (byte-clean before byte (is_plain byte) refl h.0) (all-clean bytes h.1)

shown-cases : (bytes : List ℕ) (clean : Bool) → is_clean 0 bytes ≡ clean → AllByRecursion (λ byte. byte < 256) bytes → is_clean 0 (if true && not clean then shown_all bytes else bytes) ≡ true
shown-cases bytes true is h = is
shown-cases bytes false is h = all-clean bytes h 0

pub shown_clean : (bytes : List ℕ) → AllByRecursion (λ byte. byte < 256) bytes → is_clean 0 (shown true bytes) ≡ true
shown_clean bytes h = shown-cases bytes (is_clean 0 bytes) refl h
