-- Lemmas on consecutive writes and on buffered bytes.
use Rattle.std.proofs.Common.{◌≡◌, ℕ, ◌<◌, List, [], ◌∷◌, ◌++◌, length, sym, ap, ◌∙◌, subst, append_assoc, length-append, arith, Ok, Err, IfErr, Result, IsErr}
use Rattle.std.specs.List.{concat}
use Rattle.std.proofs.lemmas.List.Folds.{concat-append}
use Rattle.xxh_io.specs.declared.digest_error.DigestError.{DigestError}
use Rattle.xxh_io.specs.declared.digest_error.DigestError.TheVariants.{ReadFailed, WriteFailed, TooLong}
use Rattle.xxh_io.specs.Pieces.{Pieces}
use Rattle.xxh_io.specs.Rules.{SinkRules}
use Rattle.xxh_io.specs.Digest.{Writes, Took, Refused}
use Rattle.xxh_io.specs.Waiting.{Gathers}

Pieces-append : {S : Type 0} (step : S → List ℕ → S → Type 0) (old mid new : S) (ps qs : List (List ℕ)) → Pieces step old ps mid → Pieces step mid qs new → Pieces step old (ps ++ qs) new
Pieces-append step old mid new [] qs led more = subst (λ s. Pieces step s qs new) led more
Pieces-append step old mid new (x ∷ xs) qs led more = (led.0, led.1, Pieces-append step led.0 mid new xs qs led.2 more)

concat-both : (ps qs : List (List ℕ)) (a : List ℕ) → concat ps ≡ a → concat (ps ++ qs) ≡ a ++ concat qs
concat-both ps qs a is = concat-append ps qs ∙ ap (λ bytes. bytes ++ concat qs) is

pub Took-join : {W : Type 0} (writing : SinkRules W) (a b : List ℕ) (old mid new : W) → Took writing a old mid → Took writing b mid new → Took writing (a ++ b) old new
Took-join writing a b old mid new first second =
    (first.0 ++ second.0, Pieces-append writing.takes old mid new first.0 second.0 first.1 second.1, concat-both first.0 second.0 a first.2 ∙ ap (λ bytes. a ++ bytes) second.2)

pub Refused-join : {W : Type 0} (writing : SinkRules W) (a b : List ℕ) (old mid new : W) → Took writing a old mid → Refused writing b mid new → Refused writing (a ++ b) old new
Refused-join writing a b old mid new first second =
    let front = concat second.0 in
    let rest = second.4.0 in
    let whole : a ++ b ≡ concat (first.0 ++ second.0) ++ rest =
    ap (λ bytes. a ++ bytes) second.4.1 ∙ sym (append_assoc a front rest) ∙ ap (λ bytes. bytes ++ rest) (sym (concat-both first.0 second.0 a first.2)) in
    (first.0 ++ second.0, second.1, Pieces-append writing.takes old mid second.1 first.0 second.0 first.1 second.2, second.3, (rest, whole, second.4.2))

pub Refused-more : {W : Type 0} (writing : SinkRules W) (a b : List ℕ) (old new : W) → Refused writing a old new → Refused writing (a ++ b) old new
Refused-more writing a b old new first =
    let rest = first.4.0 in
    let some : 0 < length (rest ++ b) = simp length-append (omega (arith, first.4.2)) in
    (first.0, first.1, first.2, first.3, (rest ++ b, ap (λ bytes. bytes ++ b) first.4.1 ∙ append_assoc (concat first.0) rest b, some))

-- Lemma: a write of `b` after `a` was taken is a write of `a ++ b` with the same result.
pub Writes-join : {W T : Type 0} (writing : SinkRules W) (a b : List ℕ) (old mid new : W) (result : Result T DigestError) → IfErr result (λ e. e ≡ WriteFailed)
    → Took writing a old mid → Writes writing b mid new result → Writes writing (a ++ b) old new result
Writes-join writing a b old mid new (Ok x) only first second = Took-join writing a b old mid new first second
Writes-join writing a b old mid new (Err WriteFailed) only first second = Refused-join writing a b old mid new first second
Writes-join writing a b old mid new (Err ReadFailed) only first second = cc
Writes-join writing a b old mid new (Err TooLong) only first second = cc

pub write-failed : {T : Type 0} (result : Result T DigestError) → IsErr result → IfErr result (λ e. e ≡ WriteFailed) → result ≡ Err WriteFailed
write-failed (Ok x) is only = cc
write-failed (Err e) is only = ap Err only

pub never-too-long : {T : Type 0} (result : Result T DigestError) → IfErr result (λ e. e ≡ WriteFailed) → result ≡ Err TooLong → ⊥
never-too-long {T} result only is =
    let same : TooLong ≡ WriteFailed = subst (λ (r : Result T DigestError). IfErr r (λ e. e ≡ WriteFailed)) is only in
    cc

-- ---- buffered bytes

-- Lemma: gathering `b` after the buffered bytes of `a` gathers `a ++ b`.
pub Gathers-push : {W : Type 0} (writing : SinkRules W) (a b before after : List ℕ) (old mid new : W) → Gathers writing a old mid before → Gathers writing (before ++ b) mid new after → Gathers writing (a ++ b) old new after
Gathers-push writing a b before after old mid new first second =
    let whole : first.0 ++ second.0 ++ after ≡ a ++ b =
    append_assoc first.0 second.0 after ∙ ap (λ bytes. first.0 ++ bytes) second.2 ∙ sym (append_assoc first.0 before b) ∙ ap (λ bytes. bytes ++ b) first.2 in
    (first.0 ++ second.0, Took-join writing first.0 second.0 old mid new first.1 second.1, whole)

-- Lemma: writing the buffered bytes of `a` is a write of `a` with the same result.
pub Gathers-flush : {W T : Type 0} (writing : SinkRules W) (a waiting : List ℕ) (old mid new : W) (result : Result T DigestError) → IfErr result (λ e. e ≡ WriteFailed) → Gathers writing a old mid waiting → Writes writing waiting mid new result → Writes writing a old new result
Gathers-flush {W} {T} writing a waiting old mid new result only first second =
    subst (λ (bytes : List ℕ). Writes {T = T} writing bytes old new result) first.2 (Writes-join writing first.0 waiting old mid new result only first.1 second)

-- Lemma: `a ++ b` is refused if the buffered bytes of `a` are refused.
pub Gathers-refused : {W : Type 0} (writing : SinkRules W) (a b waiting : List ℕ) (old mid new : W) → Gathers writing a old mid waiting → Refused writing waiting mid new → Refused writing (a ++ b) old new
Gathers-refused writing a b waiting old mid new first second =
    Refused-more writing a b old new (subst (λ (bytes : List ℕ). Refused writing bytes old new) first.2 (Refused-join writing first.0 waiting old mid new first.1 second))

pub Writes-refused : {W T : Type 0} (writing : SinkRules W) (a : List ℕ) (old new : W) (result : Result T DigestError) → result ≡ Err WriteFailed → Refused writing a old new → Writes writing a old new result
Writes-refused {W} {T} writing a old new result is refused =
    subst (λ (r : Result T DigestError). Writes writing a old new r) (sym is) refused
