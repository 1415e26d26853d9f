-- Lemmas on messages that are passed on whole.
use Rattle.std.proofs.Common.{ℕ, List, [], ◌∷◌, refl, sym, ap, subst, append-nil}
use Rattle.std.specs.List.{concat}
use Rattle.xxh_io.specs.Digest.{Refused, Took}
use Rattle.xxh_io.specs.Pieces.{IsProperBeginning, Pieces}
use Rattle.xxh_io.specs.Rules.{SinkRules}
use Rattle.xxh_io.proofs.WriteFacts.{Took-join}
use Rattle.xxhsum_output.specs.Messages.{TakesPart, holder_of}
use Rattle.xxhsum_output.specs.declared.messages.Messages.{Messages}

-- Lemma: a part that is taken, and then no bytes.
pub part_took : {W : Type 0} (writing : SinkRules W) (part : List ℕ) (old mid new : W) → writing.takes old part mid → Took writing [] mid new → Took writing part old new
part_took writing part old mid new takes rest =
    subst (λ bytes. Took writing bytes old new) (append-nil part)
    (Took-join writing part [] old mid new (part ∷ [], (mid, takes, refl), append-nil part) rest)

-- Lemma: the inner sink takes the parts, joined.
pub holder_took : {W : Type 0} (writing : SinkRules W) (pieces : List (List ℕ)) (old new : Messages W) → Pieces (TakesPart writing) old pieces new
    → Took writing (concat pieces) (holder_of old) (holder_of new)
holder_took writing [] old new led = ([], ap holder_of led, refl)
holder_took {W} writing (piece ∷ pieces) old new led =
    let mid : Messages W = led.0 in
    Took-join writing piece (concat pieces) (holder_of old) (holder_of mid) (holder_of new) led.1 (holder_took writing pieces mid new led.2)

-- Lemma: the inner sink refuses the bytes that are refused.
pub holder_refused : {W : Type 0} (writing : SinkRules W) (bytes : List ℕ) (pieces : List (List ℕ)) (old met new : Messages W) → Pieces (TakesPart writing) old pieces met
    → writing.refuses (holder_of met) (holder_of new) → IsProperBeginning (concat pieces) bytes → Refused writing bytes (holder_of old) (holder_of new)
holder_refused writing bytes pieces old met new led refuses begins =
    let took = holder_took writing pieces old met led in
    (took.0, holder_of met, took.1, refuses, subst (λ front. IsProperBeginning front bytes) (sym took.2) begins)
