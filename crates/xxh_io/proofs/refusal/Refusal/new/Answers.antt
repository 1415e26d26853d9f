use Rattle.std.proofs.Common.{◌≡◌, ℕ, ◌++◌, List, length, take, min, ap, subst, ◌∙◌, arith}
use Rattle.std.proofs.Math.Seq.{take-append_seam}
use Rattle.std.proofs.lemmas.List.{length-take-le, take_min}
use Rattle.xxh_io.proofs.refusal.Refusal.new.Goals as goal

-- Lemma: a copy of the first 256 bytes, or of all of them if there are fewer, is the stored text.
kept : (front rest words : List ℕ) (len : ℕ) → len ≡ min (length words) 256 → front ≡ take len words → take len (front ++ rest) ≡ take 256 words
kept front rest words len least is =
    let whole : length front ≡ len = ap length is ∙ length-take-le len words (omega (arith, least)) in
    let other : len ≡ min 256 (length words) = omega (arith, least) in
    subst (λ n. take n (front ++ rest) ≡ take 256 words) whole (take-append_seam front rest ∙ is ∙ ap (λ n. take n words) other ∙ take_min 256 words)

pub returns-clause-words : goal.returns-clause-words
returns-clause-words c = kept c.copy_from_slice.new.self _ c.args.words.now c.min-len.result c.min-len.ensures c.copy_from_slice.ensures.after
