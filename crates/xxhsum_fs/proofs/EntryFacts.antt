-- Lemmas on bytes that are split at NULs.
use Rattle.std.proofs.Common.{◌≡◌, ℕ, List, [], ◌∷◌, ◌++◌, ap, sym, ◌∙◌, append-nil, append_assoc, flat_map}
use Rattle.std.proofs.lemmas.Bool.{ne_eqb}
use Rattle.xxhsum_fs.specs.Entries.{entries_of, entry_of, parts_from}
use Rattle.xxhsum_line.specs.Parts.{Lacks}

-- Lemma: the bytes before the first NUL are the first part.
pub parts_ended : (part name rest : List ℕ) → Lacks 0 name → parts_from part (name ++ 0 ∷ rest) ≡ (part ++ name) ∷ parts_from [] rest
parts_ended part [] rest lacks = ap (λ p. p ∷ parts_from [] rest) (sym (append-nil part))
parts_ended part (c ∷ name) rest lacks =
    rw (ne_eqb c 0 lacks.0)
    (parts_ended (part ++ c ∷ []) name rest lacks.1 ∙ ap (λ p. p ∷ parts_from [] rest) (append_assoc part (c ∷ []) name))

-- Lemma: bytes without a NUL are one part.
pub parts_last : (part bytes : List ℕ) → Lacks 0 bytes → parts_from part bytes ≡ (part ++ bytes) ∷ []
parts_last part [] lacks = ap (λ p. p ∷ []) (sym (append-nil part))
parts_last part (c ∷ bytes) lacks =
    rw (ne_eqb c 0 lacks.0)
    (parts_last (part ++ c ∷ []) bytes lacks.1 ∙ ap (λ p. p ∷ []) (append_assoc part (c ∷ []) bytes))

-- Lemma: the name before the first NUL comes first.
pub entries_more : (name rest : List ℕ) → Lacks 0 name → entries_of (name ++ 0 ∷ rest) ≡ entry_of name ++ entries_of rest
entries_more name rest lacks = ap (flat_map entry_of) (parts_ended [] name rest lacks)

-- Lemma: bytes without a NUL are one name.
pub entries_last : (bytes : List ℕ) → Lacks 0 bytes → entries_of bytes ≡ entry_of bytes
entries_last bytes lacks = ap (flat_map entry_of) (parts_last [] bytes lacks) ∙ append-nil (entry_of bytes)
