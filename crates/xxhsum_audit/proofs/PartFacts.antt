-- Lemmas on splitting bytes into parts, one after another.
use Rattle.xxhsum_audit.proofs.Prelude.{◌≡◌, ℕ, ◌<◌, List, [], ◌∷◌, ◌++◌, append-nil, append_assoc, length, refl, sym, ap, ◌∙◌, inl, inr, subst, arith, flat_map-append, IsAmong, ArePartsOf, ended}
use Rattle.xxhsum_line.specs.Parts.{Lacks}
use Rattle.xxhsum_audit.proofs.AmongFacts.{among_either}

-- The parts so far, each with its end, and the remaining bytes.
pub record Stands (end : ℕ) (bytes : List ℕ) (parts : List (List ℕ)) (left : List ℕ) : Type 0 where
  pub lack : (part : List ℕ) → IsAmong parts part → Lacks end part
  pub whole : bytes ≡ ended end parts ++ left

lacks_push : (end : ℕ) (parts : List (List ℕ)) (part : List ℕ) → ((p : List ℕ) → IsAmong parts p → Lacks end p) → Lacks end part
    → (p : List ℕ) → IsAmong (parts ++ part ∷ []) p → Lacks end p
lacks_push end parts part lack here p h =
    elim (among_either parts (part ∷ []) p h) [
      | inl a ↦ lack p a
      | inr b ↦ elim b [ inl e ↦ subst (Lacks end) e here | inr none ↦ absurd none ]
    ]

pub stands_more : (end : ℕ) (bytes : List ℕ) (parts : List (List ℕ)) (left part rest : List ℕ) → Stands end bytes parts left
    → left ≡ part ++ end ∷ rest → Lacks end part → Stands end bytes (parts ++ part ∷ []) rest
stands_more end bytes parts left part rest so_far cut lacks = record {
  lack = lacks_push end parts part so_far.lack lacks;
  whole =
      let one : ended end (parts ++ part ∷ []) ≡ ended end parts ++ (part ++ end ∷ []) =
      flat_map-append (λ p. p ++ end ∷ []) parts (part ∷ [])
      ∙ ap (λ x. ended end parts ++ x) (append-nil (part ++ end ∷ [])) in
      so_far.whole ∙ ap (λ x. ended end parts ++ x) (cut ∙ sym (append_assoc part (end ∷ []) rest))
      ∙ sym (append_assoc (ended end parts) (part ++ end ∷ []) rest) ∙ ap (λ x. x ++ rest) (sym one);
}

pub stands_whole : (end : ℕ) (bytes : List ℕ) (parts : List (List ℕ)) (left : List ℕ) → Stands end bytes parts left → length left ≡ 0
    → ArePartsOf end bytes parts
stands_whole end bytes parts [] so_far none = (so_far.lack, inl (so_far.whole ∙ append-nil (ended end parts)))
stands_whole end bytes parts (c ∷ left) so_far none = absurd (omega arith)

pub stands_last : (end : ℕ) (bytes : List ℕ) (parts : List (List ℕ)) (left : List ℕ) → Stands end bytes parts left → 0 < length left
    → Lacks end left → ArePartsOf end bytes (parts ++ left ∷ [])
stands_last end bytes parts left so_far some lacks =
    (lacks_push end parts left so_far.lack lacks, inr (parts, left, refl, some, so_far.whole))
