-- Proves that if all results of an audit are the same, lines and names match each other.
use Rattle.xxhsum_audit.proofs.Prelude.{List, inl, inr, refl, sym, subst, flat_map, IsPermutation, IsPermutation-sym, Found, Same, line_in, name_in, IsAmong, Item, IsKept, IsRight, SameMeansEqual}
use Rattle.xxhsum_audit.proofs.AmongFacts.{among_flat_map, among_permutation, from_flat_map}
use Rattle.xxhsum_audit.proofs.AuditFacts.{tells_each_line_once, tells_each_name_once, tells_right}

-- One side of the results, whose items are the given items.
module _ (of other : Found → List Item) (given others : List Item) (found : List Found) (each : IsPermutation given (flat_map of found))
    (each_other : IsPermutation others (flat_map other found)) where
  found-with : (item : Item) → IsAmong given item → (one : Found) × IsAmong found one × IsAmong (of one) item
  found-with item h = from_flat_map of found item (among_permutation given (flat_map of found) item each h)

  beside-it : (one : Found) (item : Item) → IsAmong found one → IsAmong (other one) item → IsAmong others item
  beside-it one item h k =
      among_permutation (flat_map other found) others item (IsPermutation-sym others (flat_map other found) each_other)
      (among_flat_map other found one item h k)

pub same_means_equal : SameMeansEqual
same_means_equal lines names found audit same =
    let each_line = tells_each_line_once lines names found audit in
    let each_name = tells_each_name_once lines names found audit in
    let right = tells_right lines names found audit in (
      λ line h.
          let there = found-with line_in name_in lines names found each_line each_name line h in
          let is = same there.0 there.1 in
          let kept : IsKept is.0 is.1 = subst (IsRight lines names) is.2 (right there.0 there.1) in
          let beside = beside-it line_in name_in lines names found each_line each_name there.0 is.1 there.1
          (subst (λ one. IsAmong (name_in one) is.1) (sym is.2) (inl refl)) in
          let here : IsAmong (line_in (Same is.0 is.1)) line = subst (λ one. IsAmong (line_in one) line) is.2 there.2 in
          elim here [ inl e ↦ (is.1, beside, subst (λ l. IsKept l is.1) e kept) | inr none ↦ absurd none ],
      λ name h.
          let there = found-with name_in line_in names lines found each_name each_line name h in
          let is = same there.0 there.1 in
          let kept : IsKept is.0 is.1 = subst (IsRight lines names) is.2 (right there.0 there.1) in
          let beside = beside-it name_in line_in names lines found each_name each_line there.0 is.0 there.1
          (subst (λ one. IsAmong (line_in one) is.0) (sym is.2) (inl refl)) in
          let here : IsAmong (name_in (Same is.0 is.1)) name = subst (λ one. IsAmong (name_in one) name) is.2 there.2 in
          elim here [ inl e ↦ (is.0, beside, subst (λ n. IsKept is.0 n) e kept) | inr none ↦ absurd none ],
    )
