-- Lemmas on the texts and values of arrays of bytes, and on reading them back.
use Rattle.twox_plain.proofs.Prelude.{[], ◌∷◌, ◌≡◌, IsBytes, List, Some, ap, arith, eq-eqb, false, items_depth, items_have_float, items_text, length, nat_lt, nat_tests, refl, suc, true, ℕ}
use Rattle.serde_json.proofs.OnLiterals.{serde_json_on_literals}
use Rattle.twox_plain.specs.SavedText.{item_count, item_bytes, bytes_of_data, more_numbers, numbers_text, items_of_bytes, bytes_data}

pub no_float : (bytes : List ℕ) → items_have_float (items_of_bytes bytes) ≡ false
no_float [] = refl
no_float (b ∷ bs) = no_float bs

pub flat : (bytes : List ℕ) → items_depth (items_of_bytes bytes) ≡ 0
flat [] = refl
flat (b ∷ bs) = rw (flat bs) refl

more_of : (bytes : List ℕ) → items_text true (items_of_bytes bytes) ≡ more_numbers bytes
unfolding serde_json_on_literals
more_of [] = refl
more_of (b ∷ bs) = rw (more_of bs) refl

pub array_of : (bytes : List ℕ) → 91 ∷ items_text false (items_of_bytes bytes) ≡ numbers_text bytes
unfolding serde_json_on_literals
array_of [] = refl
array_of (b ∷ bs) = rw (more_of bs) refl

item_count-items_of_bytes : (bytes : List ℕ) → item_count (items_of_bytes bytes) ≡ length bytes
item_count-items_of_bytes [] = refl
item_count-items_of_bytes (b ∷ bs) = ap suc (item_count-items_of_bytes bs)

item_bytes-items_of_bytes : (bytes : List ℕ) → IsBytes bytes → item_bytes (items_of_bytes bytes) ≡ Some bytes
item_bytes-items_of_bytes [] small = refl
item_bytes-items_of_bytes (b ∷ bs) small =
    let test : nat_lt b 256 ≡ true = grind (arith, nat_tests, small 0) in
    rw (item_bytes-items_of_bytes bs (λ k. small (suc k)), test) refl

pub bytes_of_data-bytes_data : (n : ℕ) (bytes : List ℕ) → length bytes ≡ n → IsBytes bytes → bytes_of_data n (bytes_data bytes) ≡ Some bytes
bytes_of_data-bytes_data n bytes size small =
    rw (item_count-items_of_bytes bytes, eq-eqb (length bytes) n size) (item_bytes-items_of_bytes bytes small)

pub ruleset data_there_and_back = bytes_of_data-bytes_data
