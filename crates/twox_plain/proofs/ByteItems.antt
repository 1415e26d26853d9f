-- Lemmas on a JSON array that is read byte by byte.
use Rattle.std.proofs.Common.{◌≡◌, ◌<◌, ◌≤◌, ◌+◌, ◌++◌, ◌∙◌, ℕ, List, [], ◌∷◌, Option, None, Some, option_map, length, append_assoc, take, drop, set, get_or, refl, ap, sym, arith}
use Rattle.twox_plain.proofs.Prelude.{Data, Value, append-nil, as_array, bytes_of_data, drop_all, drop_more, eq-eqb, item_bytes, item_count, items_view, ne_eqb, no_items, take_all, take_more_set, view, whole_number}

-- Lemma: an array has as many elements as the list that it views.
item_count-items_view : (vs : List Value) → item_count (items_view vs) ≡ length vs
item_count-items_view [] = refl
item_count-items_view (v ∷ vs) = rw (item_count-items_view vs)

-- Lemma: an array doesn't read as n bytes if it has another number of elements.
pub bytes_of_other_length : (n : ℕ) (vs : List Value) (d : Data) → Some (items_view vs) ≡ as_array d → (length vs ≡ n → ⊥) → None ≡ bytes_of_data n d
bytes_of_other_length n vs d is other = rw (← is, item_count-items_view vs, ne_eqb (length vs) n other) refl

bytes_whole : (n : ℕ) (vs : List Value) (d : Data) → Some (items_view vs) ≡ as_array d → length vs ≡ n → item_bytes (items_view vs) ≡ bytes_of_data n d
bytes_whole n vs d is long = rw (← is, item_count-items_view vs, long, eq-eqb n n refl) refl

append_more : (o : Option (List ℕ)) (xs : List ℕ) (b : ℕ) → option_map (λ rest. xs ++ rest) (option_map (λ bs. b ∷ bs) o) ≡ option_map (λ rest. (xs ++ b ∷ []) ++ rest) o
append_more None xs b = refl
append_more (Some r) xs b = ap Some (sym (append_assoc xs (b ∷ []) r))

-- Lemma: reading element i as the byte b extends the bytes read from i to i + 1.
pub one_more : (vs : List Value) (bs : List ℕ) (i b : ℕ) (v : Value) → i < length vs → i < length bs → whole_number 256 (view (get_or vs i v)) ≡ Some b
    → item_bytes (items_view vs) ≡ option_map (λ rest. take i bs ++ rest) (item_bytes (items_view (drop i vs)))
    → item_bytes (items_view vs) ≡ option_map (λ rest. take (i + 1) (set bs i b) ++ rest) (item_bytes (items_view (drop (i + 1) vs)))
one_more vs bs i b v within room is was =
    rw (was, drop_more vs i v within, is, take_more_set bs i b room) (append_more (item_bytes (items_view (drop (i + 1) vs))) (take i bs) b)

-- Lemma: the array reads as the bytes once all n elements are read.
pub all_read : (n : ℕ) (vs : List Value) (bs : List ℕ) (i : ℕ) (d : Data) → Some (items_view vs) ≡ as_array d → length vs ≡ n → length bs ≡ n → i ≤ n → n ≤ i
    → item_bytes (items_view vs) ≡ option_map (λ rest. take i bs ++ rest) (item_bytes (items_view (drop i vs)))
    → Some bs ≡ bytes_of_data n d
all_read n vs bs i d is long full low high was =
    let cut : take i bs ≡ bs = take_all i bs (omega arith) in
    let left : drop i vs ≡ [] = drop_all i vs (omega arith) in
    let nothing : option_map (λ rest. bs ++ rest) (item_bytes no_items) ≡ Some bs = ap Some (append-nil bs) in
    sym (sym (bytes_whole n vs d is long) ∙ was ∙ rw (cut, left) nothing)
