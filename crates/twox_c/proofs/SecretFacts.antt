-- Lemmas on the steps of the loops that write a secret.
use Rattle.std.proofs.Common.{◌≡◌, ℕ, zero, suc, ◌+◌, ◌*◌, ◌%◌, ◌<◌, nat_lt, if◌then◌else◌, List, [], ◌∷◌, ◌++◌, length, drop, slice_index, slice_index_or, slice_set, refl, sym, ap, ◌∙◌, append_assoc, length-append, add-one}
use Rattle.std.proofs.lemmas.List.{drop_more, set_at}
use Rattle.twox_core.specs.Secret.{default_secret}
use Rattle.twox_core.specs.Value.{effective_secret, xxh3_128}
use Rattle.twox_c.specs.GeneratedSecret.{repeated, groups_xored, pair_xored}

pub repeated-length : (c : List ℕ) (k : ℕ) → length (repeated c k) ≡ k
unfolding repeated
repeated-length c zero = refl
repeated-length c (suc k) =
    length-append (repeated c k) (slice_index c (k % length c) ∷ []) ∙ ap (λ (n : ℕ). n + 1) (repeated-length c k) ∙ add-one k

repeated-next : (c : List ℕ) (k : ℕ) → repeated c (k + 1) ≡ repeated c k ++ slice_index c (k % length c) ∷ []
unfolding repeated
repeated-next c k = ap (repeated c) (add-one k)

-- Lemma: writing byte k of the repeated bytes over the old one gives k + 1 repeated bytes.
pub byte_written : (c m : List ℕ) (k : ℕ) → k < length m
    → slice_set (repeated c k ++ drop k m) k (slice_index c (k % length c)) ≡ repeated c (k + 1) ++ drop (k + 1) m
byte_written c m k within =
    let done = repeated c k in
    let byte = slice_index c (k % length c) in
    ap (λ (l : List ℕ). slice_set (done ++ l) k byte) (drop_more m k 0 within)
    ∙ set_at done (slice_index_or m k 0) (drop (k + 1) m) byte k (repeated-length c k)
    ∙ sym (append_assoc done (byte ∷ []) (drop (k + 1) m))
    ∙ ap (λ (l : List ℕ). l ++ drop (k + 1) m) (sym (repeated-next c k))

pub groups_xored-next : (b m : List ℕ) (k : ℕ)
    → groups_xored b m (k + 1) ≡ pair_xored (groups_xored b m k) (16 * k) (xxh3_128 k default_secret b)
unfolding groups_xored
groups_xored-next b m k = ap (groups_xored b m) (add-one k)

-- Lemma: 16 bytes are hashed with the default secret, whatever secret the seed derives.
pub effective_secret-of_16 : (own b : List ℕ) → length b ≡ 16 → effective_secret own b ≡ default_secret
unfolding effective_secret
effective_secret-of_16 own b e = ap (λ (n : ℕ). if nat_lt n 241 then default_secret else own) e
