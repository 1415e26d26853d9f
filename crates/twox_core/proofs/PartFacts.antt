-- Lemmas on the stripes, chunks and pairs of chunks of a list, split all at once or read one by one.
use Rattle.twox_core.proofs.Prelude.{◌*◌, ◌+◌, ◌-◌, ◌<◌, ◌∙◌, ◌∷◌, ◌≡◌, ◌≤◌, List, ap, ap₂, arith, drop, drop-drop, drop-take, first_chunks, first_chunks_at, first_chunks_take, get_or, length, refl, suc, sym, take, take-take, zero, ℕ}
use Rattle.twox_core.specs.Parts.{chunk_at, chunks_at, pair_at, pairs_at, stripe_at}

-- ---- chunks of n elements

pub take-first_chunks : {X : Type 0} (n j k : ℕ) (xs : List X) → j ≤ k → take j (first_chunks n k xs) ≡ first_chunks n j xs
take-first_chunks n zero k xs within = refl
take-first_chunks n (suc j) zero xs within = absurd (omega arith)
take-first_chunks {X = X} n (suc j) (suc k) xs within =
    ap (λ (ys : List (List X)). take n xs ∷ ys) (take-first_chunks n j k (drop n xs) (omega arith))

pub drop-first_chunks : {X : Type 0} (n j k : ℕ) (xs : List X) → j ≤ k → drop j (first_chunks n k xs) ≡ first_chunks n (k - j) (drop (j * n) xs)
drop-first_chunks n zero k xs within =
    let none : 0 * n ≡ 0 = omega arith in
    let all : k - 0 ≡ k = omega arith in
    rw (none, all) refl
drop-first_chunks n (suc j) zero xs within = absurd (omega arith)
drop-first_chunks n (suc j) (suc k) xs within =
    let place : n + j * n ≡ suc j * n = omega arith in
    let left : suc k - suc j ≡ k - j = omega arith in
    drop-first_chunks n j k (drop n xs) (omega arith) ∙ rw (drop-drop (j * n) n xs, place, left) refl

-- ---- chunks of 16 bytes, and pairs of them

-- Lemma: the chunks of a part of n * 16 bytes at offset i are the n chunks of m from offset i.
pub chunks_at-part : (m part : List ℕ) (i n k : ℕ) → part ≡ take (n * 16) (drop i m) → k ≡ n → first_chunks 16 k part ≡ chunks_at m i n
unfolding chunks_at
chunks_at-part m part i n k e count = ap₂ (first_chunks 16) count e ∙ first_chunks_take 16 n (drop i m)

-- Lemma: chunk c of the n chunks from offset i is the chunk at offset j = i + 16 * c.
pub chunks_at-chunk : (m : List ℕ) (cs : List (List ℕ)) (i n c j : ℕ) (d : List ℕ) → cs ≡ chunks_at m i n → c < n → i + 16 * c ≡ j → get_or cs c d ≡ chunk_at m j
unfolding chunks_at
chunks_at-chunk m cs i n c j d e low at =
    let place : i + c * 16 ≡ j = omega arith in
    ap (λ (l : List (List ℕ)). get_or l c d) e ∙ first_chunks_at 16 n (drop i m) c d low ∙ rw (drop-drop (c * 16) i m, place) refl

-- Lemma: the first two chunks from offset i are pair_at m i.
pub pair_at-part : (m : List ℕ) (i : ℕ) → first_chunks 16 2 (drop i m) ≡ pair_at m i
pair_at-part m i = rw (drop-drop 16 i m) refl

-- Lemma: the first n pairs of the chunks cs from offset i are pairs_at m i n.
pub pairs_at-chunks : (m : List ℕ) (cs : List (List ℕ)) (i n k : ℕ) → cs ≡ first_chunks 16 k (drop i m) → 2 * n ≤ k → first_chunks 2 n cs ≡ pairs_at m i n
unfolding chunks_at pairs_at
pairs_at-chunks m cs i n k e within =
    let twice : n * 2 ≤ k = omega arith in
    let whole : n * 2 ≡ 2 * n = omega arith in
    ap (first_chunks 2 n) e ∙ sym (first_chunks_take 2 n (first_chunks 16 k (drop i m)))
    ∙ ap (first_chunks 2 n) (take-first_chunks 16 (n * 2) k (drop i m) twice ∙ ap (λ (j : ℕ). first_chunks 16 j (drop i m)) whole)

-- Lemma: the pairs of eight chunks are the four pairs from offset i.
pub pairs_at-eight : (m : List ℕ) (cs : List (List ℕ)) (i k : ℕ) → cs ≡ chunks_at m i 8 → k ≡ 4 → first_chunks 2 k cs ≡ pairs_at m i 4
unfolding pairs_at
pairs_at-eight m cs i k e count = ap₂ (first_chunks 2) count e

-- Lemma: pair c of the n pairs from offset i is the pair at offset j = i + 32 * c.
pub pairs_at-pair : (m : List ℕ) (ps : List (List (List ℕ))) (i n c j : ℕ) (d : List (List ℕ)) → ps ≡ pairs_at m i n → c < n → i + 32 * c ≡ j → get_or ps c d ≡ pair_at m j
unfolding chunks_at pairs_at
pairs_at-pair m ps i n c j d e low at =
    let chunks : List (List ℕ) = first_chunks 16 (2 * n) (drop i m) in
    let place : i + c * 2 * 16 ≡ j = omega arith in
    let cut : drop (c * 2) chunks ≡ first_chunks 16 (2 * n - c * 2) (drop j m) =
    drop-first_chunks 16 (c * 2) (2 * n) (drop i m) (omega arith)
    ∙ ap (first_chunks 16 (2 * n - c * 2)) (drop-drop (c * 2 * 16) i m ∙ ap (λ (k : ℕ). drop k m) place) in
    ap (λ (l : List (List (List ℕ))). get_or l c d) e ∙ first_chunks_at 2 n chunks c d low ∙ ap (take 2) cut
    ∙ take-first_chunks 16 2 (2 * n - c * 2) (drop j m) (omega arith) ∙ pair_at-part m j

-- Lemma: the two chunks of the last 32 bytes are the pair at offset length m - 32.
pub last-pair : (m c : List ℕ) (cs : List (List ℕ)) (k : ℕ) → 32 ≤ length m → c ≡ drop (length m - 32) m → cs ≡ first_chunks 16 k c → k ≡ 2 → cs ≡ pair_at m (length m - 32)
last-pair m c cs k enough e chunks count = chunks ∙ ap₂ (first_chunks 16) count e ∙ pair_at-part m (length m - 32)

-- ---- stripes of 64 bytes

-- Lemma: a stripe within the first w bytes of m is the same stripe of take w m.
pub stripe_at-take : (m : List ℕ) (w i : ℕ) → i + 64 ≤ w → stripe_at (take w m) i ≡ stripe_at m i
stripe_at-take m w i fits =
    let there : i + (w - i) ≡ w = omega arith in
    let cut : drop i (take w m) ≡ take (w - i) (drop i m) = rw there at (drop-take i (w - i) m) in
    rw cut (take-take 64 (w - i) (drop i m) (omega arith))

-- Lemma: the stripe at offset j after the first i bytes is the stripe at offset k = i + j.
pub stripe_at-drop : (m : List ℕ) (i j k : ℕ) → i + j ≡ k → stripe_at (drop i m) j ≡ stripe_at m k
stripe_at-drop m i j k e = ap (take 64) (drop-drop j i m ∙ ap (λ (n : ℕ). drop n m) e)

pub ruleset part_laws = (chunks_at-part, pairs_at-eight)
