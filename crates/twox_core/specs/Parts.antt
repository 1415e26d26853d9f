-- Parts of a list of bytes, by absolute position, as XXH3 borrows them.
use Rattle.std.specs.Prelude.{ℕ, ◌+◌, ◌*◌, List, [], ◌∷◌, take, drop}
use Rattle.std.specs.Simd.{first_chunks}

-- the 16 bytes from byte i on
abbrev pub chunk_at : List ℕ → ℕ → List ℕ
chunk_at m i = take 16 (drop i m)

-- the n chunks of 16 bytes from byte i on
unfoldable pub chunks_at : List ℕ → ℕ → ℕ → List (List ℕ)
chunks_at m i n = first_chunks 16 n (drop i m)

-- the 32 bytes from byte i on as two chunks
abbrev pub pair_at : List ℕ → ℕ → List (List ℕ)
pair_at m i = chunk_at m i ∷ chunk_at m (i + 16) ∷ []

-- the n pairs of chunks from byte i on
unfoldable pub pairs_at : List ℕ → ℕ → ℕ → List (List (List ℕ))
pairs_at m i n = first_chunks 2 n (chunks_at m i (2 * n))

-- the 64 bytes from byte i on
abbrev pub stripe_at : List ℕ → ℕ → List ℕ
stripe_at m i = take 64 (drop i m)
