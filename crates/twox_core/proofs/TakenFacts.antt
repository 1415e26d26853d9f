-- Lemmas on the stripes that a stream has taken.
use Rattle.std.proofs.Common.{◌≡◌, ℕ, ◌+◌, ◌*◌, ◌<◌, ◌≤◌, List, ◌++◌, length, take, drop, refl, arith}
use Rattle.twox_core.proofs.Prelude.{TakenStripes, TookStripes, stripes_of}
use Rattle.twox_core.specs.AfterWrite.{after_taking, none_taken}
use Rattle.twox_core.proofs.StripeFacts.{after_stripes-take, folded_none, folded_more, folded_longer}

-- Lemma: the effect of n stripes depends only on the first 64 * n bytes.
pub after_taking-take : (s : List ℕ) (t : TakenStripes) (xs : List ℕ) (w n : ℕ) → 64 * n ≤ w → after_taking s t (take w xs) n ≡ after_taking s t xs n
unfolding after_taking
after_taking-take s t xs w n fits = rw (after_stripes-take s t.stripes xs w n fits) refl

pub took_none : (s m : List ℕ) → TookStripes s m 0 none_taken
took_none s m = record { stripes = folded_none s m; count = refl }

-- Lemma: bytes appended to m don't change the stripes taken.
pub took_longer : (s m d : List ℕ) (k : ℕ) (t : TakenStripes) → TookStripes s m k t → 64 * k ≤ length m → TookStripes s (m ++ d) k t
took_longer s m d k t took fits = record {
  stripes = folded_longer s m d k t.stripes took.stripes fits;
  count = took.count;
}

-- Lemma: n stripes of xs, which follows the first k stripes of m, make k + n stripes taken.
pub took_more : (s m xs ys : List ℕ) (k n : ℕ) (t : TakenStripes) → 0 < stripes_of s → TookStripes s m k t
    → drop (64 * k) m ≡ xs ++ ys → 64 * n ≤ length xs → TookStripes s m (k + n) (after_taking s t xs n)
unfolding after_taking
took_more s m xs ys k n t some took split fits = record {
  stripes = folded_more s m xs ys k n t.stripes some took.stripes split fits;
  count = rw took.count (omega arith);
}
