use Rattle.twox_core.proofs.Prelude.{[], ◌%◌, ◌*◌, ◌++◌, ◌+◌, ◌-◌, ◌^◌, ◌∙◌, ◌≡◌, Fits, List, ap, append-nil, arith, drop, drop_of_length-le, get_or, length, refl, rules, w8, ℕ}
use Rattle.twox_core.specs.Secret.{derived_pairs, derived_secret}
use Rattle.twox_core.proofs.DerivedFacts.{two_pairs_changed}
use Rattle.twox_core.proofs.xxhash3.derivation.derive_secret.Goals as goal

pub loop-k-init : goal.loop-k-init
unfolding derived_pairs
loop-k-init c = refl

pub loop-k-preserved : goal.loop-k-preserved
loop-k-preserved c =
    let s = c.args.secret.now in
    let k = c.loop-k.k in
    let cur = c.loop-k.secret in
    let seed = c.args.seed in
    let loss : ℕ = (0 + (2 ^ 64 - seed)) % 2 ^ 64 in
    let bytes : (i : ℕ) → Fits w8 (get_or cur i 0) = search rules in
    two_pairs_changed seed loss s cur k _ (omega arith) bytes (omega arith) (omega arith) (omega arith) (omega arith) c.loop-k.invariant

pub returns : goal.returns
unfolding derived_secret
returns c =
    let s = c.args.secret.now in
    let seed = c.args.seed in
    let long : length s ≡ 192 = c.told-secret in
    let done : c.loop-k.k ≡ 6 = omega arith in
    let none : drop 192 s ≡ [] = drop_of_length-le s {i = 192} (omega arith) in
    let words : c.loop-k.secret ≡ derived_pairs seed s 12 = c.loop-k.invariant ∙ ap (λ (k : ℕ). derived_pairs seed s (2 * k) ++ drop (32 * k) s) done
    ∙ ap (λ (l : List ℕ). derived_pairs seed s 12 ++ l) none ∙ append-nil (derived_pairs seed s 12) in
    record { words = words; default = λ is_default. words ∙ ap (λ (l : List ℕ). derived_pairs seed l 12) is_default }
