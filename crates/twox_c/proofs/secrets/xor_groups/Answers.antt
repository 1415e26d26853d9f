use Rattle.std.proofs.Common.{◌≡◌, ℕ, ◌*◌, ◌/◌, List, length, refl, sym, ap, ap₂, ◌∙◌, arith}
use Rattle.twox_core.specs.Value.{xxh3_128}
use Rattle.twox_c.specs.GeneratedSecret.{groups_xored, pair_xored}
use Rattle.twox_c.proofs.SecretFacts.{groups_xored-next, effective_secret-of_16}
use Rattle.twox_c.proofs.secrets.xor_groups.Goals as goal

pub loop-k-init : goal.loop-k-init
unfolding groups_xored
loop-k-init c = refl

pub loop-k-preserved : goal.loop-k-preserved
loop-k-preserved c =
    let m = c.args.secret.now in
    let b = c.args.bytes.now in
    let k = c.loop-k.k in
    c.xor_pair.ensures
    ∙ ap₂ (λ (l : List ℕ) (h : ℕ). pair_xored l (16 * k) h) c.loop-k.invariant
    (c.value.ensures ∙ c.XXH3_128bits_withSeed.ensures
    ∙ ap₂ (λ (seed : ℕ) (s : List ℕ). xxh3_128 seed s b) c.into_u64.ensures (effective_secret-of_16 _ b c.told-bytes))
    ∙ sym (groups_xored-next b m k)

pub returns : goal.returns
returns c =
    let done : c.loop-k.k ≡ length c.args.secret.now / 16 = omega arith in
    c.loop-k.invariant ∙ ap (groups_xored c.args.bytes.now c.args.secret.now) done
