use Rattle.std.proofs.Common.{◌≡◌, ℕ, ◌-◌, ◌/◌, List, length, ap, ap₂, ◌∙◌, arith}
use Rattle.std.specs.Int.{w128, to_be_bytes}
use Rattle.twox_c.specs.GeneratedSecret.{secret_from, groups_xored, pair_xored, repeated}
use Rattle.twox_c.proofs.secrets.write_secret.Goals as goal

pub returns : goal.returns
unfolding secret_from
returns c =
    let source = c.args.source.now in
    let n = length c.args.secret.now in
    let hash = c.value-hash.result in
    let filled = c.repeat.new.secret in
    let filled_length : length filled ≡ n = omega (arith, c.repeat.auto.secret) in
    let xored_length : length c.xor_groups.new.secret ≡ n = omega (arith, c.repeat.auto.secret, c.xor_groups.auto.secret) in
    let groups = c.xor_groups.ensures
    ∙ ap₂ (λ (b : List ℕ) (k : ℕ). groups_xored b filled (k / 16)) c.to_be_bytes.ensures filled_length
    ∙ ap (λ (l : List ℕ). groups_xored (to_be_bytes w128 hash) l (n / 16)) c.repeat.ensures in
    c.xor_pair.ensures
    ∙ ap₂ (λ (l : List ℕ) (k : ℕ). pair_xored l (k - 16) hash) groups xored_length
    ∙ ap (λ (h : ℕ). pair_xored (groups_xored (to_be_bytes w128 h) (repeated source n) (n / 16)) (n - 16) h) (c.value-hash.ensures ∙ c.XXH3_128bits.ensures)
