use Rattle.std.proofs.Common.{◌≡◌, ℕ, ◌+◌, ◌-◌, ◌*◌, ◌/◌, ◌%◌, length, take, drop, ◌∙◌, ap, arith, length-drop, length-take-le}
use Rattle.twox_core.specs.SecretBytes.{secret_bytes}
use Rattle.twox_core.specs.Stripes.{at_start, after_stripes}
use Rattle.twox_core.proofs.BlockFacts.{place_at_block, at_start-same}
use Rattle.twox_core.proofs.StripeFacts.{after_stripes-take, three_parts}
use Rattle.twox_core.proofs.xxhash3.stripes.process_by_blocks.Goals as goal

pub returns : goal.returns
returns g c =
    let s = secret_bytes c.args.secret in
    let m = c.args.bytes.now in
    let from = c.args.from in
    let at_block = c.with_part_of_block-at_block.result in
    let k = (16 - c.current_stripe.result) % 16 in
    let rest = drop (64 * k) m in
    let w = length rest / 1024 * 1024 in
    let n = 16 * (length rest / 1024) in
    let j = length (drop w rest) / 64 in
    let front_len : length (take (64 * k) m) / 64 ≡ k = omega (arith, length-take-le (64 * k) m (omega arith)) in
    let whole_len : 16 * (length (take w rest) / 1024) ≡ n = omega (arith, length-take-le w rest (omega arith)) in
    let all : k + (n + j) ≡ length m / 64 = omega (arith, length-drop w rest, length-drop (64 * k) m) in
    let place : k ≡ (16 - from.current_stripe) % 16 = ap (λ (p : ℕ). (16 - p) % 16) c.current_stripe.ensures in
    let front : at_block ≡ after_stripes s from m k =
    rw (c.split_at.ensures.front, front_len) at c.with_part_of_block-at_block.ensures.exact ∙ after_stripes-take s from m (64 * k) k (omega arith) in
    let begins : at_block.current_stripe ≡ 0 = rw front (place_at_block s m from k (omega arith) (omega arith) place) in
    let same : at_start c.accumulators.result ≡ at_block = ap at_start c.accumulators.ensures ∙ at_start-same at_block begins in
    let blocks : at_start c.with_blocks-taken.result ≡ after_stripes s at_block rest n =
    rw (c.split_at-2.ensures.front, c.split_at.ensures.back, whole_len, same) at c.with_blocks-taken.ensures
    ∙ after_stripes-take s at_block rest w n (omega arith) in
    let ended : c.with_part_of_block.result ≡ after_stripes s c.starting_with-at_start.result (drop w rest) j =
    rw (c.split_at-2.ensures.back, c.split_at.ensures.back) at c.with_part_of_block.ensures.exact in
    record { exact = rw all at (ended ∙ three_parts s m from at_block c.starting_with-at_start.result k n j w (omega arith) front (c.starting_with-at_start.ensures ∙ blocks)); place = c.with_part_of_block.ensures.place }
