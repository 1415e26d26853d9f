use Rattle.std.proofs.Common.{◌≡◌, ◌+◌, ◌-◌, ◌*◌, ◌/◌, ◌%◌, length, take, drop, ◌∙◌, arith, length-drop, length-take-le}
use Rattle.twox_core.specs.SecretBytes.{secret_bytes}
use Rattle.twox_core.specs.Stripes.{after_stripes}
use Rattle.twox_core.proofs.BlockFacts.{place_at_fourth}
use Rattle.twox_core.proofs.StripeFacts.{after_stripes-take, three_parts}
use Rattle.twox_core.proofs.xxhash3.stripes.StripeAccumulator.process_by_fours.Goals as goal

pub process_fours-requires-clause-fourth : goal.process_fours-requires-clause-fourth
process_fours-requires-clause-fourth g c =
    let s = secret_bytes c.args.secret in
    let xs = c.args.bytes.now in
    let from = c.args.self.now in
    let k = (16 - from.current_stripe) % 4 in
    let front_len : length (take (64 * k) xs) / 64 ≡ k = omega (arith, length-take-le (64 * k) xs (omega arith)) in
    let front : c.process_stripes.new.self ≡ after_stripes s from (take (64 * k) xs) k = rw (c.split_at.ensures.front, front_len) at c.process_stripes.ensures.exact in
    rw front (place_at_fourth s (take (64 * k) xs) from k c.requires.all c.requires.place (omega arith))

pub returns : goal.returns
returns g c =
    let s = secret_bytes c.args.secret in
    let xs = c.args.bytes.now in
    let from = c.args.self.now in
    let k = (16 - from.current_stripe) % 4 in
    let rest = drop (64 * k) xs in
    let w = length rest / 256 * 256 in
    let n = 4 * (length rest / 256) in
    let j = length (drop w rest) / 64 in
    let front_len : length (take (64 * k) xs) / 64 ≡ k = omega (arith, length-take-le (64 * k) xs (omega arith)) in
    let whole_len : 4 * (length (take w rest) / 256) ≡ n = omega (arith, length-take-le w rest (omega arith)) in
    let all : k + (n + j) ≡ length xs / 64 = omega (arith, length-drop w rest, length-drop (64 * k) xs) in
    let front : c.process_stripes.new.self ≡ after_stripes s from xs k =
    rw (c.split_at.ensures.front, front_len) at c.process_stripes.ensures.exact ∙ after_stripes-take s from xs (64 * k) k (omega arith) in
    let fours : c.process_fours.new.self ≡ after_stripes s c.process_stripes.new.self rest n =
    rw (c.split_at-2.ensures.front, c.split_at.ensures.back, whole_len) at c.process_fours.ensures.exact
    ∙ after_stripes-take s c.process_stripes.new.self rest w n (omega arith) in
    let ended : c.process_stripes-2.new.self ≡ after_stripes s c.process_fours.new.self (drop w rest) j =
    rw (c.split_at-2.ensures.back, c.split_at.ensures.back) at c.process_stripes-2.ensures.exact in
    record { exact = rw all at (ended ∙ three_parts s xs from c.process_stripes.new.self c.process_fours.new.self k n j w (omega arith) front fours); place = c.process_stripes-2.ensures.place }
