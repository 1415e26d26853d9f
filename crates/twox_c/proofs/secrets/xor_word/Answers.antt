use Rattle.std.proofs.Common.{◌≡◌, ◌+◌, ◌-◌, ℕ, List, ◌++◌, take, drop, bit_xor, sym, ap, ap₂, ◌∙◌, arith, append_assoc}
use Rattle.std.proofs.lemmas.List.{drop-drop}
use Rattle.std.specs.Int.{w64, to_le_bytes}
use Rattle.twox_core.specs.Steps.{word64}
use Rattle.twox_c.specs.GeneratedSecret.{word_xored}
use Rattle.twox_c.proofs.secrets.xor_word.Goals as goal

pub returns : goal.returns
unfolding word_xored
returns c =
    let m = c.args.secret.now in
    let i = c.args.i in
    let x = c.args.other in
    let eight : i + 8 - i ≡ 8 = omega arith in
    let word = c.copy_from_slice.ensures.after ∙ c.to_le_bytes.ensures ∙ ap (λ (y : ℕ). to_le_bytes w64 (bit_xor y x)) c.u64_at.ensures in
    ap₂ (λ (y r : List ℕ). take i m ++ (y ++ r)) word (ap (λ (k : ℕ). drop k (drop i m)) eight ∙ drop-drop 8 i m)
    ∙ sym (append_assoc (take i m) (to_le_bytes w64 (bit_xor (word64 m i) x)) (drop (i + 8) m))
