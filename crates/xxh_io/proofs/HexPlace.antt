-- Proves that digits written over the front of a buffer of newlines make a hexadecimal line.
use Rattle.std.proofs.Common.{◌≡◌, ℕ, zero, suc, ◌+◌, ◌-◌, ◌<◌, ◌/◌, List, [], ◌∷◌, ◌++◌, length, take, drop, replicate, refl, sym, ap, ◌∙◌, arith, length-append, length-take, append_assoc}
use Rattle.std.proofs.lemmas.List.{drop-replicate, length-replicate, take_at}
use Rattle.xxh_io.specs.Hex.{hex_digits, hex_line}

length-hex_digits : (n value : ℕ) → length (hex_digits n value) ≡ n
length-hex_digits zero value = refl
length-hex_digits (suc n) value = simp length-append (omega (arith, length-hex_digits n (value / 16)))

pub length-hex_line : (digits value : ℕ) → length (hex_line digits value) ≡ digits + 1
unfolding hex_line
length-hex_line digits value = simp length-append (omega (arith, length-hex_digits digits value))

pub line_in_place : (n digits value : ℕ) (front : List ℕ) → digits < n → front ≡ hex_digits (length {A = ℕ} (take digits (replicate n 10))) value → take (digits + 1) (front ++ drop digits (replicate n 10)) ≡ hex_line digits value
unfolding hex_line
line_in_place n digits value front fits e =
    let size : length {A = ℕ} (take digits (replicate n 10)) ≡ digits = simp (length-take, length-replicate) (omega arith) in
    let is : front ≡ hex_digits digits value = e ∙ ap (λ k. hex_digits k value) size in
    let rest : ◌≡◌ {A = List ℕ} (drop digits (replicate n 10)) (10 ∷ replicate (n - (digits + 1)) 10) = drop-replicate digits n 10 ∙ ap (λ k. replicate k 10) (let more : n - digits ≡ suc (n - (digits + 1)) = omega arith in more) in
    rw (is, rest) (ap (take (digits + 1)) (sym (append_assoc (hex_digits digits value) (10 ∷ []) (replicate (n - (digits + 1)) 10))) ∙ take_at (hex_digits digits value ++ 10 ∷ []) (replicate (n - (digits + 1)) 10) (digits + 1) (length-hex_line digits value))
