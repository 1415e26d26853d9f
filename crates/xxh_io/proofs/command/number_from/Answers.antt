use Rattle.std.proofs.Common.{◌≡◌, ℕ, ◌<◌, List, length, true, nat_lt, arith, refl, ◌≢◌, ◌+◌, slice_index, lit<, sym, ap, ◌∙◌, Ok, Err}
use Rattle.std.proofs.lemmas.Bool.{and_parts, cond-false, false_from_ne_true}
use Rattle.std.proofs.lemmas.Bool.Decides.{nat_tests}
use Rattle.std.proofs.lemmas.Str.Parse.{IsNumeralModel, numerals_by_value, tells_all_ascii_digits, parse_plain}
use Rattle.std.specs.Str.{all_ascii_digits}
use Rattle.std.specs.Str.Parse.{digits_value}
use Rattle.xxh_io.specs.declared.fault.Fault.{Fault}
use Rattle.xxh_io.specs.Command.{number_named}
use Rattle.xxh_io.proofs.command.number_from.Goals as goal

-- Proves that an argument is a number if and only if it is one or more digits with a value below the limit.

-- Lemma: lists of digits, with their decimal value, are a model of the numerals of `parse`.
numerals : IsNumeralModel (λ ds. all_ascii_digits ds ≡ true) (digits_value 10)
numerals = numerals_by_value _ tells_all_ascii_digits

number_named_ok : (fault : Fault) (limit : ℕ) (word : List ℕ) → all_ascii_digits word ≡ true → 0 < length word → digits_value 10 word < limit → number_named fault limit word ≡ Ok (digits_value 10 word)
number_named_ok fault limit word digits some below =
    let test1 : nat_lt 0 (length word) ≡ true = grind (arith, nat_tests) in
    let test2 : nat_lt (digits_value 10 word) limit ≡ true = grind (arith, nat_tests) in
    rw (test1, digits, test2) refl

number_named_err : (fault : Fault) (limit : ℕ) (word : List ℕ) → ((all_ascii_digits word ≡ true) × (0 < length word) × (digits_value 10 word < limit) → ⊥) → number_named fault limit word ≡ Err fault
number_named_err fault limit word no_number =
    cond-false _ _ _ (false_from_ne_true _ (λ passes.
    let first = and_parts (nat_lt 0 (length word)) _ passes in
    let second = and_parts (all_ascii_digits word) (nat_lt (digits_value 10 word) limit) first.1 in
    no_number (second.0, grind (arith, nat_tests, first.0), grind (arith, nat_tests, second.1))))

pub returns-in-Ok : goal.returns-in-Ok
returns-in-Ok c =
    let word = c.args.word.now in
    let first = c.starts_with.ensures.byte (lit< tt) (lit< tt) (λ w o m. m) in
    let plain : slice_index word 0 ≢ 43 = grind (arith, nat_tests, first, c.if-starts_with.false) in
    let parsed = rw c.in-Ok.is at (parse_plain numerals 64 word c.parse.result c.parse.ensures.value.0 plain) in
    let below : digits_value 10 word < c.args.most + 1 = omega (arith, parsed.1) in
    ap Ok parsed.1 ∙ sym (number_named_ok c.args.fault (c.args.most + 1) word parsed.0.0 parsed.0.1 below)

pub returns-in_default-2 : goal.returns-in_default-2
returns-in_default-2 c =
    let word = c.args.word.now in
    let first = c.starts_with.ensures.byte (lit< tt) (lit< tt) (λ w o m. m) in
    let plain : slice_index word 0 ≢ 43 = grind (arith, nat_tests, first, c.if-starts_with.false) in
    let parsed = rw c.in_default.is at (parse_plain numerals 64 word c.parse.result c.parse.ensures.value.0 plain) in
    sym (number_named_err c.args.fault (c.args.most + 1) word (λ number. parsed (number.0, number.1, omega (arith, number.2))))
