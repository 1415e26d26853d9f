use Rattle.twox_plain.proofs.Prelude.{◌∙◌, ◌≡◌, IfOk-weaker, ap, arith, compact_text, length, option_and_then, refl, view}
use Rattle.twox_plain.specs.Saved32.{record_of_data, record_data}
use Rattle.twox_plain.proofs.SavedTexts32.{has_no_float, shallow, compact_text-record_data, core_of_data-core_data, record_of_data-record_data}
use Rattle.twox_plain.proofs.xxhash32.SavedState.to_json.Goals as goal

-- Lemma: the value that is written is the record's value.
value_is : (c : goal.Joined-branch-4) → view c.in_ok-record_value.field-0 ≡ record_data c.args.self.now
value_is c = rw (c.in_ok-record_value.ensures, c.in_ok-buffer.ensures.value, c.in_ok-core.ensures) refl

pub returns-clause-text : goal.returns-clause-text
returns-clause-text c =
    let s = c.args.self.now in
    IfOk-weaker c.to_string.result _ _ (λ text writes. writes (rw (value_is c) (has_no_float s)) ∙ ap compact_text (value_is c) ∙ compact_text-record_data s) c.to_string.ensures.text

pub returns-clause-reads_back : goal.returns-clause-reads_back
returns-clause-reads_back c =
    let s = c.args.self.now in
    let size : length s.buffer ≡ 16 = omega arith in
    let back = record_of_data-record_data s (rw size at c.in_ok-buffer.ensures.reads_back) (core_of_data-core_data s.core (omega arith) (omega arith) (omega arith) (omega arith)) (omega arith) (omega arith) (omega arith) in
    IfOk-weaker c.to_string.result _ _ (λ text read. ap (option_and_then record_of_data) (read (rw (value_is c) (shallow s))) ∙ ap record_of_data (value_is c) ∙ back) c.to_string.ensures.reads_back
