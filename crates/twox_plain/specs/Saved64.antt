-- The saved text of a record of XXH64, and the record that `serde_json` reads from a text.
use Rattle.std.specs.Prelude.{ℕ, ◌^◌, List, Option, option_and_then, codes}
use Rattle.serde_json.specs.Data.{Data}
use Rattle.serde_json.specs.Read.{read}
use Rattle.twox_plain.specs.SavedText.{bytes_data}
use Rattle.twox_plain.specs.SavedText as Text
use Rattle.twox_plain.specs.declared.xxhash64.Core.{Core}
use Rattle.twox_plain.specs.declared.xxhash64.SavedState.{SavedState}
use Rattle.twox_plain.specs.declared.xxhash64.saved.FormError.{FormError}
use Rattle.twox_plain.specs.declared.xxhash64.saved.FormError.TheVariants.{Text, Memory}

-- ---- reading

abbrev pub core_of_data : Data → Option Core
core_of_data = Text.core_of_data (2 ^ 64) (λ a b c d. record { v1 = a; v2 = b; v3 = c; v4 = d })

abbrev pub record_of_data : Data → Option SavedState
record_of_data =
    Text.record_of_data (2 ^ 64) 32 core_of_data (λ total_len seed core buffer usage.
    record { total_len = total_len; seed = seed; core = core; buffer = buffer; buffer_usage = usage })

-- the record that a text contains
abbrev pub record_of_text : List ℕ → Option SavedState
record_of_text text = option_and_then record_of_data (read text)

-- ---- writing

abbrev pub saved_text : SavedState → List ℕ
saved_text s =
    let core = Text.core_text s.core.v1 s.core.v2 s.core.v3 s.core.v4 in
    Text.saved_text s.total_len s.seed core s.buffer s.buffer_usage

-- the JSON values of the accumulators and of a record
abbrev pub core_data : Core → Data
core_data c = Text.core_data c.v1 c.v2 c.v3 c.v4

abbrev pub record_data : SavedState → Data
record_data s = Text.record_data s.total_len s.seed (core_data s.core) (bytes_data s.buffer) s.buffer_usage

-- ---- refusals

-- the text of the error for a text without a record
abbrev pub form_error_text : FormError → List ℕ
form_error_text Text = codes "The text is not a saved state"
form_error_text Memory = codes "out of memory"
