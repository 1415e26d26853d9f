-- The printed text of an audit.
use Rattle.std.specs.Prelude.{◌≡◌, ℕ, Bool, true, false, ◌&&◌, not, List, [], ◌∷◌, ◌++◌, codes, decimal, if◌then◌else◌, count_by, flat_map, length, map, Result, Ok, Err}
use Rattle.xxhsum_app.specs.Prelude.{Options, OutOfMemory, Refused, SinkRules, Stop, Took, WriteFailed}
use Rattle.xxhsum_audit.specs.declared.verdict.Class.{Class}
use Rattle.xxhsum_audit.specs.declared.verdict.Class.TheVariants as Of
use Rattle.xxhsum_audit.specs.Found.{Found, is_of_class}
use Rattle.xxhsum_audit.specs.Json.{remark_json}
use Rattle.xxhsum_audit.specs.Text.{Classed, Remark, Unreadable, remark_text}

abbrev pub is_same : Remark → Bool
is_same (Classed found) = is_of_class Of.Same found
is_same (Unreadable name) = false

-- True if results are JSON objects (`--format=json`, which is refused with `-z`).
abbrev pub has_objects : Options → Bool
has_objects options = options.is_json && not options.ends_in_nul

-- The text of a result: a JSON object, a line, or with `-z` a record that ends with a NUL.
abbrev pub formed_text : Options → Remark → List ℕ
formed_text options remark =
    if has_objects options then remark_json options.is_little_endian remark else remark_text options.ends_in_nul remark

-- The text of a result. With `-q`, an unchanged file has none.
abbrev pub shown_text : Options → Remark → List ℕ
shown_text options remark = if options.is_quiet && is_same remark then [] else formed_text options remark

abbrev pub shown_texts : Options → List Remark → List ℕ
shown_texts options remarks = flat_map (shown_text options) remarks

-- The results, followed by the names that can't be read.
abbrev pub remarks_of : List Found → List (List ℕ) → List Remark
remarks_of found unread = map Classed found ++ map Unreadable unread

-- The number of results of a class, followed by a word.
abbrev pub class_text : Class → List Found → List ℕ → List ℕ
class_text class found word = decimal (count_by (is_of_class class) found) ++ word

-- The number of results of each class. JSON has none.
abbrev pub counts_text : Options → List Found → List (List ℕ) → List ℕ
counts_text options found unread =
    if has_objects options then [] else
    class_text Of.Same found (codes " same, ") ++ class_text Of.Changed found (codes " changed, ")
    ++ class_text Of.Moved found (codes " moved, ") ++ class_text Of.Copied found (codes " copied, ")
    ++ class_text Of.New found (codes " new, ") ++ class_text Of.Missing found (codes " missing, ")
    ++ decimal (length unread) ++ codes " unreadable" ++ (if options.ends_in_nul then 0 else 10) ∷ []

-- The results, the names that can't be read, and the numbers. Empty with `--status`.
abbrev pub report_text : Options → List Found → List (List ℕ) → List ℕ
report_text options found unread =
    if options.is_status_only then []
    else shown_texts options (remarks_of found unread) ++ counts_text options found unread

abbrev pub are_same : List Found → Bool
are_same [] = true
are_same (one ∷ found) = is_of_class Of.Same one && are_same found

-- The texts of the first of these results were printed.
abbrev pub PrintsFirst : {W : Type 0} → SinkRules W → Options → List Remark → W → W → Type 0
PrintsFirst writing options remarks old new =
    (done rest : List Remark) × (remarks ≡ done ++ rest) × Took writing (shown_texts options done) old new

-- The texts of the results were printed. If a write failed, a proper prefix was. If out of memory, the first were.
abbrev pub PrintsRemarks : {W : Type 0} → SinkRules W → Options → List Remark → W → W → Result (Unit {0}) Stop → Type 0
PrintsRemarks writing options remarks old new (Ok _) = Took writing (shown_texts options remarks) old new
PrintsRemarks writing options remarks old new (Err WriteFailed) =
    Refused writing (shown_texts options remarks) old new
PrintsRemarks writing options remarks old new (Err OutOfMemory) = PrintsFirst writing options remarks old new

-- The report was printed. If a write failed, a proper prefix of it was. If out of memory, its first texts were.
abbrev pub PrintsReport : {W T : Type 0} → SinkRules W → Options → List Found → List (List ℕ) → W → W → Result T Stop → Type 0
PrintsReport writing options found unread old new (Ok _) = Took writing (report_text options found unread) old new
PrintsReport writing options found unread old new (Err WriteFailed) =
    Refused writing (report_text options found unread) old new
PrintsReport writing options found unread old new (Err OutOfMemory) =
    PrintsFirst writing options (remarks_of found unread) old new
