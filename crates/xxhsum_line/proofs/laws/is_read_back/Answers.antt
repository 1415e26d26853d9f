use Rattle.xxhsum_line.proofs.Prelude.{◌≡◌, ◌++◌, ◌∷◌, [], sym, ◌∙◌, Some, Decides-eqb, strip_suffix_is, line_of}
use Rattle.xxhsum_line.proofs.PrintedFacts.{text_is_accepted}
use Rattle.xxhsum_line.proofs.laws.is_read_back.Goals as goal

pub is_read_as-requires : goal.is_read_as-requires
is_read_as-requires c =
    let bytes = c.as_slice-bytes.result.now in
    let text = c.in-Some.text.now in
    let name = c.args.name.now in
    let whole : bytes ≡ text ++ 10 ∷ [] = strip_suffix_is Decides-eqb bytes (10 ∷ []) (Some c.in-Some.text) c.in-Some.ensures.cases in
    let printed : c.in_ok-line.line.items ≡ line_of c.args.kind c.args.shape c.args.value name = c.in_ok-line.ensures in
    text_is_accepted c.args.kind c.args.shape c.args.value name text
    (sym printed ∙ sym c.as_slice-bytes.ensures.value ∙ whole) c.requires.in_range c.requires.no_nul
