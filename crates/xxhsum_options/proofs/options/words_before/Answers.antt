use Rattle.std.proofs.Common.{ap, map, sym, take, ◌∙◌}
use Rattle.std.proofs.lemmas.List.{take-map, take_min}
use Rattle.xxhsum_options.proofs.options.words_before.Goals as goal

pub returns : goal.returns
returns c =
    let words = c.args.words.now in
    ap (λ n. map (λ word. word.items) (take n words)) c.min.ensures
    ∙ ap (map (λ word. word.items)) (take_min c.args.place words) ∙ sym (take-map (λ word. word.items) c.args.place words)
