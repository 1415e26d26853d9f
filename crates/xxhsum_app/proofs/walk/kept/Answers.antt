use Rattle.xxhsum_app.proofs.Prelude.{◌++◌, ◌∙◌, ap, flat_map, kept_name, map, map-more, patterns_in, sym, take}
use Rattle.xxhsum_app.proofs.RowFacts.{flat-push}
use Rattle.xxhsum_app.proofs.walk.kept.Goals as goal

pub loop-name-preserved : goal.loop-name-preserved
loop-name-preserved c =
    let one = kept_name (patterns_in (map (λ flag. flag.items) c.args.flags.now)) in
    let before = map (λ name. name.items) (take c.loop-name.name-index c.args.names.now) in
    let longer = map-more (λ name. name.items) c.args.names.now c.loop-name.name-index c.name-item.result c.loop-name-test.true c.name-item.is in
    let adds = rw c.deref.ensures.value at c.in_ok-add_kept.ensures in
    adds ∙ ap (λ names. names ++ one c.name-item.result.items) c.loop-name.invariant
    ∙ sym (ap (flat_map one) longer ∙ flat-push one before c.name-item.result.items)
