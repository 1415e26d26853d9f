use Rattle.std.proofs.Common.{sym, ◌∙◌}
use Rattle.xxhsum_options.proofs.ExcludeFacts.{settled}
use Rattle.xxhsum_options.proofs.exclude.search_ahead.Goals as goal

pub returns-in_default-match_ahead : goal.returns-in_default-match_ahead
returns-in_default-match_ahead c = record {
  value = settled c.args.pattern.now c.loop-rest.left.now c.match_ahead.result c.in_default-match_ahead.not-Fails c.match_ahead.ensures.value c.match_ahead.ensures.leftmost
      ∙ sym c.loop-rest.invariant;
  shorter = c.match_ahead.ensures.shorter;
}
