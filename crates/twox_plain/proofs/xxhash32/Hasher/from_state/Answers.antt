use Rattle.twox_plain.proofs.Prelude.{◌∙◌, arith, false≢true, refl, rules, sym}
use Rattle.twox_plain.proofs.Reachability32.{fits_stands, stands_fits}
use Rattle.twox_plain.proofs.xxhash32.Hasher.from_state.Goals as goal

pub returns-then-not-usage_fits-clause-reachable : goal.returns-then-not-usage_fits-clause-reachable
returns-then-not-usage_fits-clause-reachable c = (
  λ ok. absurd (false≢true ok),
  λ some. sym c.if-not-usage_fits.true ∙ c.usage_fits.ensures.1 (stands_fits c.args.state some.0 some.2).0,
)

pub returns-then-not-core_fits-clause-reachable : goal.returns-then-not-core_fits-clause-reachable
returns-then-not-core_fits-clause-reachable c = (
  λ ok. absurd (false≢true ok),
  λ some. sym c.if-not-core_fits.true ∙ c.core_fits.ensures.1 (stands_fits c.args.state some.0 some.2).1,
)

pub returns-clause-reachable : goal.returns-clause-reachable
returns-clause-reachable c = (
  λ ok.
      fits_stands c.args.state (omega arith) (omega arith) (record { v1 = omega arith; v2 = omega arith; v3 = omega arith; v4 = omega arith }) (search rules) (omega arith)
      (c.usage_fits.ensures.0 c.if-not-usage_fits.false)
      (c.core_fits.ensures.0 c.if-not-core_fits.false),
  λ some. refl,
)

-- ---- every record that represents a list of numbers

pub returns-then-not-usage_fits-clause-accepted : goal.returns-then-not-usage_fits-clause-accepted
returns-then-not-usage_fits-clause-accepted c = λ m stands.
    sym c.if-not-usage_fits.true ∙ c.usage_fits.ensures.1 (stands_fits c.args.state m stands).0

pub returns-then-not-core_fits-clause-accepted : goal.returns-then-not-core_fits-clause-accepted
returns-then-not-core_fits-clause-accepted c = λ m stands.
    sym c.if-not-core_fits.true ∙ c.core_fits.ensures.1 (stands_fits c.args.state m stands).1
