use Rattle.twox_plain.proofs.Prelude.{◌++◌, ◌+◌, ◌-◌, ◌≡◌, arith, length, refl, subst, sym}
use Rattle.twox_plain.specs.Core64.{core_after_stripes}
use Rattle.twox_plain.specs.Units.{after_units}
use Rattle.twox_plain.specs.Record64.{Represents, parts, after_write}
use Rattle.twox_plain.specs.StateInMemory64.{record_of}
use Rattle.twox_plain.specs.declared.xxhash64.SavedState.{SavedState}
use Rattle.twox_plain.proofs.BlockStateFacts.{after_piece_kept}
use Rattle.twox_plain.proofs.Message64.{after_write_stands}
use Rattle.twox_plain.proofs.Usage64.{usage_marked}
use Rattle.twox_plain.proofs.xxhash64.StateInMemory.add_array.Goals as goal

pub returns-then-filled-clause-exact : goal.returns-then-filled-clause-exact
unfolding after_write core_after_stripes after_units
returns-then-filled-clause-exact g c =
    let old = record_of c.args.self.now in
    let d = c.args.bytes.now in
    let used = c.usage-filled.result in
    let width : used + g.row.N - used ≡ g.row.N = omega arith in
    let whole : length d ≡ g.row.N = omega arith in
    let kept = usage_marked (used + g.row.N) (omega arith) in
    rw (after_piece_kept 32 core_after_stripes (parts old).state d refl (omega (arith, whole, c.usage-filled.ensures)), c.set_usage.ensures, c.copy_from_slice.ensures.after, c.saturating_add-self.ensures, c.into_u64.ensures, whole, width, kept, c.usage-filled.ensures) refl

pub returns-then-filled-clause-message : goal.returns-then-filled-clause-message
returns-then-filled-clause-message g c = λ m stands.
    subst (λ (s : SavedState). Represents s (m ++ c.args.bytes.now)) (sym (returns-then-filled-clause-exact g c)) (after_write_stands (record_of c.args.self.now) m c.args.bytes.now (omega arith) stands)
