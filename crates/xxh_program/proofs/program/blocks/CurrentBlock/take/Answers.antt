use Rattle.std.proofs.Common.{◌≡◌, ◌<◌, ◌-◌, ◌++◌, ◌∙◌, [], List, ℕ, IfErr, Err, refl, sym, ap, subst, append-nil, append_assoc, take-append-drop, arith, rules, Result}
use Rattle.std.proofs.lemmas.Grind.{common_steps}
use Rattle.xxh_io.specs.declared.digest_error.DigestError.{DigestError}
use Rattle.xxh_io.specs.declared.digest_error.DigestError.TheVariants.{WriteFailed}
use Rattle.xxh_program.specs.Blocks.{added_lines}
use Rattle.xxh_program.specs.BlockState.{HasTaken}
use Rattle.xxh_io.specs.Digest.{Writes, Refused}
use Rattle.xxh_io.specs.Waiting.{Gathers, waiting_bytes}
use Rattle.xxh_program.proofs.BlockFacts.{added-nil, added-append}
use Rattle.xxh_io.proofs.WriteFacts.{Gathers-push, Gathers-flush, Gathers-refused, Writes-refused, write-failed}
use Rattle.xxh_program.proofs.program.blocks.CurrentBlock.take.Goals as goal

pub loop-rest-init : goal.loop-rest-init
loop-rest-init g c = record {
  works = search rules;
  same = refl;
  done = [];
  cut = refl;
  follows = λ m before. subst (HasTaken c.args.self.now) (sym (append-nil m)) before;
  wrote = λ m before. ([], ([], refl, refl), c.new-lines.ensures.bytes ∙ sym (added-nil c.args.self.now.size m));
}

pub returns-then-rest-room-clause-follows : goal.returns-then-rest-room-clause-follows
returns-then-rest-room-clause-follows g c =
    let so_far = c.loop-rest.invariant in
    let rest = c.loop-rest.rest.now in
    let all : (m : List ℕ) → HasTaken c.args.self.now m → HasTaken c.extend.new.self (m ++ c.args.piece.now) = λ m before. subst (HasTaken c.extend.new.self) (append_assoc m so_far.done rest ∙ ap (λ d. m ++ d) (sym so_far.cut)) (c.extend.ensures.follows (m ++ so_far.done) (so_far.follows m before)).0 in
    search (rules, all)

pub returns-then-rest-room-clause-writes : goal.returns-then-rest-room-clause-writes
returns-then-rest-room-clause-writes g c = λ m before.
    let so_far = c.loop-rest.invariant in
    let rest = c.loop-rest.rest.now in
    let b = c.args.self.now.size in
    let inside : c.args.self.now.count < b = c.args.self.now.short in
    let some : 0 < b = omega arith in
    let none : added_lines b (m ++ so_far.done) rest ≡ [] =
    subst (λ k. added_lines k (m ++ so_far.done) rest ≡ []) so_far.same (c.extend.ensures.follows (m ++ so_far.done) (so_far.follows m before)).1 in
    let lines : added_lines b m c.args.piece.now ≡ added_lines b m so_far.done =
    ap (added_lines b m) so_far.cut ∙ added-append b m so_far.done rest some ∙ ap (λ x. added_lines b m so_far.done ++ x) none ∙ append-nil (added_lines b m so_far.done) in
    subst (λ (x : List ℕ). Writes g.W.Sink x c.args.w.now c.flush.new.w c.flush.result) (sym lines)
    (Gathers-flush g.W.Sink _ _ _ _ _ c.flush.result c.flush.ensures.only (so_far.wrote m before) c.flush.ensures.writes)

pub returns-in_err-push-clause-writes : goal.returns-in_err-push-clause-writes
returns-in_err-push-clause-writes g c = λ m before.
    let so_far = c.loop-rest.invariant in
    let rest = c.loop-rest.rest.now in
    let b = c.args.self.now.size in
    let inside : c.args.self.now.count < b = c.args.self.now.short in
    let some : 0 < b = omega arith in
    let lines : added_lines b m c.args.piece.now ≡ added_lines b m so_far.done ++ added_lines b (m ++ so_far.done) rest =
    ap (added_lines b m) so_far.cut ∙ added-append b m so_far.done rest some in
    let failed : ◌≡◌ {A = Result (Unit {0}) DigestError} (Err c.in_err-push.field-0.0) (Err WriteFailed) = ap Err c.in_err-push.ensures.only in
    let only : IfErr c.from_residual.result (λ e. e ≡ WriteFailed) = first_of (search rules, grind (arith, common_steps)) in
    let is : c.from_residual.result ≡ Err WriteFailed = write-failed c.from_residual.result c.from_residual.ensures.0 only in
    Writes-refused g.W.Sink _ _ _ c.from_residual.result is
    (subst (λ (x : List ℕ). Refused g.W.Sink x c.args.w.now c.push.new.w) (sym lines)
    (Gathers-refused g.W.Sink _ (added_lines b (m ++ so_far.done) rest) _ _ _ _ (so_far.wrote m before) c.in_err-push.ensures.refused))

pub loop-rest-preserved : goal.loop-rest-preserved
loop-rest-preserved g c =
    let so_far = c.loop-rest.invariant in
    let front = c.split_at.result.0.now in
    let after = c.split_at.result.1.now in
    let b = c.args.self.now.size in
    let inside : c.args.self.now.count < b = c.args.self.now.short in
    let some : 0 < b = omega arith in
    let parts : c.loop-rest.rest.now ≡ front ++ after =
    sym (rw (c.split_at.ensures.front, c.split_at.ensures.back) (take-append-drop (c.loop-rest.self.size - c.loop-rest.self.count) c.loop-rest.rest.now)) in
    record {
      works = search rules;
      same = c.complete-line.ensures.size ∙ so_far.same;
      done = so_far.done ++ front;
      cut = so_far.cut ∙ ap (λ x. so_far.done ++ x) parts ∙ sym (append_assoc so_far.done front after);
      follows = λ m before. subst (HasTaken c.complete-line.new.self) (append_assoc m so_far.done front) (c.complete-line.ensures.follows (m ++ so_far.done) (so_far.follows m before)).0;
      wrote = λ m before.
          let line : c.complete-line.result ≡ added_lines b (m ++ so_far.done) front =
          sym (subst (λ k. added_lines k (m ++ so_far.done) front ≡ c.complete-line.result) so_far.same (c.complete-line.ensures.follows (m ++ so_far.done) (so_far.follows m before)).1) in
          let more : Gathers g.W.Sink (waiting_bytes c.loop-rest.lines ++ added_lines b (m ++ so_far.done) front) c.loop-rest.w c.push.new.w (waiting_bytes c.push.new.self) =
          subst (λ (x : List ℕ). Gathers g.W.Sink (waiting_bytes c.loop-rest.lines ++ x) c.loop-rest.w c.push.new.w (waiting_bytes c.push.new.self)) line c.in_ok-push.ensures.gathers in
          subst (λ (x : List ℕ). Gathers g.W.Sink x c.args.w.now c.push.new.w (waiting_bytes c.push.new.self)) (sym (added-append b m so_far.done front some))
          (Gathers-push g.W.Sink _ _ _ _ _ _ _ (so_far.wrote m before) more);
    }
