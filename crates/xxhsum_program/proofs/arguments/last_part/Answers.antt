use Rattle.xxhsum_program.proofs.Prelude.{◌++◌, ◌+◌, ◌<◌, ◌∙◌, ◌∷◌, ◌≡◌, ap, arith, at_place, inl, inr, is_byte, lacks_by_place, lacks_from, length, refl, rules, slice_index, subst, sym, take, take_rest}
use Rattle.xxhsum_line.specs.Parts.{Lacks}
use Rattle.xxhsum_program.proofs.arguments.last_part.Goals as goal

pub returns-in-Some : goal.returns-in-Some
returns-in-Some c =
    let path = c.args.path.now in
    let place = c.in-Some.place in
    let inside : place < length path = c.in-Some.ensures.0.high in
    let slash : slice_index path place ≡ 47 = search rules in (
      subst (Lacks 47) (sym (take_rest path (place + 1)))
          (lacks_from 47 path (place + 1) (λ k low lt e. c.in-Some.ensures.0.after k low lt (ap (λ x. is_byte 47 x) e))),
      inr (take place path, at_place path place 47 inside slash ∙ ap (λ r. take place path ++ 47 ∷ r) (sym (take_rest path (place + 1)))),
    )

pub returns-in-None : goal.returns-in-None
returns-in-None c =
    (lacks_by_place 47 c.args.path.now (λ k lt e. c.in-None.ensures k (omega arith) lt (ap (λ x. is_byte 47 x) e)), inl refl)
