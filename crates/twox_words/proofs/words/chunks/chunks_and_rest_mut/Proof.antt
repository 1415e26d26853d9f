-- `chunks_and_rest_mut` lends the first c chunks of N elements and the rest, for every T and N. Assumes `Logic`.
use mathlib.Core.Path.{◌≡◌, refl, sym, subst, ap, ◌∙◌}
use Prim.Native.Nat.{ℕ, ◌*◌, ◌^◌, ◌<◌, ◌≤◌, ◌+◌, ◌-◌}
use native.Mathlib.Omega.{arith}
use mathlib.Core.List.{List, [], ◌∷◌}
use lib.ListN.{length, take, drop as drop_list, take-append-drop, length-drop}
use seplogic.Ra.Ura.{Ura}
use mir.Syntax.{Args, Body, Fn, named, w64, a_type, a_number, seq, assign, place, rv_opd, copy, return}
use mir.MapTy.{inst_fn}
use mir.Val.{Val, vint, vstruct, vcons, vnil}
use base.Logic.{SProp, ent}
use base.Fml.{Lft, GName, Share, ftrue, flft}
use prog.Memory.{Memory, size}
use prog.Routine.{Routine}
use prog.Wp.{Env, Calls, Loops, WpFn, Tables}
use types.Logic.{Logic}
use contract.BorrowLft.{◌⊑◌}
use contract.Lifetimes.{AllOutlive}
use contract.Monad.{Fun}
use contract.Running.{tables, tables_of}
use sound.WpLaws.{WpFn-mono}
use types.Kit.{‵, ◌⊛◌, raw, given, some, later, at_ret, ◌$◌, ◌∵◌, !, qed, by, move, keep, drop, split, split3, join, learn, fsplit, fjoin, use2, await, pick, suffices, frame, done, fpack, feq_i}
use types.Part.{whole, sub, agg}
use types.Run.{stop, fld, hop, from, addr, bin, and_then, no_more, of_opd, first, blocks, exec, returns, enter, size_word}
use types.ByLocal.{alloc_all, pass_all, free_all, look_at, look_in_at, get, sets, sets_last, env, is, get_in}
use denote.Array.{Array}
use denote.Builtin.{usize}
use denote.Exit.{yes, no}
use denote.Param.{param, number, layout, layouts}
use denote.Plain.{uint_vals, uint_Tells}
use denote.RattleType.{RattleType, owns, Valss}
use denote.Ref.{MutBor}
use denote.Signature.{plain, mut_slice_of}
use denote.Slice.{MutSlice, Room, slice_val, mut_slice_vals, mut_slice_Tells}
use denote.Steps.{nothing}
use denote.Triple.Clauses.{Clauses, Ended, closing}
use denote.Triple.Entry.{on_entry}
use denote.Triple.Spec.{Meets, triple_of}
use denote.Triple.Table.{entered}
use denote.Triple.Walked.{says, Stays, stay_dropped, walk_of, ends_at, walked, Goes-dropped, Goes-spent_slice, walk_Meets}
use native.Mathlib.Nat.{mul-le-mul_right, mul_assoc}
use borrow.Table.Elements.{at, at_mul, length-take-le}
use denote.Struct.Struct.{within as laid_within}
use denote.Struct.Tuple.{tuple_type}
use denote.Struct.Declared.{shape}
use denote.Follow.{both_by}
use Rattle.std.below.core.proofs.slice.Relends.{uncapped, length-first_chunks}
use Rattle.std.specs.Simd.{first_chunks}
use Rattle.twox_words.proofs.ChunksFront.{runs_lent, lends_runs_front}
use Rattle.twox_words.specs.contracts.words.chunks.chunks_and_rest_mut.Key.{name as #self}
use Rattle.twox_words.specs.contracts.words.chunks.chunks_and_rest_mut as F
use Rattle.twox_words.proofs.words.chunks.chunks_and_rest_mut.Statement as stated
use Rattle.twox_words.proofs.words.chunks.chunks_and_rest_mut.Code as code

module _ (X : RattleType) (n : ℕ) where
  abbrev args : Args
  args = layouts (a_type ∷ a_number ∷ []) (X, (number n, tt))

  abbrev function : Fn
  function = inst_fn args code.function

  abbrev R : RattleType
  R = param 0 X

  abbrev ended : Ended
  ended = F.ended X (number n)

  abbrev stayed : Stays ended.signature.params ended.kept
  stayed = (stay_dropped (mut_slice_of (0 ∷ []) tt (plain (λ _. R))) no, (stay_dropped (plain (λ _. usize)) yes, (stay_dropped (plain (λ _. usize)) yes, tt)))

abbrev rest : Body
rest = seq (assign (place 0 []) (rv_opd (copy (place 6 [])))) return

module _ (X : RattleType) (n : ℕ) {M : Type 1} {𝓤 : Ura M} (𝓛 : Logic 𝓤) (at_mem : Memory → SProp 𝓤) (run : Routine → Fun 𝓤) where
  open 𝓛 use {H}

  abbrev clauses : Clauses 𝓤 (ended X n)
  clauses = F.clauses X (number n) 𝓛 at_mem run

  module _ (C : Calls 𝓤 H) (Λ : Loops 𝓤 H) (κ κT κN : Lft) (q qT qN : Share) (bd : AllOutlive 3 (ended X n).signature.outlives (κ, (κT, (κN, tt)))) (b o : ℕ) (γ : GName) (xs : List (R X n).Denot) (c m : ℕ) where
    abbrev self : MutBor (List (R X n).Denot)
    self = record { ref_ptr = (b, o); ghost_name = γ; now = xs }

    abbrev bound : (walk_of 𝓛 (ended X n) (stayed X n) clauses).Ghost
    bound = (((κ, (κT, (κN, tt))), (q, (qT, (qN, tt))), bd, (self, (c, (m, tt))), (mut_slice_vals self, (vint w64 c ∷ [], (vint w64 m ∷ [], tt)))), tt)

    abbrev Post : Val → SProp 𝓤
    Post = (walk_of 𝓛 (ended X n) (stayed X n) clauses).post bound

    walk : Room (R X n) (length xs) → c < 2 ^ 64 → m < 2 ^ 64 → c * n ≡ m → m ≤ length xs → ent 𝓤 (on_entry 𝓛 (ended X n).signature (κ, (κT, (κN, tt))) (q, (qT, (qN, tt))) (self, (c, (m, tt))) (mut_slice_vals self, (vint w64 c ∷ [], (vint w64 m ∷ [], tt)))) (WpFn 𝓤 H C Λ (function X n) (slice_val (b, o) (length xs) ∷ vint w64 c ∷ vint w64 m ∷ []) Post)
    unfolding both_by
    walk rm fc fm is_n le =
        let s : ℕ = size (layout X) in
        let fit : length xs * s < 2 ^ 63 = rm.1 in
        let within : m * s ≤ length xs * s = mul-le-mul_right s (omega arith) in
        let fs : m * s < 2 ^ 64 = omega arith in
        let front : List X.Denot = take m xs in
        let lf : length front ≡ m = length-take-le m xs (omega arith) in
        let lb : length (drop_list m xs) ≡ length xs - m = length-drop m xs in
        let on : at o s (length front) ≡ m * s + o = at_mul o s (length front) ∙ ap (λ (k : ℕ). k * s + o) lf in
        let back : List X.Denot = drop_list m xs in
        let fn : length xs < 2 ^ 64 = rm.0 in
        let fr : length xs - m < 2 ^ 64 = omega arith in
        let less : length back * s ≤ length xs * s = mul-le-mul_right s (omega arith) in
        let exact : c * n ≡ length front = is_n ∙ sym lf in
        let ys : List (List X.Denot) = first_chunks n c front in
        let many : length ys ≡ c = length-first_chunks n c front in
        let same : c * n * s ≡ m * s = ap (λ (k : ℕ). k * s) is_n in
        let grouped : c * n * s ≡ c * (n * s) = mul_assoc c n s in
        let small : c * (n * s) < 2 ^ 63 = omega arith in
        let roomy_front : Room (Array (R X n) n) (length ys) = subst (Room (Array (R X n) n)) (sym many) (fc, small) in
        let roomy : Room (R X n) (length back) = (omega arith, omega arith) in
        let halves : List RattleType = MutSlice (named 0) κ (Array (R X n) n) ∷ MutSlice (named 0) κ (R X n) ∷ [] in
        let one : GName × GName → MutBor (List (List X.Denot)) = λ δ. record { ref_ptr = (b, o); ghost_name = δ.0; now = ys } in
        let two : GName × GName → MutBor (List X.Denot) = λ δ. record { ref_ptr = (b, m * s + o); ghost_name = δ.1; now = back } in
        let v : Val = vstruct (vcons (slice_val (b, o) c) (vcons (slice_val (b, m * s + o) (length xs - m)) vnil)) in
        qed 𝓛 ((‵ (flft κ q) ⊛ ‵ (flft κT qT) ⊛ ‵ (flft κN qN) ⊛ ‵ ftrue) ∷ ‵ (owns (MutSlice (named 0) κ (R X n) ∷ usize ∷ usize ∷ []) (self, (c, (m, tt))) (mut_slice_vals self, (vint w64 c ∷ [], (vint w64 m ∷ [], tt)))) ∷ []) ∵ enter ! C Λ (function X n) (slice_val (b, o) (length xs) ∷ vint w64 c ∷ vint w64 m ∷ []) _ $
        alloc_all ! (λ l. pass_all ! refl ((tt, (tt, (record { fits = rm.0 }, tt))), ((tt, record { fits = fc }), ((tt, record { fits = fm }), tt))) $
        let En : Env 𝓤 H = env (function X n).locals l in
        sets ! (of_opd ! (get_in ! (fld ! refl (stop !)) (sub ! 1 refl (whole !)))) refl (tt, record { fits = fn }) $
        sets ! (addr ! (from ! (fld ! refl (hop ! (look_in_at ! 1 (sub ! 0 refl (whole !))) (stop !))))) refl (tt, tt) $
        first ! $ blocks ! $
        sets ! (of_opd ! (get ! refl)) refl (tt, tt) $
        sets ! (agg ! (and_then ! (get ! refl) (and_then ! (get ! refl) (no_more !)))) refl (tt, (tt, (record { fits = fc }, tt))) $
        sets ! (is ! (bin ! (get ! refl) (size_word !) (record { fits = subst (λ (k : ℕ). k < 2 ^ 64) (sym (uncapped m s fs)) fs })) (ap (vint w64) (uncapped m s fs))) refl (tt, record { fits = fs }) $
        sets ! (bin ! (get ! refl) (get ! refl) tt) refl (tt, tt) $
        sets ! (bin ! (get ! refl) (get ! refl) le) refl (tt, record { fits = fr }) $
        sets ! (agg ! (and_then ! (get ! refl) (and_then ! (get ! refl) (no_more !)))) refl (tt, (tt, (record { fits = fr }, tt))) $
        sets_last ! (agg ! (and_then ! (get ! refl) (and_then ! (get ! refl) (no_more !)))) refl (tt, ((tt, (record { fits = fc }, tt)), ((tt, (record { fits = fr }, tt)), tt))) $
        exec ! C Λ En rest (at_ret En Post) $
        sets ! (of_opd ! (get ! refl)) refl (tt, ((tt, (record { fits = fc }, tt)), ((tt, (record { fits = fr }, tt)), tt))) $
        split ! $ move ! (2 ∷ []) $ fsplit ! $ move ! (0 ∷ 2 ∷ []) $
        use2 𝓛 (later (some (runs_lent 𝓛 (named 0) κ q b o γ (R X n) tt n c xs front back (sym (take-append-drop m xs)) (m * s + o) on exact roomy_front roomy))) (lends_runs_front 𝓛 (named 0) κ q b o γ (R X n) tt n c xs front back (sym (take-append-drop m xs)) (m * s + o) on exact roomy_front roomy (mut_slice_vals self)) $ await ! tt $ pick ! (λ δ.
        split3 ! $ nothing ! $ move ! (2 ∷ 0 ∷ []) $ fjoin ! $ move ! (1 ∷ 0 ∷ []) $ fjoin ! $
        feq_i ! (List Val) (v ∷ []) (vstruct (vcons (slice_val (b, o) (length ys)) (vcons (slice_val (b, m * s + o) (length back)) vnil)) ∷ []) (λ k. vstruct (vcons (slice_val (b, o) (sym many k)) (vcons (slice_val (b, m * s + o) (sym lb k)) vnil)) ∷ []) $ fjoin ! $
        fpack ! (Valss halves) (laid_within (shape (tuple_type halves)) (one δ, (two δ, tt)) (v ∷ [])) (slice_val (b, o) (length ys) ∷ [], (slice_val (b, m * s + o) (length back) ∷ [], tt)) $
        move ! (1 ∷ []) $ split ! $ move ! (2 ∷ 0 ∷ 1 ∷ []) $
        returns ! (look_at ! 0 refl) $ free_all ! refl $ keep ! (0 ∷ 1 ∷ 2 ∷ 4 ∷ []) $
        suffices ! _ (ends_at 𝓛 (ended X n) (stayed X n) clauses bound v (one δ, two δ) (tt, (tt, (tt, tt))) (tt, (tt, (tt, tt)))) $
        nothing ! $ nothing ! $ fjoin ! $ nothing ! $ fjoin ! $ nothing ! $ fjoin ! $ join ! $ move ! (1 ∷ 3 ∷ []) $ join ! $ join ! $ frame ! $ says ! (refl, many, refl) $ done !))

  meets : (𝓣 : Tables 𝓤 H) → Meets 𝓛 (ended X n).signature (WpFn 𝓤 H 𝓣.C 𝓣.Λ (function X n)) (closing 𝓛 (ended X n) clauses)
  meets 𝓣 =
      walk_Meets 𝓛 (ended X n) (stayed X n) (Goes-spent_slice 𝓛 3 (0 ∷ []) tt (plain (λ _. R X n)), (Goes-dropped 𝓛 3 (plain (λ _. usize)) yes (λ κs x f. refl), (Goes-dropped 𝓛 3 (plain (λ _. usize)) yes (λ κs x f. refl), tt))) clauses (WpFn 𝓤 H 𝓣.C 𝓣.Λ (function X n)) (WpFn-mono 𝓤 H 𝓛.laws 𝓣 (function X n))
      (walked 𝓛 (ended X n) (stayed X n) clauses (WpFn 𝓤 H 𝓣.C 𝓣.Λ (function X n)) (λ κs. (mut_slice_vals, (uint_vals w64, (uint_vals w64, tt)))) (λ κs. (mut_slice_Tells (named 0) κs.0 (R X n), (uint_Tells w64, (uint_Tells w64, tt))))
      (λ κs qs bounds a g are.
      let On : SProp 𝓤 = on_entry 𝓛 (ended X n).signature κs qs a (mut_slice_vals a.0, (vint w64 a.1.0 ∷ [], (vint w64 a.1.1.0 ∷ [], tt))) in
      qed 𝓛 (raw On ∷ (given (κs.1.0 ⊑ X.lives) (‵ ftrue) ⊛ given (κs.1.1.0 ⊑ []) (‵ ftrue) ⊛ given (n * size (layout X) < 2 ^ 63) (‵ ftrue) ⊛ given (a.1.0 * n ≡ a.1.1.0) (‵ ftrue) ⊛ given (a.1.1.0 ≤ length a.0.now) (‵ ftrue)) ∷ []) ∵
      move ! (1 ∷ []) $ split3 ! $ drop ! $ drop ! $ split ! $ drop ! $ split ! $ learn ! (λ is_n. drop ! $ learn ! (λ le. drop ! $
      by ! (walk 𝓣.C 𝓣.Λ κs.0 κs.1.0 κs.1.1.0 qs.0 qs.1.0 qs.1.1.0 bounds a.0.ref_ptr.0 a.0.ref_ptr.1 a.0.ghost_name a.0.now a.1.0 a.1.1.0 are.0.0.1 are.1.0.1 are.1.1.0.1 is_n le)))))

pub chunks_and_rest_mut_spec : {M : Type 1} → stated.statement M
unfolding tables_of
chunks_and_rest_mut_spec 𝓤 𝓛 𝓜 𝓡 wired X n L fits =
    let A = 𝓛.A in
    let 𝓣 : Tables 𝓤 𝓛.H = tables_of 𝓤 𝓛.H 𝓜 (tables 𝓤 𝓛.H 𝓜 𝓡 𝓡.env) in
    entered 𝓤 𝓛.H (triple_of 𝓛 (ended X n).signature (F.spec X (number n) 𝓛 𝓜.mem 𝓡.returns)) 𝓣.C 𝓣.Λ (#self (args X n)) (function X n) (code.unfolded 𝓤 𝓛.H 𝓜 𝓡 wired (X, (number n, tt)))
    (meets X n 𝓛 𝓜.mem 𝓡.returns 𝓣)
