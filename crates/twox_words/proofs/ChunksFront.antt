-- Lends a `&mut [T]` as a `&mut [[T; n]]` over its front and a `&mut [T]` over the rest. Assumes `Logic`.
use mathlib.Core.Path.{◌≡◌, refl, sym, ap, ◌∙◌}
use Prim.Native.Nat.{ℕ, ◌+◌, ◌*◌}
use native.Mathlib.Omega.{arith}
use mathlib.Core.List.{List, [], ◌∷◌, ◌++◌}
use lib.ListN.{length, length-append}
use seplogic.Ra.Ura.{Ura}
use mir.Syntax.{Lifetime}
use mir.Val.{Val}
use base.Logic.{SProp, ent, sep, ex, emp}
use base.Stored.{coded_list}
use base.Fml.{Lft, GName, Share, flft, fobs, fbor}
use types.Logic.{Logic, sem}
use types.Kit.{Item, ‵, ◌⊛◌, raw, ◌$◌, ◌∵◌, !, qed, by, move, keep, drop, fsplit, fsplit3, fjoin, updating, await, later, some, use1, group, pick, now, show, done, split3, rewrite, feq_l, feq_i, split, use2, given, learn}
use types.SemTy.{SemTy, cells, Arr, Body}
use types.Follow.{after₂, takes_two}
use types.Mut.{open_ref}
use denote.RattleType.{RattleType}
use denote.Memory.{mem}
use denote.ArrayMemory.{Single}
use denote.Array.{Array}
use denote.Slice.{MutSlice, Room, slice_val}
use denote.Steps.{nothing}
use denote.FollowSlice.{heres_id, slice_of}
use borrow.Table.Elements.{at, cut_app, join_app}
use Rattle.std.specs.List.{flat_map}
use Rattle.std.specs.Simd.{first_chunks}
use Rattle.std.below.core.proofs.slice.Relends.{length-first_chunks, runs_in, runs_out}

module _ {M : Type 1} {𝓤 : Ura M} (𝓛 : Logic 𝓤) (ℓ : Lifetime) (κ : Lft) (q : Share) (b o : ℕ) (γ : GName) where
  open 𝓛 use {H, A}

  module _ (R : RattleType) (single : Single R.mir) (n c : ℕ) (xs front back : List R.Denot) (cut : xs ≡ front ++ back) (p : ℕ) (on : at o (mem R).size (length front) ≡ p) (exact : c * n ≡ length front) where
    abbrev L : ℕ → SemTy
    L k = Arr (mem R) k

    abbrev K : ℕ → SemTy
    K k = Arr (mem (Array R n)) k

    abbrev ys : List (List R.Denot)
    ys = first_chunks n c front

    abbrev F : List (List R.Denot) → List R.Denot → List R.Denot
    F ws zs = flat_map (λ x. x) ws ++ zs

    joined : (vs zs : List R.Denot) → length vs ≡ length front → length zs ≡ length back
        → ent 𝓤 (sep 𝓤 (sem 𝓛 (cells (mem R) vs b o)) (sem 𝓛 (cells (mem R) zs b p))) (sem 𝓛 ((L (length xs)).own_at (vs ++ zs) b o))
    joined vs zs e k =
        let whole : length xs ≡ length front + length back = ap length cut ∙ length-append front back in
        let now_whole : length (vs ++ zs) ≡ length vs + length zs = length-append vs zs in
        qed 𝓛 (‵ (cells (mem R) vs b o) ∷ ‵ (cells (mem R) zs b p) ∷ []) ∵
        rewrite ! 1 (λ (j : ℕ). ‵ (cells (mem R) zs b j)) (sym (ap (at o (mem R).size) e ∙ on)) refl $
        use2 𝓛 (‵ (cells (mem R) (vs ++ zs) b o)) (join_app 𝓛 (mem R) vs zs b o) $ feq_i ! ℕ (length (vs ++ zs)) (length xs) (omega arith) $ fjoin ! $ done !

    apart : ent 𝓤 (sem 𝓛 (cells (mem R) xs b o)) (sep 𝓤 (sem 𝓛 (cells (mem R) front b o)) (sem 𝓛 (cells (mem R) back b p)))
    apart = qed 𝓛 (‵ (cells (mem R) xs b o) ∷ []) ∵ rewrite ! 0 (λ (l : List R.Denot). ‵ (cells (mem R) l b o)) cut refl $
        use1 𝓛 (‵ (cells (mem R) front b o) ⊛ ‵ (cells (mem R) back b (at o (mem R).size (length front)))) (cut_app 𝓛 (mem R) front back b o) $ split ! $
        rewrite ! 1 (λ (j : ℕ). ‵ (cells (mem R) back b j)) on refl $ done !

    module _ (rm : Room (Array R n) (length ys)) (rm' : Room R (length back)) where
      abbrev pub runs_lent : GName × GName → Item 𝓤
      runs_lent δ = ‵ ((MutSlice ℓ κ (Array R n)).own_val (record { ref_ptr = (b, o); ghost_name = δ.0; now = ys }) (slice_val (b, o) (length ys) ∷ [])) ⊛ ‵ ((MutSlice ℓ κ R).own_val (record { ref_ptr = (b, p); ghost_name = δ.1; now = back }) (slice_val (b, p) (length back) ∷ [])) ⊛ ‵ (flft κ q) ⊛ ‵ (after₂ (L 0) (K 0) (L 0) γ δ.0 δ.1 F)

      abbrev pub RunsLent : GName × GName → SProp 𝓤
      RunsLent δ = sep 𝓤 (sem 𝓛 ((MutSlice ℓ κ (Array R n)).own_val (record { ref_ptr = (b, o); ghost_name = δ.0; now = ys }) (slice_val (b, o) (length ys) ∷ []))) (sep 𝓤 (sem 𝓛 ((MutSlice ℓ κ R).own_val (record { ref_ptr = (b, p); ghost_name = δ.1; now = back }) (slice_val (b, p) (length back) ∷ []))) (sep 𝓤 (A.lft κ q) (sem 𝓛 (after₂ (L 0) (K 0) (L 0) γ δ.0 δ.1 F))))

      put_front : (ws : List (List R.Denot)) (zs : List R.Denot) → ent 𝓤 (sep 𝓤 (sem 𝓛 ((K (length ys)).own_at ws b o)) (sep 𝓤 (sem 𝓛 ((L (length back)).own_at zs b p)) (emp 𝓤))) (sem 𝓛 ((L (length xs)).own_at (F ws zs) b o))
      put_front ws zs = qed 𝓛 (‵ ((K (length ys)).own_at ws b o) ∷ ‵ ((L (length back)).own_at zs b p) ∷ raw (emp 𝓤) ∷ []) ∵ fsplit ! $ feq_l ! (λ e.
          use1 𝓛 (given (length (flat_map (λ x. x) ws) ≡ length ws * n) (‵ (cells (mem R) (flat_map (λ x. x) ws) b o))) (runs_out 𝓛 R single n b ws o) $ learn ! (λ l.
          move ! (1 ∷ []) $ fsplit ! $ feq_l ! (λ k.
          keep ! (1 ∷ 0 ∷ []) $ by ! (joined (flat_map (λ x. x) ws) zs (l ∙ ap (λ (j : ℕ). j * n) (e ∙ length-first_chunks n c front) ∙ exact) k))))

      pub lends_runs_front : (vs : List Val)
          → ent 𝓤 (sep 𝓤 (sem 𝓛 ((MutSlice ℓ κ R).own_val (record { ref_ptr = (b, o); ghost_name = γ; now = xs }) vs)) (A.lft κ q)) (H.⇛ (ex 𝓤 RunsLent))
      lends_runs_front vs = qed 𝓛 (‵ ((MutSlice ℓ κ R).own_val (record { ref_ptr = (b, o); ghost_name = γ; now = xs }) vs) ∷ ‵ (flft κ q) ∷ []) ∵ updating ! $ fsplit3 ! $ drop ! $
          rewrite ! 0 (λ (l : List R.Denot). ‵ (fobs γ ((coded_list R.coded).code l))) (heres_id R xs) refl $ open_ref ! tt (Arr (mem R) (length xs)) {b = b} {o = o} $ fsplit ! $ drop ! $
          use1 𝓛 (‵ (cells (mem R) front b o) ⊛ ‵ (cells (mem R) back b p)) apart $ split ! $
          use1 𝓛 (‵ (cells (mem (Array R n)) ys b o)) (runs_in 𝓛 R single n b c front o exact) $
          feq_i ! ℕ (length ys) (length ys) refl $ fjoin ! $ move ! (1 ∷ []) $
          feq_i ! ℕ (length back) (length back) refl $ fjoin ! $ nothing ! $ move ! (3 ∷ 4 ∷ 5 ∷ 2 ∷ 1 ∷ 0 ∷ []) $ group ! 6 $
          use1 𝓛 (later (some (λ (δ : GName × GName). (‵ (fobs δ.0 ((coded_list (Array R n).coded).code ys)) ⊛ ‵ (fbor κ (Body (K (length ys)) b o δ.0))) ⊛ (‵ (fobs δ.1 ((coded_list R.coded).code back)) ⊛ ‵ (fbor κ (Body (L (length back)) b p δ.1))) ⊛ ‵ (flft κ q) ⊛ ‵ (after₂ (L 0) (K 0) (L 0) γ δ.0 δ.1 F))))
          (takes_two 𝓛 (L (length xs)) (K (length ys)) (L (length back)) F κ q b o b o b p γ (emp 𝓤) put_front ((coded_list R.coded).code xs) ((coded_list R.coded).code xs) ys back) $ await ! tt $ pick ! (λ δ. split3 ! $
          use1 𝓛 (‵ ((MutSlice ℓ κ (Array R n)).own_val (record { ref_ptr = (b, o); ghost_name = δ.0; now = ys }) (slice_val (b, o) (length ys) ∷ []))) (slice_of 𝓛 (Array R n) ℓ κ b o δ.0 ys rm) $ move ! (1 ∷ []) $
          use1 𝓛 (‵ ((MutSlice ℓ κ R).own_val (record { ref_ptr = (b, p); ghost_name = δ.1; now = back }) (slice_val (b, p) (length back) ∷ []))) (slice_of 𝓛 R ℓ κ b p δ.1 back rm') $ move ! (1 ∷ 0 ∷ []) $ now ! $ show ! RunsLent δ $ done !)
