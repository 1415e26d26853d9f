-- Proves that reads consume their chunks, joined, and that writes append theirs, on streams that expose their bytes.
use Rattle.std.proofs.Common.{ℕ, List, [], ◌∷◌, subst, sym, Option}
use Rattle.std.specs.List.{concat}
use Rattle.std.specs.Io.KnownBytes.{Appends, Consumes}
use Rattle.std.proofs.KnownBytes.{Appends-nil, Appends-trans, Consumes-nil, Consumes-trans}
use Rattle.xxh_io.specs.Pieces.{Pieces}

module _ {S : Type 0} (known : S → Option (List ℕ)) (step : S → List ℕ → S → Type 0) where
  pub Consumes-pieces : ((s : S) (piece : List ℕ) (t : S) → step s piece t → Consumes (known s) (known t) piece) → (old new : S) (pieces : List (List ℕ)) → Pieces step old pieces new → Consumes (known old) (known new) (concat pieces)
  Consumes-pieces each old new [] led = subst (λ s. Consumes (known old) (known s) []) (sym led) (Consumes-nil (known old))
  Consumes-pieces each old new (p ∷ ps) led = Consumes-trans _ _ _ p (concat ps) (each old p led.0 led.1) (Consumes-pieces each led.0 new ps led.2)

  pub Appends-pieces : ((s : S) (piece : List ℕ) (t : S) → step s piece t → Appends (known s) (known t) piece) → (old new : S) (pieces : List (List ℕ)) → Pieces step old pieces new → Appends (known old) (known new) (concat pieces)
  Appends-pieces each old new [] led = subst (λ s. Appends (known old) (known s) []) (sym led) (Appends-nil (known old))
  Appends-pieces each old new (p ∷ ps) led = Appends-trans _ _ _ p (concat ps) (each old p led.0 led.1) (Appends-pieces each led.0 new ps led.2)
