-- What a run reads: a store of files, and standard input or another source.
use Rattle.xxh_io.specs.Rules.{SourceRules}
use Rattle.xxhsum_fs.specs.Rules.{StoreRules}

-- A store at one state, with its rules and those of its files.
pub record Files (S F : Type 0) : Type 1 where
  pub opening : StoreRules S F
  pub reading : SourceRules F
  pub store : S

abbrev pub files_of : {S F : Type 0} → StoreRules S F → SourceRules F → S → Files S F
files_of opening reading store = record { opening = opening; reading = reading; store = store }

-- A source at one state, with its rules.
pub record Input (R : Type 0) : Type 1 where
  pub reading : SourceRules R
  pub source : R

abbrev pub input_of : {R : Type 0} → SourceRules R → R → Input R
input_of reading source = record { reading = reading; source = source }
