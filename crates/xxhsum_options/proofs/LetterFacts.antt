-- Lemmas on the letters that an option consumes, which the next step skips.
use Rattle.std.proofs.Common.{◌≡◌, ℕ, zero, suc, List, [], ◌∷◌, drop, refl, ◌∙◌, ap, Ok}
use Rattle.xxhsum_options.specs.declared.letters.Letter.{Letter}
use Rattle.xxhsum_options.specs.declared.options.Options.{Options}
use Rattle.xxhsum_options.specs.Letters.{after_letter, letter_of, letters_step}
use Rattle.std.proofs.lemmas.List.{take_rest}

letters_step-passed : (passed : ℕ) (options : Options) (letters : List ℕ) → letters_step passed options letters ≡ letters_step 0 options (drop passed letters)
letters_step-passed zero options letters = refl
letters_step-passed (suc passed) options [] = refl
letters_step-passed (suc passed) options (letter ∷ after) = letters_step-passed passed options after

pub letters_step-letter : (options : Options) (letter : ℕ) (after : List ℕ) (read : Letter) → letter_of options letter after ≡ Ok read → letters_step 0 options (letter ∷ after) ≡ letters_step 0 read.options (drop read.taken after)
letters_step-letter options letter after read is_read =
    ap (λ found. after_letter found (λ taken next. letters_step taken next after)) is_read ∙ letters_step-passed read.taken read.options after

-- Lemmas on the next letter.
pub ruleset letter_by_letter = (take_rest, letters_step-letter)
