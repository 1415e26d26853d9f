-- The patterns of `--exclude`, and the names that they match.
use Rattle.std.specs.Prelude.{◌≡◌, ℕ, ◌+◌, Bool, true, false, not, ◌&&◌, ◌||◌, ◌==◌, List, [], ◌∷◌, ◌++◌, Option, Some, None, bytes_eq, codes, drop, length, option_to_list, if◌then◌else◌}
use Rattle.std.specs.List.{list_any}
use Rattle.xxhsum_options.specs.Number.{begins_with}
use Rattle.xxhsum_options.specs.declared.exclude.Ahead.{Ahead}
use Rattle.xxhsum_options.specs.declared.exclude.Ahead.TheVariants.{Fails, Matches, Star}

-- True if a suffix of the name, or the whole name, passes the test.
abbrev pub any_suffix : (List ℕ → Bool) → List ℕ → Bool
any_suffix test [] = test []
any_suffix test (byte ∷ name) = test (byte ∷ name) || any_suffix test name

-- True if the first byte of the name passes one test, and the bytes after it the other.
abbrev pub first_and : (ℕ → Bool) → (List ℕ → Bool) → List ℕ → Bool
first_and one others [] = false
first_and one others (byte ∷ name) = one byte && others name

-- True if the pattern matches the whole name. `*` matches any bytes, `?` any byte, `\` the byte after it, and any other
-- byte itself. If `is_quoted`, the pattern is what follows a `\`. A pattern that ends with such a `\` matches no name.
abbrev pub matches_from : Bool → List ℕ → List ℕ → Bool
matches_from is_quoted [] name = not is_quoted && bytes_eq name []
matches_from is_quoted (first ∷ pattern) name =
    if not is_quoted && first == 42 then any_suffix (matches_from false pattern) name
    else if not is_quoted && first == 92 then matches_from true pattern name
    else first_and (λ byte. byte == first || (not is_quoted && first == 63)) (matches_from false pattern) name

abbrev pub matches : List ℕ → List ℕ → Bool
matches pattern name = matches_from false pattern name

-- True if one of the patterns matches the name.
abbrev pub is_excluded : List (List ℕ) → List ℕ → Bool
is_excluded patterns name = list_any (λ pattern. matches pattern name) patterns

-- The pattern in an option word: the word itself after `--exclude`, or the rest of it after `--exclude=`.
abbrev pub pattern_of : Bool → List ℕ → Option (List ℕ)
pattern_of true word = Some word
pattern_of false word = if begins_with (codes "--exclude=") word then Some (drop 10 word) else None

-- The patterns in option words. If `is_awaited`, the first word follows `--exclude`.
abbrev pub patterns_from : Bool → List (List ℕ) → List (List ℕ)
patterns_from is_awaited [] = []
patterns_from is_awaited (word ∷ words) =
    option_to_list (pattern_of is_awaited word)
    ++ patterns_from (not is_awaited && bytes_eq word (codes "--exclude")) words

abbrev pub patterns_in : List (List ℕ) → List (List ℕ)
patterns_in words = patterns_from false words

-- ---- a pattern up to its next `*` (used by no public clause)

abbrev pub ahead_value : Ahead → Bool
ahead_value Fails = false
ahead_value Matches = true
ahead_value (Star pattern name) = any_suffix (matches pattern.now) name.now

-- No later suffix of the name matches more than the one at which the `*` was reached.
abbrev pub IsLeftmost : List ℕ → List ℕ → Ahead → Type 0
IsLeftmost pattern name Fails = Unit {0}
IsLeftmost pattern name Matches = Unit {0}
IsLeftmost pattern name (Star others left) =
    (k : ℕ) → matches pattern (drop k name) ≡ true → any_suffix (matches others.now) (drop k left.now) ≡ true

abbrev pub length_ahead : Ahead → ℕ
length_ahead Fails = 0
length_ahead Matches = 0
length_ahead (Star pattern name) = length pattern.now + 1
