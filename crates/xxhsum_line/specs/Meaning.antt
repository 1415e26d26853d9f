-- The meaning of a line: an entry, a comment, or malformed.
use Rattle.std.specs.Prelude.{ℕ, ◌≡◌, ◌<◌, ◌^◌, Bool, true, List}
use Rattle.xxh_io.specs.Kind.{digits_of}
use Rattle.xxhsum_line.specs.Entry.{Says, SaysNothing, is_comment}
use Rattle.xxhsum_line.specs.declared.entry.Meaning.{Meaning}
use Rattle.xxhsum_line.specs.declared.entry.Meaning.TheVariants.{Entry, Comment, Malformed}

abbrev pub Means : Bool → List ℕ → Meaning → Type 0
Means is_little line (Entry entry) = Says is_little line entry.kind entry.value entry.name.items
Means is_little line Comment = is_comment line ≡ true
Means is_little line Malformed = SaysNothing is_little line

-- The value of an entry has no more digits than its algorithm.
abbrev pub FitsKind : Meaning → Type 0
FitsKind (Entry entry) = entry.value < 16 ^ digits_of entry.kind
FitsKind Comment = Unit {0}
FitsKind Malformed = Unit {0}
