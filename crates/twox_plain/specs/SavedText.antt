-- The saved texts of both plain hashes, and how they are read. The hashes differ in the width of their words, the bytes
-- of a stripe and the types of their records; all three are arguments here.
use Rattle.std.specs.Prelude.{ℕ, suc, map, ◌==◌, ◌^◌, List, [], ◌∷◌, ◌++◌, if◌then◌else◌, nat_lt, Option, Some, None, option_map, option_and_then, codes, decimal}
use Rattle.serde_json.specs.Data.{Data, number, unsigned, array, object, no_members, member, Items, no_items, item}
use Rattle.serde_json.specs.Find.{get, as_number, as_u64, as_array}
use Rattle.serde_json.specs.View.{items_of}

-- ---- reading

-- the number, if it is below the limit
abbrev pub number_below : ℕ → ℕ → Option ℕ
number_below limit x = if nat_lt x limit then Some x else None

-- a value that is a whole number below the limit, as `as_u64` of `serde_json` reads it
abbrev pub whole_number : ℕ → Data → Option ℕ
whole_number limit d = option_and_then (number_below limit) (option_and_then as_u64 (as_number d))

-- the member of an object that is such a number
abbrev pub number_member : ℕ → List ℕ → Data → Option ℕ
number_member limit name d = option_and_then (whole_number limit) (get name d)

-- the items, each of them a byte
abbrev pub item_bytes : Items → Option (List ℕ)
item_bytes no_items = Some []
item_bytes (item d ds) = option_and_then (λ b. option_map (λ bs. b ∷ bs) (item_bytes ds)) (whole_number 256 d)

abbrev pub item_count : Items → ℕ
item_count no_items = 0
item_count (item d ds) = suc (item_count ds)

-- exactly n items, each of them a byte
abbrev pub bytes_of_count : ℕ → Items → Option (List ℕ)
bytes_of_count n ds = if item_count ds == n then item_bytes ds else None

-- an array of exactly n bytes
abbrev pub bytes_of_data : ℕ → Data → Option (List ℕ)
bytes_of_data n d = option_and_then (bytes_of_count n) (as_array d)

-- the object of the members v1 to v4, each below the limit; others are ignored
abbrev pub core_of_data : {C : Type 0} → ℕ → (ℕ → ℕ → ℕ → ℕ → C) → Data → Option C
core_of_data limit core d =
    option_and_then (λ a. option_and_then (λ b. option_and_then (λ c. option_map (λ e. core a b c e)
    (number_member limit (codes "v4") d))
    (number_member limit (codes "v3") d))
    (number_member limit (codes "v2") d))
    (number_member limit (codes "v1") d)

-- the record of an object's members: a stripe of bytes, and a seed below the limit; others are ignored
abbrev pub record_of_data : {C S : Type 0} → ℕ → ℕ → (Data → Option C) → (ℕ → ℕ → C → List ℕ → ℕ → S)
    → Data → Option S
record_of_data limit stripe core_of record_of d =
    option_and_then (λ bs. option_and_then (λ u. option_and_then (λ c. option_and_then (λ s. option_map (λ t. record_of t s c bs u)
    (number_member (2 ^ 64) (codes "total_len") d))
    (number_member limit (codes "seed") d))
    (option_and_then core_of (get (codes "core") d)))
    (number_member (2 ^ 64) (codes "buffer_usage") d))
    (option_and_then (bytes_of_data stripe) (get (codes "buffer") d))

-- ---- writing

-- the numbers that follow a first one, and the closing bracket
abbrev pub more_numbers : List ℕ → List ℕ
more_numbers [] = codes "]"
more_numbers (x ∷ xs) = codes "," ++ (decimal x ++ more_numbers xs)

-- an array of numbers
abbrev pub numbers_text : List ℕ → List ℕ
numbers_text [] = codes "[]"
numbers_text (x ∷ xs) = codes "[" ++ (decimal x ++ more_numbers xs)

-- the values of bytes
abbrev pub items_of_bytes : List ℕ → Items
items_of_bytes bytes = items_of (map (λ x. number (unsigned x)) bytes)

abbrev pub bytes_data : List ℕ → Data
bytes_data bytes = array (items_of_bytes bytes)

-- the text of four accumulators
abbrev pub core_text : ℕ → ℕ → ℕ → ℕ → List ℕ
core_text a b c d =
    codes "{\"v1\":" ++ (decimal a
    ++ (codes ",\"v2\":" ++ (decimal b
    ++ (codes ",\"v3\":" ++ (decimal c
    ++ (codes ",\"v4\":" ++ (decimal d ++ codes "}")))))))

-- the saved text of a record: compact JSON, its members in the order of their names
abbrev pub saved_text : ℕ → ℕ → List ℕ → List ℕ → ℕ → List ℕ
saved_text total_len seed core buffer usage =
    codes "{\"buffer\":" ++ (numbers_text buffer
    ++ (codes ",\"buffer_usage\":" ++ (decimal usage
    ++ (codes ",\"core\":" ++ (core
    ++ (codes ",\"seed\":" ++ (decimal seed
    ++ (codes ",\"total_len\":" ++ (decimal total_len ++ codes "}")))))))))

-- the JSON values of four accumulators and of a record
abbrev pub core_data : ℕ → ℕ → ℕ → ℕ → Data
core_data a b c d =
    object (member (codes "v1") (number (unsigned a))
    (member (codes "v2") (number (unsigned b))
    (member (codes "v3") (number (unsigned c))
    (member (codes "v4") (number (unsigned d)) no_members))))

abbrev pub record_data : ℕ → ℕ → Data → Data → ℕ → Data
record_data total_len seed core buffer usage =
    object (member (codes "buffer") buffer
    (member (codes "buffer_usage") (number (unsigned usage))
    (member (codes "core") core
    (member (codes "seed") (number (unsigned seed))
    (member (codes "total_len") (number (unsigned total_len)) no_members)))))
