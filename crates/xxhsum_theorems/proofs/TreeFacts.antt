-- Lemmas on a run over folders.
use Rattle.std.proofs.Common.{◌≡◌, ℕ, Bool, true, false, ◌&&◌, List, [], ◌∷◌, IsPermutation, flat_map, if◌then◌else◌, inl, inr, refl, sym, ◌∙◌, subst, Result, Ok, Err}
use Rattle.xxhsum_app.specs.Run.{WalksFolders}
use Rattle.xxhsum_app.specs.Walk.{Place, Tree, below, given, kept_name, with_slash, without}
use Rattle.xxhsum_app.specs.WalkLaws.{FindsEachFile, FindsNoOther, IsSteady, LeadsTo}
use Rattle.xxhsum_audit.proofs.AmongFacts.{among_flat_map, from_flat_map, moved_items}
use Rattle.xxhsum_audit.specs.Item.{IsAmong}
use Rattle.std.proofs.lemmas.Bool.{and_parts}
use Rattle.xxhsum_app.proofs.GoodAuditFacts.{nothing}
use Rattle.xxhsum_options.specs.Exclude.{is_excluded}
use Rattle.xxhsum_program.specs.Command.{has_none}
use Rattle.xxhsum_program.specs.HashNames.{SaysNames, name_events}
use Rattle.xxhsum_program.specs.Lines.{lines_of}
use Rattle.xxhsum_program.specs.Order.{StreamRules, effect_of, printed_of}
use Rattle.xxhsum_program.specs.Outcomes.{Comes, are_digested}
use Rattle.xxhsum_program.specs.Prelude.{AllByRecursion, EachHas, Files, Options, Took}
use Rattle.xxhsum_program.specs.Run.{style_of}
use Rattle.xxhsum_program.specs.Streams.{streams_of}
use Rattle.xxhsum_program.specs.declared.outcome.Outcome.{Outcome}
use Rattle.xxhsum_program.specs.declared.stop.Stop.{Stop}
use Rattle.xxhsum_program.specs.declared.streams.Streams.{Streams}
use Rattle.xxhsum_theorems.proofs.HeadlineFacts.{each-name-once}
use Rattle.xxhsum_theorems.specs.Headline.{AreFilesBelow}

-- ---- the tree without some names

-- Lemma: a name that is kept is itself, and no pattern matches it.
kept-is : (excluded : Bool) (one name : List ℕ) → IsAmong (if excluded then [] else one ∷ []) name → (one ≡ name) × (excluded ≡ false)
kept-is true one name h = absurd h
kept-is false one name (inl e) = (e, refl)
kept-is false one name (inr h) = absurd h

module _ (patterns : List (List ℕ)) (tree : Tree) where
  steady-without : IsSteady tree → IsSteady (without patterns tree)
  steady-without steady = record {
    one_answer = steady.one_answer;
    one_kind = steady.one_kind;
    same_names = λ folder a b one other.
        subst (λ l. IsPermutation l b) (sym one.2) (subst (λ l. IsPermutation (flat_map (kept_name patterns) one.0) l) (sym other.2)
        (moved_items (kept_name patterns) one.0 other.0 (steady.same_names folder one.0 other.0 one.1 other.1)));
  }

  -- Lemma: names lead to a file in the tree without the matching names if and only if they do in the tree, and match none.
  from-without : (place : Place) (behind : List (List ℕ)) (file : List ℕ) → LeadsTo (without patterns tree) place behind file
      → LeadsTo tree place behind file × AllByRecursion (λ one. is_excluded patterns one ≡ false) behind
  from-without place [] file leads = (leads, tt)
  from-without place (name ∷ behind) file leads =
      let holds = leads.1.1 in
      let found = from_flat_map (kept_name patterns) holds.0 name (subst (λ l. IsAmong l name) holds.2 leads.1.2) in
      let is = kept-is (is_excluded patterns found.0) found.0 name found.2 in
      let later = from-without (below (with_slash place.0) false name) behind file leads.2 in (
        (leads.0, (holds.0, holds.1, subst (λ one. IsAmong holds.0 one) is.0 found.1), later.0),
        (subst (λ one. is_excluded patterns one ≡ false) is.0 is.1, later.1),
      )

  to-without : (place : Place) (behind : List (List ℕ)) (file : List ℕ) → LeadsTo tree place behind file
      → AllByRecursion (λ one. is_excluded patterns one ≡ false) behind → LeadsTo (without patterns tree) place behind file
  to-without place [] file leads all = leads
  to-without place (name ∷ behind) file leads all =
      let names = leads.1.0 in
      let kept = subst (λ b. IsAmong (if b then [] else name ∷ []) name) (sym all.0) (inl refl) in (
        leads.0,
        (flat_map (kept_name patterns) names, (names, leads.1.1, refl), among_flat_map (kept_name patterns) names name name leads.1.2 kept),
        to-without (below (with_slash place.0) false name) behind file leads.2 all.1,
      )

-- Lemma: if a run over folders is well, each file has a value and a line, and the files are those below the names.
pub files_below : {S F W E : Type 0} (patterns : List (List ℕ)) (tree : Tree) (files : Files S F) (rules : StreamRules W E) (options : Options)
    → (names : List (List ℕ)) (old new : Streams W E) → FindsEachFile (without patterns tree) → FindsNoOther (without patterns tree)
    → WalksFolders (without patterns tree) files (effect_of rules old new (Ok true)) options names
    → (found : List (List ℕ)) × (outcomes : List Outcome) × EachHas (Comes files options.kind) found outcomes
    × (are_digested outcomes ≡ true)
    × (let events = lines_of (name_events options.kind (style_of options)) found outcomes in
    Took rules.writing (printed_of events) old.out new.out)
    × AreFilesBelow patterns tree names found
files_below patterns tree files rules options names old new each no_other (inl (found, lost, message, Ok all, (trace, visits, are, whole, reports), says, is)) =
    let same : true ≡ (has_none lost && all) = cc in
    let well = and_parts (has_none lost) all (sym same) in
    let before = streams_of old.out message in
    let said = subst (λ b. SaysNames files (effect_of rules before new (Ok b)) options.kind (style_of options) found) well.1 says in
    let once = each-name-once files rules options.kind (style_of options) found before new true said in (
      found,
      once.0,
      once.1,
      sym once.3,
      once.2.0,
      (
        (λ file among.
            let leads = no_other names trace [] file visits (subst (λ l. IsAmong l file) are among) in
            let both = from-without patterns tree (given leads.0) leads.1 file leads.3 in (leads.0, leads.1, leads.2, both.0, both.1)),
        (λ steady file leads.
            subst (λ l. IsAmong l file) (sym are)
            (each names trace leads.0 leads.1 file (steady-without patterns tree steady) visits (sym whole ∙ nothing lost well.0) leads.2
            (to-without patterns tree (given leads.0) leads.1 file leads.3 leads.4))),
      ),
    )
files_below patterns tree files rules options names old new each no_other (inl (found, lost, message, Err stop, walks, says, is)) =
    let no : ◌≡◌ {A = Result Bool Stop} (Ok true) (Err stop) = is in cc
files_below patterns tree files rules options names old new each no_other (inr (stop, walks, out, is)) =
    let no : ◌≡◌ {A = Result Bool Stop} (Ok true) (Err stop) = is in cc
