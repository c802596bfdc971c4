-- What is found at items, by those that pass a test.
use Rattle.std.proofs.Common.{◌≡◌, ℕ, ◌++◌, ◌+◌, ◌<◌, ◌≤◌, Bool, true, false, List, [], ◌∷◌, map, Option, Some, None, IfSome, refl, ap, ◌∙◌, arith}
use Rattle.std.specs.Prelude.{if◌then◌else◌}
use Rattle.std.specs.List.{flat_map, enumerate_from}
use Rattle.std.proofs.lemmas.List.Concat.{flat_map-cons}
use Rattle.tool_output.specs.Names.{Name}
use Rattle.tool_output.specs.Reports.{no_report, joined_reports}
use Rattle.tool_objects.specs.declared.at_hand.items.Span.{Span}
use Rattle.tool_objects.specs.AtHand.Items.{passing, passing_from, IsWithinSpan}
use Rattle.tool_objects.proofs.at_hand.Passing.{none_early}
use Rattle.elf_lint_findings.specs.declared.places.Place.TheVariants.{Item}
use Rattle.elf_lint_findings.specs.Findings.{Finding, at_items, finding, findings_shown, found_if}
use Rattle.elf_lint_findings.proofs.FindingLemmas.{no_findings, findings_append}

-- what holds only where it can not be fails
fails_if : (b : Bool) → (b ≡ true → ⊥) → b ≡ false
fails_if true never = absurd (never refl)
fails_if false never = refl

module _ {X : Type 0} (test : ℕ → X → Bool) where
  late_by : (to : Option ℕ) → ((i : ℕ) (x : X) → test i x ≡ true → IfSome to (λ n. i < n))
      → IfSome to (λ n. (i : ℕ) (x : X) → n ≤ i → test i x ≡ false)
  late_by None within = tt
  late_by (Some n) within =
      λ i x le. fails_if (test i x) (λ holds. let lt = within i x holds in omega (arith, lt, le))

  module _ (span : Span) (within : (i : ℕ) (x : X) → test i x ≡ true → IsWithinSpan span i) where
    -- behind a span
    pub none_behind : IfSome span.to (λ n. (i : ℕ) (x : X) → n ≤ i → test i x ≡ false)
    none_behind = late_by span.to (λ i x holds. (within i x holds).1)

    -- and before it
    pub none_before : (xs : List X) → passing_from test xs 0 ≡ passing_from test xs span.from
    none_before xs =
        none_early test xs span.from (λ i x lt. fails_if (test i x)
        (λ holds. let le = (within i x holds).0 in omega (arith, lt, le)))

module _ (number : ℕ) (text : List ℕ) (s : ℕ) where
  -- what is found at item i
  abbrev pub found_at : ℕ → Finding
  found_at i = finding number (Item s i) text

  -- by tests that are alike
  pub same_tests : {X : Type 0} (f g : ℕ → X → Bool) → ((i : ℕ) (x : X) → f i x ≡ g i x)
      → (xs : List X) → at_items number text s f xs ≡ at_items number text s g xs
  same_tests f g same xs = λ j. at_items number text s (λ i x. same i x j) xs

  module _ {X : Type 0} (test : ℕ → X → Bool) where
    abbrev row : ℕ × X → List Finding
    row r = found_if (test r.0 r.1) (found_at r.0)

    rows_passing : (xs : List X) (i : ℕ)
        → flat_map row (enumerate_from i xs) ≡ map found_at (passing test i xs)
    rows_passing [] i = refl
    rows_passing (x ∷ xs) i =
        flat_map-cons row (i, x) (enumerate_from (i + 1) xs)
        ∙ ap (λ (l : List Finding). row (i, x) ++ l) (rows_passing xs (i + 1))
        ∙ by_test (test i x)
      where
        by_test : (b : Bool) → (found_if b (found_at i) ++ map found_at (passing test (i + 1) xs))
            ≡ map found_at
            (if b then i ∷ passing test (i + 1) xs else passing test (i + 1) xs)
        by_test true = refl
        by_test false = refl

    pub items_passing : (xs : List X)
        → at_items number text s test xs ≡ map found_at (passing_from test xs 0)
    unfolding at_items
    items_passing xs = rows_passing xs 0

    -- the next of them is said, and those behind it are left
    pub next_left : (name : Name) (xs : List X) (from i : ℕ)
        → passing_from test xs from ≡ i ∷ passing_from test xs (i + 1)
        → findings_shown name (map found_at (passing_from test xs from))
        ≡ joined_reports (findings_shown name (found_at i ∷ []))
        (findings_shown name (map found_at (passing_from test xs (i + 1))))
    next_left name xs from i is =
        ap (λ (l : List ℕ). findings_shown name (map found_at l)) is
        ∙ findings_append name (found_at i ∷ []) (map found_at (passing_from test xs (i + 1)))

    -- or none is left
    pub none_left : (name : Name) (xs : List X) (from : ℕ) → passing_from test xs from ≡ []
        → findings_shown name (map found_at (passing_from test xs from)) ≡ no_report
    none_left name xs from is =
        ap (λ (l : List ℕ). findings_shown name (map found_at l)) is ∙ no_findings name
