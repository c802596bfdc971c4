-- Names of which the place in a table in the making is known, by where they stand in an older table
-- (gABI chapter 4, "String Table", and "Section Header", sh_name).
use Rattle.std.specs.Prelude.{◌≡◌, ℕ, ◌==◌, Bool, true, List, Option, Some, None, IfSome, if◌then◌else◌}
use Rattle.std.specs.Ordering.{nat_cmp}
use Rattle.std.specs.BTreeMap.{get}
use Rattle.strtab_shared.specs.strtab_build.Names.{IsHeld}
use Rattle.strtab_shared.specs.strtab_build.Table.{place_of}
use Rattle.rebuild_names.specs.declared.known.KnownPlaces.{KnownPlaces}

-- the place that is noted of the name at a place of the older table
abbrev pub known_at : KnownPlaces → ℕ → Option ℕ
known_at known at = get nat_cmp known.places at

-- one more is noted
abbrev pub KnowsMore : KnownPlaces → KnownPlaces → ℕ → ℕ → Type 0
KnowsMore old new at place =
    (q : ℕ) → known_at new q ≡ (if at == q then Some place else known_at old q)

-- where there is one
abbrev pub NotesIf : ℕ → Option ℕ → KnownPlaces → KnownPlaces → Type 0
NotesIf at None old new = Unit {0}
NotesIf at (Some place) old new = KnowsMore old new at place

-- the place that a name has among these is noted, where their table is not too large
abbrev pub NotesName : ℕ → List ℕ → List (List ℕ) → KnownPlaces → KnownPlaces → Bool → Type 0
NotesName at name names old new fits = fits ≡ true → KnowsMore old new at (place_of name names)

-- each name of the older table of which a place is noted is one of these names, and has that place
pub record AreHeld (name_at : ℕ → List ℕ) (known : KnownPlaces) (names : List (List ℕ)) : Type 0
  where
    pub held : (at : ℕ) → IfSome (known_at known at) (IsHeld (name_at at) names)
