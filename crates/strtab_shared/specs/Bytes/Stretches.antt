-- Ranges of a text that stand one behind the other.
use Rattle.std.specs.Prelude.{◌≡◌, ℕ, ◌+◌, ◌≤◌, List, [], ◌∷◌, length, take, drop}
use Rattle.std.specs.List.{flat_map}
use Rattle.strtab_shared.specs.declared.bytes.stretches.Stretch.{Stretch}

abbrev pub no_stretch : Stretch
no_stretch = record { at = 0; len = 0; end = 0 }

-- the bytes of one
abbrev pub stretch_bytes : List ℕ → Stretch → List ℕ
stretch_bytes text s = take s.len (drop s.at text)

-- those of all, one behind the other
unfoldable pub stretched : List ℕ → List Stretch → List ℕ
stretched text stretches = flat_map (stretch_bytes text) stretches

-- each lies in the text, and ends so far behind the one before it as it is long
abbrev pub StandFrom : List ℕ → ℕ → List Stretch → Type 0
StandFrom text from [] = Unit {0}
StandFrom text from (s ∷ more) =
    (s.at + s.len ≤ length text) × (s.end ≡ from + s.len) × StandFrom text s.end more
