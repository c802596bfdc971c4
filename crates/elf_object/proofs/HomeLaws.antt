-- A section whose kind is none has no bytes in the file.
use Rattle.std.proofs.Common.{◌≡◌, ℕ, Bool, true, false, not, List, [], ◌∷◌, refl}
use Rattle.std.specs.Prelude.{if◌then◌else◌, ◌==◌, ◌||◌}
use Rattle.elf_types.specs.declared.records.Kind.{Kind}
use Rattle.elf_types.specs.declared.records.Kind.TheVariants as kinds
use Rattle.elf_types.specs.declared.records.Shdr.{Shdr}
use Rattle.elf_types.specs.Kinds.{kinds_of_types, kind_in, kind_of_type, section_kind, is_compressed}
use Rattle.elf_object.specs.Open.{home_len}

IsKind : Kind → Type 0
IsKind k = k ≡ kinds.Empty → ⊥

either_kind : (b : Bool) (x y : Kind) → IsKind x → IsKind y → IsKind (if b then x else y)
either_kind true x y hx hy = hx
either_kind false x y hx hy = hy

AreKinds : List (ℕ × Kind) → Type 0
AreKinds [] = Unit {0}
AreKinds (row ∷ rows) = IsKind row.1 × AreKinds rows

kind_of_rows : (rows : List (ℕ × Kind)) (stype : ℕ) → AreKinds rows → IsKind (kind_in rows stype)
unfolding IsKind AreKinds
kind_of_rows [] stype are = λ h. cc
kind_of_rows (row ∷ rows) stype are =
    either_kind (stype == row.0) row.1 (kind_in rows stype) are.0 (kind_of_rows rows stype are.1)

-- a section that occupies the file has items
typed_kind : (stype entsize : ℕ) → IsKind (kind_of_type stype entsize)
unfolding IsKind AreKinds kind_of_type
typed_kind stype entsize =
    let hash = either_kind (entsize == 8) kinds.Bytes kinds.Word (λ h. cc) (λ h. cc) in
    kind_of_rows (kinds_of_types entsize) stype
    ((λ h. cc), ((λ h. cc), ((λ h. cc), ((λ h. cc), ((λ h. cc), (hash, ((λ h. cc), ((λ h. cc), ((λ h. cc), ((λ h. cc), ((λ h. cc), ((λ h. cc), tt))))))))))))

pub extent_of_no_kind : (h : Shdr) → section_kind h ≡ kinds.Empty → home_len h ≡ 0
unfolding section_kind home_len IsKind
extent_of_no_kind h e = by_test (h.stype == 0 || h.stype == 8) e
  where
    by_test : (b : Bool) → (if b then kinds.Empty else (if is_compressed h.flags then kinds.Bytes else kind_of_type h.stype h.entsize)) ≡ kinds.Empty → (if not b then h.size else 0) ≡ 0
    by_test true e = refl
    by_test false e = absurd (either_kind (is_compressed h.flags) kinds.Bytes (kind_of_type h.stype h.entsize) (λ h. cc) (typed_kind h.stype h.entsize) e)
