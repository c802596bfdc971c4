-- The base bytes of an object: those that were handed in, or the first ones of the source.
use Rattle.std.proofs.Common.{◌≡◌, ◌+◌, ◌-◌, ◌<◌, ◌≤◌, ℕ, zero, suc, Bool, false, List, [], length, refl, subst, take, drop, Option, Some, None, Result, Ok, Err, sym, ap, ◌∙◌, arith}
use Rattle.std.specs.Prelude.{IsTrue, IfSome, OnOk, is_some, if◌then◌else◌}
use Rattle.std.proofs.lemmas.List.{drop-take, take-take}
use Rattle.elf_types.specs.declared.errors.ElfError.{ElfError}
use Rattle.section_table.specs.elf_object.Open.{home_bytes}
use Rattle.section_table.specs.section_data.Views.{CellView}
use Rattle.elf_descriptor.specs.declared.body.Body.{Body}
use Rattle.elf_descriptor.specs.declared.body.Base.{Base}
use Rattle.elf_descriptor.specs.declared.body.Base.TheVariants as bases
use Rattle.elf_descriptor.specs.Views.{object_of, base_of, source_bytes, is_of_source}
use Rattle.elf_descriptor.specs.Sound.{source_part}
use Rattle.elf_descriptor.proofs.Objects.{base_count, base_length}

pub base_is : (image : Option (List ℕ)) (size : ℕ) (b : Body) → (object_of image size b).base ≡ base_of b.base image size
unfolding object_of
base_is image size b = refl

pub base_kept : (image : Option (List ℕ)) (size : ℕ) (b : Body) (bytes : List ℕ) → b.base ≡ bases.Own bytes → (object_of image size b).base ≡ bytes
base_kept image size b bytes is = base_is image size b ∙ ap (λ (kept : Base). base_of kept image size) is

pub base_part : (image : Option (List ℕ)) (size : ℕ) (b : Body) (n : ℕ) → b.base ≡ bases.Source n → (object_of image size b).base ≡ take n (source_bytes image size)
base_part image size b n is = base_is image size b ∙ ap (λ (kept : Base). base_of kept image size) is

-- the base is as long as its part of the source
pub base_source : (image : Option (List ℕ)) (size : ℕ) (b : Body) (n : ℕ) → b.base ≡ bases.Source n → IfSome image (λ bytes. length bytes ≡ size) → source_part b.base ≤ size
    → (length (object_of image size b).base ≡ n) × (n ≤ size)
base_source image size b n is long within = (
  ap length (base_is image size b) ∙ base_length b.base image size long within ∙ ap base_count is,
  subst (λ (kept : Base). source_part kept ≤ size) is within,
)

-- a range that lies in the first bytes is the same range of all
pub range_of_front : (bytes : List ℕ) (n at len : ℕ) → at + len ≤ n → take len (drop at (take n bytes)) ≡ take len (drop at bytes)
range_of_front bytes n at len inside =
    let whole : at + (n - at) ≡ n = omega (arith, inside) in
    ap (λ (k : ℕ). take len (drop at (take k bytes))) (sym whole)
    ∙ ap (λ (l : List ℕ). take len l) (drop-take at (n - at) bytes)
    ∙ take-take len (n - at) (drop at bytes) (omega (arith, inside))

-- also an empty one, wherever it stands
pub front_range : (bytes : List ℕ) (n at len : ℕ) → (0 < len → at + len ≤ n) → take len (drop at (take n bytes)) ≡ take len (drop at bytes)
front_range bytes n at zero inside = refl
front_range bytes n at (suc len) inside = range_of_front bytes n at (suc len) (inside (omega arith))

-- the part of the source fits the base
pub part_fits : (kept : Base) (image : Option (List ℕ)) (size : ℕ) → IfSome image (λ bytes. length bytes ≡ size) → source_part kept ≤ size → source_part kept ≤ length (base_of kept image size)
part_fits (bases.Own bytes) image size long within = omega arith
part_fits (bases.Source n) image size long within = let same = base_length (bases.Source n) image size long within in omega (arith, same)

-- a home that lies in the part of the source has its bytes in the base
pub home_stands : (kept : Base) (bytes : List ℕ) (size : ℕ) (c : CellView) → c.home.out ≡ false → (0 < c.home.len → c.home.at + c.home.len ≤ source_part kept)
    → (is_of_source kept ≡ false → c.home.len ≡ 0)
    → take c.home.len (drop c.home.at (base_of kept (Some bytes) size)) ≡ home_bytes c.home bytes
unfolding home_bytes
home_stands (bases.Own own) bytes size c inside lies empty =
    let none = empty refl in
    ap (λ (n : ℕ). take n (drop c.home.at own)) none
    ∙ sym (ap (λ (out : Bool). if out then [] else take c.home.len (drop c.home.at bytes)) inside ∙ ap (λ (n : ℕ). take n (drop c.home.at bytes)) none)
home_stands (bases.Source n) bytes size c inside lies empty =
    front_range bytes n c.home.at c.home.len lies
    ∙ sym (ap (λ (out : Bool). if out then [] else take c.home.len (drop c.home.at bytes)) inside)

pub base_read : (image : Option (List ℕ)) (size : ℕ) (b : Body) (r : Result (Unit {0}) ElfError) (n at len : ℕ) (bytes : List ℕ) → b.base ≡ bases.Source n → at + len ≤ n → IsTrue (is_some image)
    → OnOk r (IfSome image (λ told. bytes ≡ take len (drop at told))) → OnOk r (bytes ≡ take len (drop at (object_of image size b).base))
base_read None size b r n at len bytes is inside told h = cc
base_read (Some image) size b (Err e) n at len bytes is inside told h = h
base_read (Some image) size b (Ok x) n at len bytes is inside told h =
    h ∙ sym (ap (λ (l : List ℕ). take len (drop at l)) (base_part (Some image) size b n is) ∙ range_of_front image n at len inside)
