-- A file that holds an image gives its object: it is no archive.
use Rattle.std.proofs.Common.{◌≡◌, ℕ, Bool, true, false, not, ◌&&◌, List, [], ◌∷◌, drop, take, Option, Some, Result, Ok, refl, ap, ◌∙◌, arith}
use Rattle.std.specs.Prelude.{codes, nat_eq, nat_lt, length, if◌then◌else◌}
use Rattle.std.specs.Cmp.Lexicographic.{pointwise}
use Rattle.std.specs.List.{starts_with}
use Rattle.std.proofs.lemmas.Bool.{and_parts, eqb-true, ne_eqb}
use Rattle.elf_types.specs.Answers.{answered, or_refused, ◌>>=◌}
use Rattle.elf_types.specs.declared.constants.TheConstants.{ARMAG, ELFMAG, EI_NIDENT}
use Rattle.elf_types.specs.declared.errors.ElfError.{ElfError}
use Rattle.elf_types.specs.declared.errors.ElfError.TheVariants.{Short, Magic}
use Rattle.elf_outside.specs.Names.{Map}
use Rattle.elf_ident.specs.declared.file_kinds.FileKind.TheVariants.{Archive, Elf, Other}
use Rattle.elf_ident.specs.FileKinds.{file_kind}
use Rattle.elf_ident.specs.Front.{no_ident, ident_in}
use Rattle.elf_ident.proofs.Refusals.{answered_ok, bind_ok}
use Rattle.elf_object.specs.Object.{Object}
use Rattle.elf_object.specs.Open.{opened}
use Rattle.elf_object.proofs.PassedLaws.{passed_two}
use Rattle.law_object.proofs.OpenLaws.{front_known}
use Rattle.law_split.proofs.Whole.{begun_of}
use Rattle.tool_output.specs.Made.{complaint, of_file}
use Rattle.elfkit_outcomes.specs.tool_objects.Images.{object_by, file_object}
use Rattle.elfkit_outcomes.specs.Files.{bytes_named, object_named}

-- no file begins with both magics
no_archive : (bytes : List ℕ) → starts_with nat_eq bytes ELFMAG ≡ true
    → starts_with nat_eq bytes ARMAG ≡ false
no_archive [] e = cc
no_archive (x ∷ bytes) e =
    let both = and_parts (nat_eq 127 x) (pointwise nat_eq (drop 1 ELFMAG) (take 3 bytes)) e in
    let same : 127 ≡ x = eqb-true 127 x both.0 in
    let other : nat_eq 33 x ≡ false = ne_eqb 33 x (λ is. omega (arith, same, is)) in
    ap (λ (b : Bool). b && pointwise nat_eq (drop 1 ARMAG) (take 7 bytes)) other

was_true : (b : Bool) → not b ≡ false → b ≡ true
was_true true e = refl
was_true false e = cc

-- an image begins with its magic
begins : (image : List ℕ) (o : Object) → opened image ≡ Ok o
    → starts_with nat_eq image ELFMAG ≡ true
unfolding ident_in no_ident
begins image o e =
    let found = begun_of image o e in
    let known = front_known image found.0 found.1 in
    let first = bind_ok (answered (no_ident image) image) _ (known.class, known.order) known.ident
    in
    let passed = answered_ok (no_ident image) image first.0 first.1 in
    was_true (starts_with nat_eq image ELFMAG)
    (passed_two (nat_lt (length image) EI_NIDENT) (not (starts_with nat_eq image ELFMAG)) Short
    Magic passed.0).1

image_opens : (image : List ℕ) (o : Object) → opened image ≡ Ok o → file_object image ≡ Ok o
unfolding file_object object_by file_kind
image_opens image o e =
    let elf = begins image o e in
    ap (λ (b : Bool). object_by
    (if b then Archive else (if starts_with nat_eq image ELFMAG then Elf else Other)) image)
    (no_archive image elf)
    ∙ ap (λ (b : Bool). object_by (if b then Elf else Other) image) elf
    ∙ e

pub held_opens : (named : Map) (file image : List ℕ) (o : Object) → named file ≡ Some image
    → opened image ≡ Ok o → object_named named file ≡ Ok o
unfolding object_named bytes_named
held_opens named file image o held e =
    ap (λ (x : Option (List ℕ)). or_refused x (complaint file (codes "not found"))
    >>= λ bytes. of_file file (file_object bytes)) held
    ∙ ap (λ (r : Result Object ElfError). of_file file r) (image_opens image o e)
