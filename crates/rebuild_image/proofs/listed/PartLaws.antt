-- The parts of listed headers are those of the object.
use Rattle.std.proofs.Common.{◌≡◌, ℕ, ◌<◌, ◌^◌, List, length, get_or, refl, ap, ◌∙◌, arith}
use Rattle.std.proofs.lemmas.List.{get_or_default}
use Rattle.elf_types.specs.declared.records.Ehdr.{Ehdr}
use Rattle.elf_types.specs.declared.records.Shdr.{Shdr}
use Rattle.elf_update_plan.specs.elf_ident.Front.{zero_shdr}
use Rattle.elf_layout.specs.declared.parts.PartAt.{PartAt}
use Rattle.elf_update_plan.specs.elf_object.Object.{Object, header_of, section_at}
use Rattle.elf_update_plan.specs.elf_object.Joined.{file_bytes}
use Rattle.elf_update_plan.specs.elf_object.Layout.{section_part}
use Rattle.elf_update_plan.specs.Sections.{capped_section}
use Rattle.elf_update_plan.proofs.PartLaws.{capped_is}
use Rattle.rebuild_image.specs.declared.listed.listed.HeaderListing.{HeaderListing}
use Rattle.rebuild_image.specs.Listed.Listing.{IsHeaderListing, part_listed}

-- the header has the true counts
pub phnum_listed : (o : Object) (x : HeaderListing) → IsHeaderListing o x → x.header.phnum ≡ length o.phdrs
unfolding header_of
phnum_listed o x is = ap (λ (h : Ehdr). h.phnum) is.header

pub shnum_listed : (o : Object) (x : HeaderListing) → IsHeaderListing o x → x.header.shnum ≡ length o.sections
unfolding header_of
shnum_listed o x is = ap (λ (h : Ehdr). h.shnum) is.header

part_is : (o : Object) (s : ℕ) (h : Shdr) (n : ℕ) → h ≡ (section_at o s).header
    → ◌≡◌ {A = PartAt} (part_listed s h n) (record (section_part o s) { len = n })
unfolding section_part
part_is o s h n same = ap (λ (x : Shdr). part_listed s x n) same

long : (o : Object) (s : ℕ) → length (file_bytes o s) ≡ (section_part o s).len
unfolding section_part
long o s = refl

fits : (o : Object) (s : ℕ) → length (file_bytes o s) < 2 ^ 64 → (section_part o s).len < 2 ^ 64
unfolding section_part
fits o s small = small

pub section_listed : (o : Object) (x : HeaderListing) (s : ℕ) (headers : List Shdr) (sizes : List ℕ)
    (d : Shdr)
    (e : ℕ) (p : PartAt) → headers ≡ x.headers → sizes ≡ x.sizes → s < length x.headers
    → p ≡ part_listed s (get_or headers s d) (get_or sizes s e) → IsHeaderListing o x
    → p ≡ capped_section o s
section_listed o x s headers sizes d e p first second there put is =
    let within : s < length o.sections = omega (arith, there, is.count) in
    let sized : s < length x.sizes = omega (arith, there, is.count, is.sized) in
    let header : get_or headers s d ≡ (section_at o s).header =
    ap (λ (l : List Shdr). get_or l s d) first
    ∙ get_or_default x.headers s d zero_shdr there ∙ is.headers s within in
    let size : get_or sizes s e ≡ length (file_bytes o s) =
    ap (λ (l : List ℕ). get_or l s e) second
    ∙ get_or_default x.sizes s e 0 sized ∙ is.sizes s within in
    put ∙ part_is o s (get_or headers s d) (get_or sizes s e) header
    ∙ capped_is (section_part o s) (get_or sizes s e) (size ∙ long o s) (fits o s
    (is.small s within))
