-- The front, from the header, the counts and the tables.
use Rattle.std.proofs.Common.{◌≡◌, ◌+◌, ◌≤◌, ℕ, List, length, take, Option, Some, None, Result, Ok, Err, IfSome, refl, sym, ap, ◌∙◌, subst, arith, ◌⊎◌, inl, inr, ◌*◌, ◌^◌}
use Rattle.std.proofs.Math.Nat.{mul-le-mul}
use Rattle.std.specs.Prelude.{nat_lt, slice_index}
use Rattle.elf_types.specs.declared.records.Class.{Class}
use Rattle.elf_types.specs.declared.records.Order.{Order}
use Rattle.elf_types.specs.declared.records.Ehdr.{Ehdr}
use Rattle.elf_types.specs.declared.records.Phdr.{Phdr}
use Rattle.elf_types.specs.declared.records.Shdr.{Shdr}
use Rattle.elf_types.specs.declared.errors.ElfError.{ElfError}
use Rattle.elf_types.specs.declared.errors.ElfError.TheVariants.{Memory, Read, Short}
use Rattle.elf_types.specs.Answers.{refused_if, answered, Follows}
use Rattle.elf_types.specs.declared.constants.TheConstants.{EI_CLASS}
use Rattle.elf_xlate.specs.Headers.{ehdr_size, ehdr_fits, shdr_size, ehdr_of, IsEhdr}
use Rattle.elf_ident.specs.declared.counts.Counts.{Counts}
use Rattle.elf_ident.specs.declared.fronts.Head.{Head}
use Rattle.elf_ident.specs.declared.fronts.Front.{Front}
use Rattle.elf_ident.specs.Reading.{IsSound, IsPhdrTable, IsShdrTable, IsFittingFront}
use Rattle.elf_ident.specs.Front.{with_counts, phdrs_at, shdrs_at, front, front_at, front_with, front_bytes, table_bytes, class_named, class_or_longer, ident_in, header_at, header_in, counts_in, head_in, header_bytes, first_bytes}
use Rattle.elf_ident.proofs.Refusals.{answered_ok, bind_ok}
use Rattle.elf_ident.proofs.HeaderLemmas.{class_is}
use Rattle.elf_ident.proofs.TableLemmas.{phdr_size_most, shdr_size_most}

-- a refusal of the header is one of the image
refused_by_header : (image : List ℕ) (e : ElfError) → Follows {T = Ehdr × List ℕ} (Err e) (header_in image) → Follows {T = Head} (Err e) (head_in image)
unfolding head_in
refused_by_header image Memory h = tt
refused_by_header image Read h = tt
refused_by_header image e h = rw h refl

pub head_refused : (holds : Option (List ℕ)) (e : ElfError) → IfSome holds (λ image. Follows {T = Ehdr × List ℕ} (Err e) (header_in image))
    → IfSome holds (λ image. Follows {T = Head} (Err e) (head_in image))
head_refused None e h = tt
head_refused (Some image) e h = refused_by_header image e h

-- and so is one of the counts
refused_by_counts : (image : List ℕ) (header : Ehdr) (pad : List ℕ) (e : ElfError) → header_in image ≡ Ok (header, pad)
    → Follows {T = Counts} (Err e) (counts_in header image) → Follows {T = Head} (Err e) (head_in image)
unfolding head_in
refused_by_counts image header pad Memory is h = tt
refused_by_counts image header pad Read is h = tt
refused_by_counts image header pad e is h = rw is (rw h refl)

pub counts_refused_head : (holds left : Option (List ℕ)) (header : Ehdr) (pad : List ℕ) (e : ElfError) → left ≡ holds
    → IfSome holds (λ image. header_in image ≡ Ok (header, pad)) → IfSome left (λ image. Follows {T = Counts} (Err e) (counts_in header image))
    → IfSome holds (λ image. Follows {T = Head} (Err e) (head_in image))
counts_refused_head None left header pad e same is h = tt
counts_refused_head (Some image) left header pad e same is h =
    refused_by_counts image header pad e is (subst (λ (o : Option (List ℕ)). IfSome o (λ i. Follows {T = Counts} (Err e) (counts_in header i))) same h)

head_by : (image : List ℕ) (header : Ehdr) (pad : List ℕ) (c : Counts) → header_in image ≡ Ok (header, pad) → counts_in header image ≡ Ok c
    → head_in image ≡ Ok (record { header = header; pad = pad; counts = c })
unfolding head_in
head_by image header pad c is got = rw is (rw got refl)

pub head_done : (holds left : Option (List ℕ)) (header : Ehdr) (pad : List ℕ) (c : Counts) → left ≡ holds
    → IfSome holds (λ image. header_in image ≡ Ok (header, pad)) → IfSome left (λ image. counts_in header image ≡ Ok c)
    → IfSome holds (λ image. head_in image ≡ Ok (record { header = header; pad = pad; counts = c }))
head_done None left header pad c same is h = tt
head_done (Some image) left header pad c same is h =
    head_by image header pad c is (subst (λ (o : Option (List ℕ)). IfSome o (λ i. counts_in header i ≡ Ok c)) same h)

-- the class of the header is that of the identification
ehdr_class : (class : Class) (order : Order) (bytes : List ℕ) → (ehdr_of class order bytes).class ≡ class
unfolding ehdr_of
ehdr_class class order bytes = refl

class_of_header : (image : List ℕ) (header : Ehdr) (pad : List ℕ) → header_in image ≡ Ok (header, pad) → class_named (slice_index image EI_CLASS) ≡ Some header.class
unfolding header_in header_at
class_of_header image header pad h =
    let long : Class × Order → Result (Ehdr × List ℕ) ElfError =
    λ id. answered (refused_if (nat_lt (length image) (ehdr_size id.0)) Short) (header_at id.0 id.1 image) in
    let one = bind_ok (ident_in image) long (header, pad) h in
    let two = answered_ok (refused_if (nat_lt (length image) (ehdr_size one.0.0)) Short) (header_at one.0.0 one.0.1 image) (header, pad) one.2 in
    let same = ap (λ (p : Ehdr × List ℕ). p.0.class) two.1 in
    class_is image one.0.0 one.0.1 one.1 ∙ ap Some (sym (ehdr_class one.0.0 one.0.1 (take (ehdr_size one.0.0) image)) ∙ same)

first_bytes_is : (image : List ℕ) (header : Ehdr) (pad : List ℕ) → header_in image ≡ Ok (header, pad) → first_bytes image ≡ shdr_size header.class
unfolding first_bytes
first_bytes_is image header pad h = ap (λ (o : Option Class). shdr_size (class_or_longer o)) (class_of_header image header pad h)

-- what was asked for is at most one header and one section header
pub bound_counts : (holds : Option (List ℕ)) (header : Ehdr) (pad : List ℕ) (old mid new : ℕ)
    → IfSome holds (λ image. header_in image ≡ Ok (header, pad)) → IfSome holds (λ image. mid ≤ old + header_bytes image)
    → new ≤ mid + shdr_size header.class → IfSome holds (λ image. new ≤ old + (header_bytes image + first_bytes image))
bound_counts None header pad old mid new is h n = tt
bound_counts (Some image) header pad old mid new is h n = let size = first_bytes_is image header pad is in omega (arith, h)

-- a refusal of the head is one of the front
refused_by_head : (image : List ℕ) (e : ElfError) → Follows {T = Head} (Err e) (head_in image) → Follows {T = Front} (Err e) (front image)
unfolding front
refused_by_head image Memory h = tt
refused_by_head image Read h = tt
refused_by_head image e h = rw h refl

pub front_refused : (holds : Option (List ℕ)) (e : ElfError) → IfSome holds (λ image. Follows {T = Head} (Err e) (head_in image))
    → IfSome holds (λ image. Follows {T = Front} (Err e) (front image))
front_refused None e h = tt
front_refused (Some image) e h = refused_by_head image e h

-- want of memory or a failed read is free
pub front_failed : (holds : Option (List ℕ)) (e : ElfError) → (e ≡ Memory) ⊎ (e ≡ Read) → IfSome holds (λ image. Follows {T = Front} (Err e) (front image))
front_failed None e h = tt
front_failed (Some image) e (inl h) = rw h tt
front_failed (Some image) e (inr h) = rw h tt

front_by : (image : List ℕ) (head : Head) (phdrs : List Phdr) (shdrs : List Shdr) → head_in image ≡ Ok head
    → phdrs ≡ phdrs_at head.header head.counts.phnum image → shdrs ≡ shdrs_at head.header head.counts.shnum image
    → front image ≡ Ok (front_with head phdrs shdrs)
unfolding front front_at
front_by image head phdrs shdrs is p s = rw (is, p, s) refl

pub front_done : (holds left : Option (List ℕ)) (head : Head) (phdrs : List Phdr) (shdrs : List Shdr) → left ≡ holds
    → IfSome holds (λ image. head_in image ≡ Ok head)
    → IfSome left (λ image. phdrs ≡ phdrs_at head.header head.counts.phnum image)
    → IfSome left (λ image. shdrs ≡ shdrs_at head.header head.counts.shnum image)
    → IfSome holds (λ image. front image ≡ Ok (front_with head phdrs shdrs))
front_done None left head phdrs shdrs same is p s = tt
front_done (Some image) left head phdrs shdrs same is p s =
    front_by image head phdrs shdrs is
    (subst (λ (o : Option (List ℕ)). IfSome o (λ i. phdrs ≡ phdrs_at head.header head.counts.phnum i)) same p)
    (subst (λ (o : Option (List ℕ)). IfSome o (λ i. shdrs ≡ shdrs_at head.header head.counts.shnum i)) same s)

-- what was asked for
pub bound_head : (holds : Option (List ℕ)) (old new : ℕ) → IfSome holds (λ image. new ≤ old + (header_bytes image + first_bytes image))
    → IfSome holds (λ image. new ≤ old + front_bytes image)
unfolding front_bytes
bound_head None old new h = tt
bound_head (Some image) old new h = omega (arith, h)

pub bound_front : (holds : Option (List ℕ)) (head : Head) (old mid new : ℕ) → IfSome holds (λ image. head_in image ≡ Ok head)
    → IfSome holds (λ image. mid ≤ old + (header_bytes image + first_bytes image)) → new ≤ mid + table_bytes head.header head.counts
    → IfSome holds (λ image. new ≤ old + front_bytes image)
unfolding front_bytes
bound_front None head old mid new is h n = tt
bound_front (Some image) head old mid new is h n = rw is (omega (arith, h))

pub table_bytes_most : (head : Head) (len : ℕ) → IsSound head len → table_bytes head.header head.counts ≤ 2 ^ 20 * 120
table_bytes_most head len s =
    let p = mul-le-mul s.counts.few_phdrs (phdr_size_most head.header.class) in
    let q = mul-le-mul s.counts.few_shdrs (shdr_size_most head.header.class) in
    omega (arith, p, q)

-- a front is fitting
pub front_fits : (head : Head) (len : ℕ) (phdrs : List Phdr) (shdrs : List Shdr) → IsSound head len → IsEhdr (with_counts head.header head.counts)
    → IsPhdrTable head.header.class head.counts.phnum phdrs → IsShdrTable head.header.class head.counts.shnum shdrs
    → IsFittingFront (front_with head phdrs shdrs)
unfolding ehdr_fits
front_fits head len phdrs shdrs s range p t = record {
  header = range;
  fitting = s.header.fitting;
  version = s.version;
  phdrs = p.range;
  fitting_phdrs = p.fitting;
  shdrs = t.range;
  fitting_shdrs = t.fitting;
  string_index = λ none. s.counts.string_index (sym t.counted ∙ ap length none);
  pad = s.header.pad_size;
  pad_bytes = s.header.pad_bytes;
}
