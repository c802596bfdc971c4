-- The front of an image in which header and tables stand is what was written.
use Rattle.std.proofs.Common.{◌≡◌, ℕ, List, [], ◌∷◌, length, Result, Ok, sym, ap, ◌∙◌}
use Rattle.std.specs.Prelude.{flat_map, All, IsTrue}
use Rattle.std.proofs.lemmas.List.{length-map}
use Rattle.elf_types.specs.declared.records.Ehdr.{Ehdr}
use Rattle.elf_types.specs.declared.records.Phdr.{Phdr}
use Rattle.elf_types.specs.declared.records.Shdr.{Shdr}
use Rattle.elf_types.specs.declared.errors.ElfError.{ElfError}
use Rattle.elf_object.specs.elf_xlate.Headers.{phdr_size, phdr_of, phdr_bytes, phdr_fits, IsPhdr, shdr_size, shdr_of, shdr_bytes, shdr_fits, IsShdr}
use Rattle.elf_object.specs.elf_xlate.Translation.{items_of}
use Rattle.elf_object.specs.elf_ident.declared.counts.Counts.{Counts}
use Rattle.elf_object.specs.elf_ident.declared.fronts.Head.{Head}
use Rattle.elf_object.specs.elf_ident.declared.fronts.Front.{Front}
use Rattle.elf_types.specs.Answers.{◌>>=◌}
use Rattle.elf_object.specs.elf_ident.Front.{counts_in, with_counts, phdrs_at, shdrs_at, front_with, front_at, head_in, front}
use Rattle.elf_object.specs.Object.{Object, Section}
use Rattle.elf_object.specs.Derived.{written_header}
use Rattle.elf_object.specs.Open.{shdrs_bytes, phdrs_bytes}
use Rattle.law_object.proofs.LengthLaws.{length-shdr_bytes, length-phdr_bytes}
use Rattle.law_object.proofs.ReopenLaws.{ReadsBack, StandsIn, table_read}
use Rattle.law_object.proofs.HeaderLaws.{IsWritten, header_read}
use Rattle.law_object.proofs.CountLaws.{IsDerived, headers_of, AreFitting, counts_of, counts_read}

-- ---- The tables

unfoldable pub ArePhdrs : Object → Type 0
ArePhdrs q = All (λ p. IsPhdr p × IsTrue (phdr_fits q.header.class p)) q.phdrs

phdrs_read : (reads : ReadsBack) (image : List ℕ) (q : Object) → StandsIn image q → ArePhdrs q → phdrs_at (written_header q.header) (length q.phdrs) image ≡ q.phdrs
unfolding phdrs_at written_header ArePhdrs phdrs_bytes
phdrs_read reads image q stands are =
    ap (items_of (phdr_of q.header.class q.header.order) (phdr_size q.header.class) (length q.phdrs)) stands.segments
    ∙ table_read (phdr_of q.header.class q.header.order) (phdr_bytes q.header.class q.header.order) (phdr_size q.header.class) (λ p. IsPhdr p × IsTrue (phdr_fits q.header.class p)) (length-phdr_bytes q.header.class q.header.order) (λ p both. reads.phdr q.header.class q.header.order p both.0 both.1) q.phdrs are

unfoldable pub AreShdrs : Object → Type 0
AreShdrs q = All (λ h. IsShdr h × IsTrue (shdr_fits q.header.class h)) (headers_of q)

shdrs_read : (reads : ReadsBack) (image : List ℕ) (q : Object) → StandsIn image q → AreShdrs q → shdrs_at (written_header q.header) (length q.sections) image ≡ headers_of q
unfolding shdrs_at written_header AreShdrs shdrs_bytes
shdrs_read reads image q stands are =
    let count = length-map q.sections (λ (c : Section). c.header) in
    ap (items_of (shdr_of q.header.class q.header.order) (shdr_size q.header.class) (length q.sections)) stands.table
    ∙ ap (λ (n : ℕ). items_of (shdr_of q.header.class q.header.order) (shdr_size q.header.class) n (flat_map (shdr_bytes q.header.class q.header.order) (headers_of q))) (sym count)
    ∙ table_read (shdr_of q.header.class q.header.order) (shdr_bytes q.header.class q.header.order) (shdr_size q.header.class) (λ h. IsShdr h × IsTrue (shdr_fits q.header.class h)) (length-shdr_bytes q.header.class q.header.order) (λ h both. reads.shdr q.header.class q.header.order h both.0 both.1) (headers_of q) are

-- ---- The front

-- the front of a placed object
unfoldable pub front_of : Object → Front
front_of q = record {
  ehdr = q.header;
  pad = q.pad;
  written = (written_header q.header).phnum ∷ (written_header q.header).shnum ∷ (written_header q.header).shstrndx ∷ [];
  phdrs = q.phdrs;
  shdrs = headers_of q;
}

head_of : Object → Head
head_of q = record { header = written_header q.header; pad = q.pad; counts = counts_of q }

counted_back : (q : Object) → IsDerived q → with_counts (written_header q.header) (counts_of q) ≡ q.header
unfolding counts_of written_header
counted_back q is =
    ap (λ (m : ℕ). record q.header { phnum = m; shnum = length q.sections }) (sym is.phnum)
    ∙ ap (λ (n : ℕ). record q.header { shnum = n }) (sym is.shnum)

-- what is read of an image in which header and tables stand
pub record IsReadable (q : Object) : Type 0 where
  pub written : IsWritten q
  pub derived : IsDerived q
  pub phdrs : ArePhdrs q
  pub shdrs : AreShdrs q
  pub each : AreFitting q

pub front_read : (reads : ReadsBack) (image : List ℕ) (q : Object) → StandsIn image q → IsReadable q → front image ≡ Ok (front_of q)
unfolding front head_in front_at front_of head_of written_header counts_of shdrs_at
front_read reads image q stands is =
    let header = header_read reads image q stands is.written in
    let counts = counts_read reads image q stands is.derived is.each in
    let head : head_in image ≡ Ok (head_of q) =
    ap (λ (r : Result (Ehdr × List ℕ) ElfError). r >>= λ x. counts_in x.0 image >>= λ c. Ok (record { header = x.0; pad = x.1; counts = c })) header
    ∙ ap (λ (r : Result Counts ElfError). r >>= λ c. Ok (record { header = written_header q.header; pad = q.pad; counts = c })) counts in
    let phdrs = phdrs_read reads image q stands is.phdrs in
    let shdrs = shdrs_read reads image q stands is.shdrs in
    let ehdr = counted_back q is.derived in
    ap (λ (r : Result Head ElfError). r >>= λ h. Ok (front_at h image)) head
    ∙ ap (λ (l : List Phdr). Ok (front_with (head_of q) l (shdrs_at (written_header q.header) (length q.sections) image))) phdrs
    ∙ ap (λ (l : List Shdr). Ok (front_with (head_of q) q.phdrs l)) shdrs
    ∙ ap (λ (h : Ehdr). Ok (record { ehdr = h; pad = q.pad; written = (written_header q.header).phnum ∷ (written_header q.header).shnum ∷ (written_header q.header).shstrndx ∷ []; phdrs = q.phdrs; shdrs = headers_of q })) ehdr
