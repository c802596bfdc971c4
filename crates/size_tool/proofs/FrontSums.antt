-- The sums of an image, from its head and its table of section headers.
use Rattle.std.proofs.Common.{◌≡◌, ◌+◌, ◌*◌, ◌≤◌, ℕ, Bool, List, [], ◌∷◌, map, Option, Some, None, Result, Ok, Err, IfSome, IfOk, IfErr, inl, inr, refl, ap, subst, arith}
use Rattle.std.proofs.Math.Nat.{mul-le-mul}
use Rattle.elf_types.specs.declared.records.Class.TheVariants.{C64}
use Rattle.elf_types.specs.declared.records.Shdr.{Shdr}
use Rattle.elf_types.specs.declared.errors.ElfError.{ElfError}
use Rattle.elf_types.specs.declared.errors.ElfError.TheVariants.{Memory, Read}
use Rattle.elf_types.specs.Answers.{Follows, ◌>>=◌}
use Rattle.elf_outside.specs.Asks.{Asks}
use Rattle.elf_outside.specs.declared.sources.Source.{Ghosts as SourceGhosts}
use Rattle.elf_outside.specs.declared.sinks.Sink.{Ghosts as SinkGhosts}
use Rattle.elf_outside.proofs.AskLemmas.{asks_both, asks_fewer}
use Rattle.elf_xlate.specs.Headers.{ehdr_size, phdr_size, shdr_size}
use Rattle.elf_ident.specs.declared.fronts.Head.{Head}
use Rattle.elf_ident.specs.declared.fronts.Front.{Front}
use Rattle.elf_ident.specs.Front.{head_in, front, front_at, shdrs_at, header_bytes, first_bytes, front_bytes, most_front_bytes}
use Rattle.elf_ident.specs.Reading.{IsSound, IsFrontRefusal}
use Rattle.elf_ident.proofs.TableLemmas.{shdr_size_most}
use Rattle.elf_ident.proofs.FrontLemmas.{front_refused, bound_front}
use Rattle.elf_object.specs.Object.{Object, Section}
use Rattle.elf_object.specs.Open.{opened_section, begun, opened}
use Rattle.tool_output.specs.declared.outputs.Outputs.{Outputs}
use Rattle.tool_output.specs.declared.stops.Stop.{Stop}
use Rattle.tool_output.specs.Names.{Name}
use Rattle.tool_output.specs.Reports.{Reports, shown_report}
use Rattle.tool_objects.specs.Images.{object_report, image_report}
use Rattle.tool_objects.proofs.SectionLemmas.{ok_value_is}
use Rattle.size_tool.specs.declared.sums.Sums.{Sums}
use Rattle.size_tool.specs.Sums.{header_sums, sums_of, sums_in, total_of}
use Rattle.size_tool.specs.Rows.{size_row}
use Rattle.size_tool.specs.Tool.{size_report}
use Rattle.size_tool.proofs.TableSums.{asks_as}

-- ---- Which sums they are

-- the sections of an image that is opened have its headers
headers_opened : (image : List ℕ) (headers : List Shdr)
    → map (λ (s : Section). s.header) (map (opened_section image) headers) ≡ headers
unfolding opened_section
headers_opened image [] = refl
headers_opened image (h ∷ headers) =
    ap (λ (l : List Shdr). h ∷ l) (headers_opened image headers)

sums_by_head : (image : List ℕ) (head : Head) → head_in image ≡ Ok head
    → sums_in image ≡ Ok (header_sums (shdrs_at head.header head.counts.shnum image))
unfolding sums_in opened front front_at begun sums_of
sums_by_head image head is =
    rw is (ap (λ (l : List Shdr). Ok (header_sums l))
    (headers_opened image (shdrs_at head.header head.counts.shnum image)))

-- those of the table are those of the image, and a failed read is free
pub sums_read : (holds left : Option (List ℕ)) (head : Head) (r : Result Sums ElfError)
    → left ≡ holds → IfSome holds (λ image. Follows (Ok head) (head_in image))
    → IfOk r (λ sums. IfSome left (λ image.
    sums ≡ header_sums (shdrs_at head.header head.counts.shnum image)))
    → IfErr r (λ e. e ≡ Read) → IfSome holds (λ image. Follows r (sums_in image))
sums_read None left head r same is value failed = tt
sums_read (Some image) left head (Err e) same is value failed = rw failed tt
sums_read (Some image) left head (Ok sums) same is value failed =
    let stated = subst (λ (o : Option (List ℕ)). IfSome o (λ i.
    sums ≡ header_sums (shdrs_at head.header head.counts.shnum i))) same value in
    rw stated (sums_by_head image head is)

-- a refusal of the front is one of the sums
refused_by_front : (image : List ℕ) (e : ElfError) → Follows {T = Front} (Err e) (front image)
    → Follows {T = Sums} (Err e) (sums_in image)
unfolding sums_in opened
refused_by_front image Memory h = tt
refused_by_front image Read h = tt
refused_by_front image e h = rw h refl

pub sums_refused : (holds : Option (List ℕ)) (e : ElfError)
    → IfSome holds (λ image. Follows {T = Head} (Err e) (head_in image))
    → IfSome holds (λ image. Follows {T = Sums} (Err e) (sums_in image))
sums_refused holds e h = by_front holds (front_refused holds e h)
  where
    by_front : (o : Option (List ℕ))
        → IfSome o (λ image. Follows {T = Front} (Err e) (front image))
        → IfSome o (λ image. Follows {T = Sums} (Err e) (sums_in image))
    by_front None h = tt
    by_front (Some image) h = refused_by_front image e h

-- a failed read is a refusal of the front
pub read_refuses : (r : Result Sums ElfError) (len : ℕ) → IfErr r (λ e. e ≡ Read)
    → IfErr r (IsFrontRefusal len)
read_refuses (Ok sums) len h = tt
read_refuses (Err e) len h = rw h (inr (inl tt))

-- ---- What is asked for

module _ {S : Type 0} (g : SourceGhosts S) where
  -- the head and the table of section headers are no more than a front
  pub sums_asked : (head : Head) (len : ℕ) (r : Result Sums ElfError) (s t u : S)
      → IsSound head len → Asks {T = Head} g (Ok head) s t (ehdr_size C64 + shdr_size C64)
      → Asks g r t u (head.counts.shnum * shdr_size head.header.class)
      → Asks g r s u most_front_bytes
  sums_asked head len r s t u sound first second =
      let few = mul-le-mul sound.counts.few_shdrs (shdr_size_most head.header.class) in
      asks_fewer g r s u
      (ehdr_size C64 + shdr_size C64 + head.counts.shnum * shdr_size head.header.class)
      most_front_bytes (omega (arith, few))
      (asks_both {T = Head} g (Ok head) r s t u (ehdr_size C64 + shdr_size C64)
      (head.counts.shnum * shdr_size head.header.class) first second)

  -- nor is the head alone, where it was refused
  pub refusal_asked : (e : ElfError) (s t : S)
      → Asks {T = Head} g (Err e) s t (ehdr_size C64 + shdr_size C64)
      → Asks {T = Sums} g (Err e) s t most_front_bytes
  refusal_asked e s t a =
      asks_fewer {T = Sums} g (Err e) s t (ehdr_size C64 + shdr_size C64) most_front_bytes
      (omega arith)
      (asks_as g Head Sums e s t (ehdr_size C64 + shdr_size C64) a)

pub sums_within : (holds : Option (List ℕ)) (head : Head) (old mid new : ℕ)
    → IfSome holds (λ image. Follows (Ok head) (head_in image))
    → IfSome holds (λ image. mid ≤ old + (header_bytes image + first_bytes image))
    → new ≤ mid + head.counts.shnum * shdr_size head.header.class
    → IfSome holds (λ image. new ≤ old + front_bytes image)
sums_within holds head old mid new is first second =
    bound_front holds head old mid new is first
    (both (head.counts.phnum * phdr_size head.header.class)
    (head.counts.shnum * shdr_size head.header.class) second)
  where
    both : (a b : ℕ) → new ≤ mid + b → new ≤ mid + (a + b)
    both a b h = omega (arith, h)

-- ---- The row

module _ (command : List ℕ) (name : Name) where
  shown_by : (r : Result Object ElfError) (sums : Sums)
      → (r >>= (λ o. Ok (sums_of o.sections))) ≡ Ok sums
      → object_report command size_report name r ≡ shown_report (size_row sums (total_of sums) name)
  unfolding size_report
  shown_by (Ok o) sums is =
      ap (λ (q : Sums). shown_report (size_row q (total_of q) name)) (ok_value_is (sums_of o.sections) sums is)
  shown_by (Err e) sums is = cc

  sums_shown : (image : List ℕ) (sums : Sums) → sums_in image ≡ Ok sums
      → image_report command size_report name image ≡ shown_report (size_row sums (total_of sums) name)
  unfolding sums_in image_report
  sums_shown image sums is = shown_by (opened image) sums is

  pub sums_reported : {O E : Type 0} (o : SinkGhosts O) (e : SinkGhosts E) (r : Result Bool Stop)
      (t u : Outputs O E) (holds : Option (List ℕ)) (sums : Sums)
      → IfSome holds (λ image. Follows (Ok sums) (sums_in image))
      → Reports o e r t u (shown_report (size_row sums (total_of sums) name))
      → IfSome holds (λ image. Reports o e r t u (image_report command size_report name image))
  sums_reported o e r t u None sums is h = tt
  sums_reported o e r t u (Some image) sums is h = rw (sums_shown image sums is) h

-- a refusal of the sums is one of the object
opened_by : (r : Result Object ElfError) (d : ElfError)
    → (r >>= (λ o. Ok (sums_of o.sections))) ≡ Err d → r ≡ Err d
opened_by (Ok o) d is = cc
opened_by (Err e) d is = let same : e ≡ d = cc in ap (λ (x : ElfError). Err x) same

refused_by_sums : (image : List ℕ) (e : ElfError) → Follows {T = Sums} (Err e) (sums_in image)
    → Follows {T = Object} (Err e) (opened image)
unfolding sums_in
refused_by_sums image Memory h = tt
refused_by_sums image Read h = tt
refused_by_sums image e h = opened_by (opened image) e h

pub object_refused : (holds : Option (List ℕ)) (e : ElfError)
    → IfSome holds (λ image. Follows {T = Sums} (Err e) (sums_in image))
    → IfSome holds (λ image. Follows {T = Object} (Err e) (opened image))
object_refused None e h = tt
object_refused (Some image) e h = refused_by_sums image e h
