-- An image that a tool is to speak of.
use Rattle.std.proofs.Common.{◌≡◌, ◌≢◌, ◌+◌, ◌*◌, ◌≤◌, ℕ, Bool, false, true, List, Option, Some, None, Result, Ok, Err, IfSome, IfOk, IsTrue, refl, sym, ap, ◌∙◌, subst, arith}
use Rattle.std.specs.Prelude.{is_some, OnOk, if◌then◌else◌}
use Rattle.elf_types.specs.declared.constants.TheConstants.{MAX_IMAGE}
use Rattle.elf_types.specs.declared.errors.ElfError.{ElfError}
use Rattle.elf_types.specs.declared.errors.ElfError.TheVariants as error
use Rattle.elf_types.specs.Answers.{Follows}
use Rattle.elf_types.specs.Text.{error_text}
use Rattle.tool_output.specs.elf_outside.Asks.{Asks, ReadRose}
use Rattle.tool_output.proofs.elf_outside.AskLemmas.{asks_both, asks_fewer, asks_then}
use Rattle.tool_output.specs.elf_outside.declared.sources.Source.{Ghosts as SourceGhosts}
use Rattle.tool_output.specs.elf_outside.declared.sinks.Sink.{Ghosts as SinkGhosts}
use Rattle.gelf_view.specs.elf_ident.declared.file_kinds.FileKind.{FileKind}
use Rattle.gelf_view.specs.elf_ident.declared.file_kinds.FileKind.TheVariants.{Archive, Elf, Other}
use Rattle.gelf_view.specs.elf_ident.FileKinds.{file_kind}
use Rattle.gelf_view.specs.elf_object.Object.{Object}
use Rattle.gelf_view.specs.elf_object.Open.{opened}
use Rattle.gelf_view.specs.elf_object.Due.{all_sections}
use Rattle.gelf_view.specs.elf_ident.Front.{front_bytes, most_front_bytes}
use Rattle.gelf_view.specs.elf_ident.Reading.{HasTables}
use Rattle.gelf_view.specs.elf_descriptor.State.{State}
use Rattle.gelf_view.specs.elf_descriptor.Begun.{IsBegun, begun_state, begun_answer, source_after}
use Rattle.tool_output.specs.declared.stops.Stop.{Stop}
use Rattle.tool_output.specs.declared.outputs.Outputs.{Outputs}
use Rattle.tool_output.specs.Stops.{stop_of}
use Rattle.tool_output.specs.Names.{Name}
use Rattle.tool_output.specs.Reports.{Report, Reports, refusal_report}
use Rattle.tool_output.specs.Sources.{ReportsOn}
use Rattle.tool_output.proofs.SourceLemmas.{stated_error}
use Rattle.tool_objects.specs.Steps.{ReportsOver, LeavesElfOver, WentOn, homes_left, homes_total, asked_again}
use Rattle.tool_objects.specs.Looks.{SectionLooks}
use Rattle.tool_objects.specs.Images.{object_by, file_object, image_report, object_asks, image_asks}
use Rattle.tool_objects.proofs.OnceReads.{due_at_first}
use Rattle.tool_objects.proofs.SourceSteps.{leaves_then, rose_from_first}

pub file_kind_is : (a b : FileKind) → ◌≡◌ {A = Result FileKind ElfError} (Ok a) (Ok b) → a ≡ b
file_kind_is a b h = cc

-- an archive is no image
pub object_of_archive : (holds : Option (List ℕ)) → IfSome holds (λ image. Follows (Ok Archive) (Ok (file_kind image)))
    → IfSome holds (λ image. file_object image ≡ Err error.Magic)
unfolding file_object object_by
object_of_archive None h = tt
object_of_archive (Some image) h = rw (file_kind_is (file_kind image) Archive h) refl

-- anything else is opened
by_kind : (k : FileKind) (image : List ℕ) → k ≢ Archive → object_by k image ≡ opened image
unfolding object_by
by_kind Archive image h = absurd (h refl)
by_kind Elf image h = refl
by_kind Other image h = refl

pub object_of_image : (holds left : Option (List ℕ)) (k : FileKind) (r : Result Object ElfError) → left ≡ holds
    → IfSome holds (λ image. Follows (Ok k) (Ok (file_kind image))) → k ≢ Archive → IfSome left (λ image. Follows r (opened image))
    → IfSome holds (λ image. Follows r (file_object image))
unfolding file_object
object_of_image None left k r same kind other h = tt
object_of_image (Some image) left k r same kind other h =
    subst (λ (x : Result Object ElfError). Follows r x)
    (sym (ap (λ (q : FileKind). object_by q image) (file_kind_is (file_kind image) k kind) ∙ by_kind k image other))
    (subst (λ (x : Option (List ℕ)). IfSome x (λ i. Follows r (opened i))) same h)

pub elf_is_no_archive : Elf ≢ Archive
elf_is_no_archive h = cc

pub other_is_no_archive : Other ≢ Archive
other_is_no_archive h = cc

-- a failed read is no statement on the bytes
pub object_unread : (holds : Option (List ℕ)) (e : ElfError) → e ≡ error.Read → IfSome holds (λ image. Follows {T = Object} (Err e) (file_object image))
object_unread None e is = tt
object_unread (Some image) e is = rw is tt

-- ---- What is asked for to begin

-- the kind alone, and the kind and the front
pub kind_within : (holds : Option (List ℕ)) (a b : ℕ) → b ≤ a + 8 → IfSome holds (λ image. b ≤ a + (8 + front_bytes image))
kind_within None a b h = tt
kind_within (Some image) a b h = omega arith

pub front_within : (holds left : Option (List ℕ)) (a b c : ℕ) → left ≡ holds → b ≤ a + 8
    → IfSome left (λ image. c ≤ b + front_bytes image) → IfSome holds (λ image. c ≤ a + (8 + front_bytes image))
front_within None left a b c same h k = tt
front_within (Some image) left a b c same h k =
    let bound = subst (λ (o : Option (List ℕ)). IfSome o (λ i. c ≤ b + front_bytes i)) same k in
    omega (arith, h, bound)

module _ {S : Type 0} (s : SourceGhosts S) (src mid : S) where
  -- the kind was told, and then the descriptor begun
  pub begun_asks : (k : FileKind) (r : Result (State S) (S × ElfError)) → Asks {T = FileKind} s (Ok k) src mid 8
      → Asks s (begun_answer r) mid (source_after r) most_front_bytes
      → Asks s (begun_answer r) src (source_after r) (8 + most_front_bytes)
  begun_asks k r h l = asks_both s (Ok k) (begun_answer r) src mid (source_after r) 8 most_front_bytes h l

  -- or that was all
  pub kind_asks : (k : Result FileKind ElfError) (e : ElfError) → ReadRose {T = Object} (Err e) (s.faults src) (s.faults mid) → Asks s k src mid 8
      → Asks {T = Object} s (Err e) src mid (8 + most_front_bytes)
  kind_asks k e read h = asks_fewer s (Err e) src mid 8 (8 + most_front_bytes) (omega arith) (asks_then s k (Err e) src mid 8 h read)

  -- it has begun over the source as it was
  pub begun_over : (k : Result FileKind ElfError) (n : ℕ) (r : Result (State S) (S × ElfError))
      → Asks s k src mid n → IfOk r (IsBegun s mid) → IfOk r (IsBegun s src)
  begun_over k n (Err back) asks is = tt
  begun_over k n (Ok a) asks is =
      let same : s.size mid ≡ s.size src = asks.leaves.same_len in record {
        front = is.front;
        fitting = is.fitting;
        counted = is.counted;
        tables = subst (λ (len : ℕ). HasTables is.front.ehdr len) same is.tables;
        small = subst (λ (len : ℕ). len ≤ MAX_IMAGE) same is.small;
        state = is.state;
      }

  -- a descriptor tells its bytes where the source does
  pub begun_told : (r : Result (State S) (S × ElfError)) (n : ℕ) → s.holds mid ≡ s.holds src → Asks s (begun_answer r) mid (source_after r) n
      → IfOk r (IsBegun s mid) → IfOk r (λ a. a.told ≡ is_some (s.holds src))
  unfolding begun_state
  begun_told (Err back) n same asks is = tt
  begun_told (Ok a) n same asks is = ap (λ (x : State S). x.told) is.state ∙ ap is_some (asks.leaves.same_bytes ∙ same)

-- ---- What is said of it

module _ (command : List ℕ) (report : Name → Object → Report) (name : Name) where
  shown_on : {O E : Type 0} (o : SinkGhosts O) (e : SinkGhosts E) (r : Result Bool Stop) (t u : Outputs O E) (holds : Option (List ℕ)) (told : Bool) (x : Object)
      → IfSome holds (λ image. Follows (Ok x) (opened image)) → told ≡ is_some holds → (IsTrue told → Reports o e r t u (report name x))
      → IfSome holds (λ image. Reports o e r t u (image_report command report name image))
  unfolding image_report
  shown_on o e r t u None told x stated is h = tt
  shown_on o e r t u (Some image) told x stated is h = rw stated (h is)

  -- the object of the image is reported on
  pub image_shown : {S O E : Type 0} {passes : ℕ} (s : SourceGhosts S) (o : SinkGhosts O) (e : SinkGhosts E) (r : Result Bool Stop) (src : S) (a b : State S) (t u : Outputs O E) (n : ℕ)
      → Asks {T = Object} s (Ok a.o) src a.source n → IfSome (s.holds src) (λ image. Follows (Ok a.o) (opened image)) → IsBegun s src a
      → ReportsOver s o e passes (report name) r a b t u → ReportsOn s o e (image_report command report name) r src b.source t u
  image_shown s o e r src a b t u n asks stated is h =
      let p = asks.later in
      let q = h.elf.later in
      let told = begun_told s src src (Ok a) n refl asks is in record {
        reports = shown_on o e r t u (s.holds src) a.told a.o stated told h.reports;
        source = leaves_then s src a.source b.source asks.leaves h.elf.source;
        later = omega (arith, p, q);
        leaves = rose_from_first o e r (s.faults src) (s.faults a.source) (s.faults b.source) t u asks.later h.leaves;
      }

  -- the message of one that is refused
  pub image_refused : (holds : Option (List ℕ)) (d : ElfError) → IfSome holds (λ image. Follows {T = Object} (Err d) (opened image))
      → IfSome holds (λ image. stop_of d ≡ None → image_report command report name image ≡ refusal_report command name (error_text d))
  unfolding image_report
  image_refused None d h = tt
  image_refused (Some image) d h = λ none. rw (stated_error d (opened image) h none) refl

-- ---- What is asked for in all

pub on_ok : {T : Type 0} (r : Result T Stop) (P : Type 0) → P → OnOk r P
on_ok (Ok x) P h = h
on_ok (Err stop) P h = tt

-- of an object no more than its homes, and nothing by what reads none
by_reads : (reads : Bool) (homes again front before begun after left : ℕ) → begun ≤ before + front
    → after ≤ begun + left + again → left ≤ homes → (reads ≡ false → after ≡ begun)
    → after ≤ before + (front + (if reads then homes + again else 0))
by_reads true homes again front before begun after left h k l unread = omega (arith, h, k, l)
by_reads false homes again front before begun after left h k l unread =
    let same = unread refl in omega (arith, h, same)

module _ {S : Type 0} (s : SourceGhosts S) (src : S) (looks : SectionLooks) where
  -- the object of the image was reported on
  pub image_asked : (r : Result Bool Stop) (a b : State S)
      → IfSome (s.holds src) (λ image. Follows (Ok a.o) (opened image))
      → IfSome (s.holds src) (λ image. s.taken a.source ≤ s.taken src + front_bytes image)
      → LeavesElfOver s looks.passes (WentOn r) a b → (looks.reads ≡ false → b ≡ a)
      → OnOk r (IfSome (s.holds src) (λ image. s.taken b.source ≤ s.taken src + image_asks looks image))
  unfolding image_asks object_asks
  image_asked (Err stop) a b stated front left unread = tt
  image_asked (Ok x) a b stated front left unread = on_image (s.holds src) stated front
    where
      on_image : (held : Option (List ℕ)) → IfSome held (λ image. Follows (Ok a.o) (opened image))
          → IfSome held (λ image. s.taken a.source ≤ s.taken src + front_bytes image)
          → IfSome held (λ image. s.taken b.source ≤ s.taken src + image_asks looks image)
      on_image None is bound = tt
      on_image (Some image) is bound =
          rw is (by_reads looks.reads (homes_total a.o) (looks.passes * asked_again a.o)
          (front_bytes image) (s.taken src) (s.taken a.source) (s.taken b.source) (homes_left a) bound
          (asked_at (s.taken a.source) (s.taken b.source) (homes_left a) (homes_left b)
          (looks.passes * asked_again a.o) (left.asked tt))
          (due_at_first a.o a.loaded (all_sections a.o))
          (λ off. ap (λ (z : State S). s.taken z.source) (unread off)))
        where
          asked_at : (x y l m n : ℕ) → y + m ≤ x + l + n → y ≤ x + l + n
          asked_at x y l m n h = omega arith

  -- and where sections are not read, no more than the front
  pub image_unread : (a b : State S) → b ≡ a
      → IfSome (s.holds src) (λ image. s.taken a.source ≤ s.taken src + front_bytes image)
      → IfSome (s.holds src) (λ image. s.taken b.source ≤ s.taken src + front_bytes image)
  image_unread a b same front =
      subst (λ (z : State S). IfSome (s.holds src) (λ image. s.taken z.source ≤ s.taken src + front_bytes image))
      (sym same) front

-- what is no image asked for the front alone
pub refused_asked : (r : Result Bool Stop) (looks : SectionLooks) (holds : Option (List ℕ)) (a b : ℕ)
    → IfSome holds (λ image. b ≤ a + front_bytes image)
    → OnOk r (IfSome holds (λ image. b ≤ a + image_asks looks image))
unfolding image_asks
refused_asked (Err stop) looks holds a b h = tt
refused_asked (Ok x) looks None a b h = tt
refused_asked (Ok x) looks (Some image) a b h = omega (arith, h)
