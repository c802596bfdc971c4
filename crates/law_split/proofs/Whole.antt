-- An object as an image gives it, and its sections.
use Rattle.std.proofs.Common.{◌≡◌, ℕ, zero, suc, ◌+◌, ◌<◌, ◌≤◌, Bool, true, false, List, [], ◌∷◌, length, Option, Some, None, Result, Ok, Err, refl, sym, ap, ◌∙◌, subst, arith, ⊎_elim}
use Rattle.std.specs.Prelude.{if◌then◌else◌, map}
use Rattle.std.specs.List.{range_with_len}
use Rattle.std.proofs.lemmas.Bool.{cases_lt}
use Rattle.std.proofs.lemmas.List.{length-map, get_or-map, nil_from_length}
use Rattle.elf_types.specs.Answers.{first_refusal}
use Rattle.elf_types.specs.Lists.{AreBytes}
use Rattle.elf_types.specs.declared.records.Ehdr.{Ehdr}
use Rattle.elf_types.specs.declared.records.Shdr.{Shdr}
use Rattle.elf_types.specs.declared.errors.ElfError.{ElfError}
use Rattle.elf_types.specs.declared.errors.ElfError.TheVariants.{OutOfFile}
use Rattle.elf_ident.specs.declared.fronts.Front.{Front}
use Rattle.elf_ident.specs.Front.{front, zero_shdr}
use Rattle.elf_object.specs.Object.{Object, Section, absent_section, section_at, occupies_file}
use Rattle.elf_object.specs.Open.{home_len, home_of, opened_section, begun, begun_or_refused, opened}
use Rattle.elf_object.specs.Answers.{no_section, out_of_file, raw_refusal}
use Rattle.elf_object.specs.Valid.{IsObject}
use Rattle.elf_object.proofs.PassedLaws.{none_first, none_rest, not_refused}
use Rattle.law_rebuild.proofs.law_object.KeepLaws.{section_at_is}
use Rattle.law_rebuild.proofs.law_object.OpenLaws.{front_known, known_fits}
use Rattle.elf_object.specs.Sections.{header_at}
use Rattle.rebuild_model.specs.KeepingLaws.{SameHeader}
use Rattle.law_rebuild.specs.Strip.Made.{FitsClass}
use Rattle.law_rebuild.proofs.strip.WritableLaws.{begun_fits_class}

-- ---- Refusals of which none comes

none_here : {E : Type 0} (r : Option E) (rs : List (Option E)) → first_refusal (r ∷ rs) ≡ None
    → r ≡ None
none_here None rs h = refl
none_here (Some e) rs h = cc

none_later : {E : Type 0} (r : Option E) (rs : List (Option E)) → first_refusal (r ∷ rs) ≡ None
    → first_refusal rs ≡ None
none_later None rs h = h
none_later (Some e) rs h = cc

-- ---- Sections

-- the front of an image that was opened
pub begun_of : (image : List ℕ) (o : Object) → opened image ≡ Ok o
    → (f : Front) × (front image ≡ Ok f) × (begun f image ≡ o)
unfolding opened
begun_of image o e = by_front (front image) e
  where
    by_front : (r : Result Front ElfError) → begun_or_refused r image ≡ Ok o
        → (f : Front) × (r ≡ Ok f) × (begun f image ≡ o)
    by_front (Ok f) h = (f, refl, cc)
    by_front (Err d) h = cc

begun_at : (f : Front) (image : List ℕ) (s : ℕ) → s < length (begun f image).sections
    → section_at (begun f image) s ≡ opened_section image (header_at (begun f image) s)
unfolding section_at begun opened_section
begun_at f image s below =
    let count = length-map f.shdrs (opened_section image) in
    let at = get_or-map (opened_section image) f.shdrs s zero_shdr absent_section
    (omega (arith, below, count)) in
    at ∙ ap (λ (c : Section). opened_section image c.header) (sym at)

-- each section is as its header gives it
pub section_opened : (image : List ℕ) (o : Object) (s : ℕ) → opened image ≡ Ok o
    → s < length o.sections → section_at o s ≡ opened_section image (header_at o s)
section_opened image o s e below =
    let found = begun_of image o e in
    let Q : Object → Type 0 =
    λ x. s < length x.sections → section_at x s ≡ opened_section image (header_at x s) in
    subst Q found.2 (begun_at found.0 image s) below

-- its home lies in the file where its bytes are not refused
pub inside_from : (o : Object) (s : ℕ) → raw_refusal o s ≡ None → (section_at o s).home.out ≡ false
unfolding raw_refusal
inside_from o s passed =
    not_refused (section_at o s).home.out (OutOfFile s)
    (none_first (out_of_file o s) []
    (none_rest (no_section o s) (out_of_file o s ∷ []) passed))

-- it has as many bytes as its header says, and none where it has none in the file
pub record HasRaw (o : Object) (s : ℕ) : Type 0 where
  pub bytes : AreBytes (section_at o s).raw
  pub filled : occupies_file (header_at o s) ≡ true
      → length (section_at o s).raw ≡ (header_at o s).size
  pub empty : occupies_file (header_at o s) ≡ false → (section_at o s).raw ≡ []

pub home_opened : (image : List ℕ) (h : Shdr)
    → (opened_section image h).home.len ≡ (if occupies_file h then h.size else 0)
unfolding opened_section home_of home_len
home_opened image h = refl

pub raw_opened : (image : List ℕ) (o : Object) (s : ℕ) → IsObject o → opened image ≡ Ok o
    → s < length o.sections → (section_at o s).home.out ≡ false → HasRaw o s
raw_opened image o s ok e below inside =
    let is = section_at_is o s ok in
    let long : length (section_at o s).raw
    ≡ (if occupies_file (header_at o s) then (header_at o s).size else 0) =
    is.home.inside inside
    ∙ ap (λ (c : Section). c.home.len) (section_opened image o s e below)
    ∙ home_opened image (header_at o s) in
    record {
      bytes = is.home.bytes;
      filled = λ full. long ∙ ap (λ (b : Bool). if b then (header_at o s).size else 0) full;
      empty = λ none. nil_from_length (section_at o s).raw
          (long ∙ ap (λ (b : Bool). if b then (header_at o s).size else 0) none);
    }

-- ---- The object

-- its program headers and items fit its class
pub opened_fits : (image : List ℕ) (o : Object) → AreBytes image → opened image ≡ Ok o
    → FitsClass o
opened_fits image o are e =
    let found = begun_of image o e in
    let fits = known_fits image found.0 are (front_known image found.0 found.1) in
    subst FitsClass found.2 (begun_fits_class found.0 image fits.0)

-- headers but for the values that differ, one after the other
pub same_headers : (a b c : Ehdr) → SameHeader a b → SameHeader b c → SameHeader a c
same_headers a b c first later = record {
  class = first.class ∙ later.class;
  order = first.order ∙ later.order;
  osabi = first.osabi ∙ later.osabi;
  abiversion = first.abiversion ∙ later.abiversion;
  etype = first.etype ∙ later.etype;
  machine = first.machine ∙ later.machine;
  entry = first.entry ∙ later.entry;
  flags = first.flags ∙ later.flags;
  shstrndx = first.shstrndx ∙ later.shstrndx;
}

-- with other string indexes that are the same
pub reindexed : (a b : Ehdr) (i j : ℕ) → SameHeader a b → i ≡ j
    → SameHeader (record a { shstrndx = i }) (record b { shstrndx = j })
reindexed a b i j same index = record {
  class = same.class;
  order = same.order;
  osabi = same.osabi;
  abiversion = same.abiversion;
  etype = same.etype;
  machine = same.machine;
  entry = same.entry;
  flags = same.flags;
  shstrndx = index;
}

-- a test of each section that none fails
pub numbers_pass : {E : Type 0} (f : ℕ → Option E) (a n s : ℕ)
    → first_refusal (map f (range_with_len a n)) ≡ None → a ≤ s → s < a + n → f s ≡ None
numbers_pass f a zero s none from below = absurd (omega (arith, from, below))
numbers_pass f a (suc n) s none from below = ⊎_elim
    (λ later.
    numbers_pass f (a + 1) n s (none_later (f a) (map f (range_with_len (a + 1) n)) none)
    (omega (arith, later)) (omega (arith, below)))
    (λ here.
    let same : a ≡ s = omega (arith, from, here) in
    subst (λ (t : ℕ). f t ≡ None) same
    (none_here (f a) (map f (range_with_len (a + 1) n)) none))
    (cases_lt a s)
