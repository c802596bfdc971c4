-- An object that was made anew, as its image is opened again: its front, and its sections by
-- number.
use Rattle.std.proofs.Common.{◌≡◌, ℕ, ◌<◌, Bool, true, false, not, ◌||◌, List, [], ◌∷◌, length, Ok, refl, sym, ap, ◌∙◌, arith}
use Rattle.std.specs.Prelude.{All, if◌then◌else◌, ◌==◌}
use Rattle.std.specs.List.{enumerate_from}
use Rattle.std.proofs.lemmas.Bool.{ne_eqb}
use Rattle.std.proofs.lemmas.List.{length-map}
use Rattle.std.proofs.lemmas.List.FromFn.{length-enumerate_from}
use Rattle.elf_types.specs.declared.records.Ehdr.{Ehdr}
use Rattle.elf_types.specs.declared.records.Shdr.{Shdr}
use Rattle.elf_types.specs.declared.constants.TheConstants.{SHT_NULL, SHT_NOBITS}
use Rattle.elf_types.specs.Kinds.{section_kind}
use Rattle.elf_xlate.specs.Headers.{IsPhdr}
use Rattle.elf_xlate.specs.Translation.{encoded}
use Rattle.elf_xlate.specs.declared.content.Items.{Items}
use Rattle.elf_object.specs.Object.{Object, Section, home_piece, section_at, header_of, occupies_file, is_null, is_dirty}
use Rattle.elf_object.specs.Open.{home_of, opened}
use Rattle.elf_object.specs.Joined.{file_bytes}
use Rattle.elf_object.specs.Derived.{where_any, derived_header, numbered_shdr}
use Rattle.elf_object.specs.Layout.{places_of, section_place, size_in_file, placed_header, placed_shdr, placed_section, placed_by}
use Rattle.elf_object.specs.Image.{image}
use Rattle.elf_object.specs.Settled.{settled_section, settled_over}
use Rattle.elf_object.specs.Valid.{IsObject, as_opened}
use Rattle.elf_object.proofs.SettledSections.{section_at-settled}
use Rattle.law_rebuild.specs.law_object.Laws.{ReopenLaw}
use Rattle.law_rebuild.proofs.law_object.ImageLaws.{section_at-placed, joined-none, placed-dirty}
use Rattle.law_rebuild.proofs.law_object.SettledLaws.{settle-dirty}
use Rattle.law_rebuild.proofs.law_object.StandLaws.{where_some, section_count-placed, joined-placed, file_bytes_when}
use Rattle.elf_object.specs.Sections.{header_at}
use Rattle.rebuild_model.specs.Rebuilt.{made_section}
use Rattle.rebuild_model.specs.Files.{file_of}
use Rattle.rebuild_model.specs.KeepingLaws.{SameHeader}
use Rattle.law_split.specs.Halves.{without_place}
use Rattle.law_rebuild.proofs.strip.MadeSections.{header_made, made_bytes}
use Rattle.law_rebuild.proofs.strip.PlaceLaws.{section_place_stays}
use Rattle.law_rebuild.proofs.strip.WrittenLaws.{settled_again}

-- ---- The object of an image that was written

pub record IsWrittenAs (q : Object) (out : List ℕ) : Type 0 where
  pub ok : IsObject q
  pub phdrs : All IsPhdr q.phdrs
  pub dirty : is_dirty q ≡ true
  pub written : file_of q ≡ Ok out

pub record ReopensAs (q : Object) (out : List ℕ) (p : Object) : Type 0 where
  pub ok : IsObject q
  pub phdrs : All IsPhdr q.phdrs
  pub dirty : is_dirty q ≡ true
  pub written : file_of q ≡ Ok out
  pub again : opened out ≡ Ok p

pub written_reopened : (q : Object) (out : List ℕ) (p : Object) → IsWrittenAs q out
    → opened out ≡ Ok p → ReopensAs q out p
written_reopened q out p w again =
    record { ok = w.ok; phdrs = w.phdrs; dirty = w.dirty; written = w.written; again = again }

-- with its places
abbrev pub settled_anew : Object → Object
settled_anew q = settled_over (image q) (placed_by (places_of q) q)

pub reopened_as : ((o : Object) → ReopenLaw o) → (q : Object) (out : List ℕ) (p : Object)
    → ReopensAs q out p → p ≡ as_opened (settled_anew q)
reopened_as reopens q out p w =
    settled_again reopens q p out w.ok w.phdrs w.dirty w.written w.again
    ∙ ap (λ (x : Object). as_opened x)
    (settle-dirty q w.dirty ∙ ap (settled_over (image q)) (placed-dirty q w.dirty))

-- ---- Its front

pub record HasFront (q p : Object) : Type 0 where
  pub header : p.header ≡ placed_header (places_of q) q
  pub phdrs : p.phdrs ≡ q.phdrs
  pub count : length p.sections ≡ length q.sections

pub front_reopened : (q p : Object) → p ≡ as_opened (settled_anew q) → HasFront q p
unfolding settled_over placed_by
front_reopened q p is =
    let stored = placed_by (places_of q) q in
    record {
      header = ap (λ (x : Object). x.header) is;
      phdrs = ap (λ (x : Object). x.phdrs) is;
      count = ap (λ (x : Object). length x.sections) is
          ∙ length-map (enumerate_from 0 stored.sections)
          (λ row. settled_section (length (image q)) (file_bytes stored row.0) row.1.header)
          ∙ length-enumerate_from 0 stored.sections
          ∙ section_count-placed (places_of q) q;
    }

-- a string index that is none where there are no sections
index_stays : (l : List Section) (n : ℕ) → (l ≡ [] → n ≡ 0) → where_any (length l) n ≡ n
index_stays [] n none = sym (none refl)
index_stays (c ∷ l) n none = where_some (length (c ∷ l)) n (omega arith)

-- its header but for places and derived values
pub header_reopened : (q p : Object) → IsObject q → HasFront q p → SameHeader q.header p.header
unfolding placed_header derived_header header_of
header_reopened q p ok is = record {
  class = sym (ap (λ (h : Ehdr). h.class) is.header);
  order = sym (ap (λ (h : Ehdr). h.order) is.header);
  osabi = sym (ap (λ (h : Ehdr). h.osabi) is.header);
  abiversion = sym (ap (λ (h : Ehdr). h.abiversion) is.header);
  etype = sym (ap (λ (h : Ehdr). h.etype) is.header);
  machine = sym (ap (λ (h : Ehdr). h.machine) is.header);
  entry = sym (ap (λ (h : Ehdr). h.entry) is.header);
  flags = sym (ap (λ (h : Ehdr). h.flags) is.header);
  shstrndx = sym (ap (λ (h : Ehdr). h.shstrndx) is.header
      ∙ index_stays q.sections q.header.shstrndx ok.string_index);
}

-- ---- A section

pub section_reopened : (q p : Object) (s : ℕ) → p ≡ as_opened (settled_anew q)
    → s < length q.sections
    → section_at p s
    ≡ settled_section (length (image q)) (file_bytes q s)
    (placed_shdr (places_of q) q s (section_at q s).header)
unfolding section_at placed_section
section_reopened q p s is below =
    let count = section_count-placed (places_of q) q in
    ap (λ (x : Object). section_at x s) is
    ∙ section_at-settled (image q) (placed_by (places_of q) q) s (omega (arith, below, count))
    ∙ ap (λ (l : List ℕ). settled_section (length (image q)) l
    (section_at (placed_by (places_of q) q) s).header) (joined-placed (places_of q) q s)
    ∙ ap (λ (c : Section). settled_section (length (image q)) (file_bytes q s) c.header)
    (section_at-placed (places_of q) q s below)

-- ---- A section that was made anew

-- a header with the number of its bytes
abbrev pub with_size : Shdr → List ℕ → Shdr
with_size h bytes = record h { size = if occupies_file h then length bytes else h.size }

-- the header that is stored, but for its place
header_stored : (q : Object) (s : ℕ) (h : Shdr) (bytes : List ℕ) → 0 < s
    → (occupies_file h ≡ true → file_bytes q s ≡ bytes)
    → without_place (placed_shdr (places_of q) q s h) ≡ without_place (with_size h bytes)
unfolding placed_shdr
header_stored q s h bytes from filled =
    ap (λ (b : Bool). without_place (if b then numbered_shdr (placed_header (places_of q) q) h
    else (if is_null h then h else (record h {
      offset = section_place (places_of q) s;
      size = size_in_file q s h;
    }))))
    (ne_eqb s 0 (λ none. omega (arith, from, none)))
    ∙ by_type (h.stype == SHT_NULL) (h.stype == SHT_NOBITS) filled
  where
    by_type : (a b : Bool) → (not (a || b) ≡ true → file_bytes q s ≡ bytes)
        → without_place (if a then h else (record h {
          offset = section_place (places_of q) s;
          size = if not (a || b) then length (file_bytes q s) else h.size;
        }))
        ≡ without_place
        (record h { size = if not (a || b) then length bytes else h.size })
    by_type true b are = refl
    by_type false true are = refl
    by_type false false are =
        ap (λ (l : List ℕ). without_place (record h { size = length l })) (are refl)

kind_stored : (q : Object) (s : ℕ) (h : Shdr)
    → section_kind (placed_shdr (places_of q) q s h) ≡ section_kind h
unfolding section_kind placed_shdr numbered_shdr
kind_stored q s h = by_tests (s == 0) (is_null h)
  where
    by_tests : (a b : Bool)
        → section_kind (if a then numbered_shdr (placed_header (places_of q) q) h
        else (if b then h else (record h {
          offset = section_place (places_of q) s;
          size = size_in_file q s h;
        }))) ≡ section_kind h
    by_tests true b = refl
    by_tests false true = refl
    by_tests false false = refl

place_stored : (q : Object) (s : ℕ) (h : Shdr) → 0 < s → section_place (places_of q) s ≡ h.offset
    → (placed_shdr (places_of q) q s h).offset ≡ h.offset
unfolding placed_shdr
place_stored q s h from stays =
    ap (λ (b : Bool). (if b then numbered_shdr (placed_header (places_of q) q) h
    else (if is_null h then h else (record h {
      offset = section_place (places_of q) s;
      size = size_in_file q s h;
    }))).offset)
    (ne_eqb s 0 (λ none. omega (arith, from, none)))
    ∙ by_null (is_null h)
  where
    by_null : (b : Bool) → (if b then h else (record h {
      offset = section_place (places_of q) s;
      size = size_in_file q s h;
    })).offset ≡ h.offset
    by_null true = refl
    by_null false = stays

-- bytes as many as the header says
pub with_size_same : (h : Shdr) (bytes : List ℕ) → (occupies_file h ≡ true → length bytes ≡ h.size)
    → without_place (with_size h bytes) ≡ without_place h
with_size_same h bytes long = by_test (occupies_file h) long
  where
    by_test : (b : Bool) → (b ≡ true → length bytes ≡ h.size)
        → without_place (record h { size = if b then length bytes else h.size })
        ≡ without_place h
    by_test true is = ap (λ (n : ℕ). without_place (record h { size = n })) (is refl)
    by_test false is = refl

-- what an image has of a section that was made with bytes
pub record IsFiled (q p : Object) (s : ℕ) (h : Shdr) (bytes : List ℕ) : Type 0 where
  pub header : without_place (header_at p s) ≡ without_place (with_size h bytes)
  pub raw : (section_at p s).raw ≡ (if occupies_file h then bytes else [])
  pub kind : (section_at p s).home.kind ≡ section_kind h
  pub pieces : (section_at p s).pieces ≡ home_piece ∷ []
  pub place : q.layout ≡ true → (header_at p s).offset ≡ h.offset

pub section_filed : (q p : Object) (s : ℕ) (h : Shdr) (owned : Items) (bytes : List ℕ)
    → p ≡ as_opened (settled_anew q) → 0 < s → s < length q.sections
    → section_at q s ≡ made_section h owned
    → encoded q.header.class q.header.order owned ≡ bytes
    → IsFiled q p s h bytes
unfolding settled_section home_of
section_filed q p s h owned bytes is from below made coded =
    let again = section_reopened q p s is below in
    let header : (section_at q s).header ≡ h =
    ap (λ (c : Section). c.header) made ∙ header_made h owned in
    let stored = ap (λ (x : Shdr). placed_shdr (places_of q) q s x) header in
    let filled : occupies_file h ≡ true → file_bytes q s ≡ bytes =
    λ full. made_bytes q s h owned made from full ∙ coded in
    record {
      header = ap (λ (c : Section). without_place c.header) again
          ∙ ap (λ (x : Shdr). without_place x) stored
          ∙ header_stored q s h bytes from filled;
      raw = ap (λ (c : Section). c.raw) again ∙ by_bytes (occupies_file h) refl filled header;
      kind = ap (λ (c : Section). c.home.kind) again
          ∙ ap section_kind stored
          ∙ kind_stored q s h;
      pieces = ap (λ (c : Section). c.pieces) again;
      place = λ layout.
          ap (λ (c : Section). c.header.offset) again
          ∙ ap (λ (x : Shdr). x.offset) stored
          ∙ place_stored q s h from (section_place_stays q s layout from below
          ∙ ap (λ (x : Shdr). x.offset) header);
    }
  where
    by_bytes : (b : Bool) → occupies_file h ≡ b
        → (occupies_file h ≡ true → file_bytes q s ≡ bytes)
        → (section_at q s).header ≡ h
        → file_bytes q s ≡ (if b then bytes else [])
    by_bytes true e filled header = filled e
    by_bytes false e filled header =
        joined-none q s (file_bytes_when s (section_at q s) from
        ∙ ap (λ (x : Shdr). occupies_file x) header ∙ e)
