-- What the table of the names, written anew, and new places leave of an object's front and of its
-- sections.
use Rattle.std.proofs.Common.{◌≡◌, ◌≢◌, ℕ, ◌+◌, ◌<◌, Bool, true, false, not, List, [], ◌∷◌, length, drop, get_or, set, Option, Some, None, Ok, refl, sym, ap, ◌∙◌, arith}
use Rattle.std.specs.Prelude.{if◌then◌else◌, ◌==◌, map}
use Rattle.std.specs.List.{enumerate_from}
use Rattle.std.proofs.lemmas.Bool.{not-false}
use Rattle.std.proofs.lemmas.List.{length-map, get_or-map}
use Rattle.std.proofs.lemmas.List.FromFn.{length-enumerate_from, get_or-enumerate_from}
use Rattle.elf_types.specs.Answers.{refused_if, first_refusal, answered}
use Rattle.elf_types.specs.declared.records.Shdr.{Shdr}
use Rattle.law_object.specs.elf_xlate.declared.content.Items.{Items}
use Rattle.law_object.specs.elf_xlate.declared.content.Items.TheVariants as items
use Rattle.strtab_build.specs.Table.{table, place_of}
use Rattle.law_object.proofs.elf_ident.Refusals.{answered_ok, bind_ok}
use Rattle.law_object.specs.elf_object.Object.{Object, Section, Piece, section_at, piece_at, absent_section, home_piece}
use Rattle.law_object.specs.elf_object.Steps.{with_ehdr, stored_ehdr, own_piece}
use Rattle.law_object.specs.elf_object.Strings.{or_empty_name}
use Rattle.law_object.proofs.elf_object.StepLaws.{section_at-with_own}
use Rattle.law_object.specs.elf_object.Sections.{header_at}
use Rattle.rebuild_model.specs.Arranged.{place_from, section_from, table_place_from, placed_from}
use Rattle.rebuild_model.specs.Rebuilt.{table_refusal}
use Rattle.rebuild_model.specs.Copied.{or_strip, named_section, with_names, named}
use Rattle.rebuild_model.specs.Copied.CopyFault.{NoTable}
use Rattle.rebuild_model.specs.KeepingLaws.{without_places}
use Rattle.law_rebuild.proofs.strip.MadeSections.{section_placed}
use Rattle.law_rebuild.proofs.copy.EachChange.{Follows, KeepsHeader, SamePieces, follows_itself, follows_both, or_strip_ok, first_test, follows_own, header_stays_own, own_pieces}

-- ---- The table of the names

pub named_known : (renewed : Bool) (o : Object) (names : List (Option (List ℕ))) (p : Object)
    → named renewed o names ≡ Ok p
    → (renewed ≡ true) × (p ≡ with_names o (map or_empty_name (drop 1 names)))
unfolding named table_refusal
named_known renewed o names p e =
    let texts = map or_empty_name (drop 1 names) in
    let first = bind_ok _ (λ q. or_strip (answered (table_refusal texts) (with_names q texts))) p e
    in
    let value = answered_ok (first_refusal (refused_if (not renewed) NoTable ∷ [])) o first.0
    first.1 in
    let made = answered_ok (table_refusal texts) (with_names first.0 texts) p
    (or_strip_ok (answered (table_refusal texts) (with_names first.0 texts)) p first.2) in (
      not-false renewed (first_test (not renewed) NoTable [] value.0),
      sym made.1 ∙ ap (λ (q : Object). with_names q texts) (sym value.1),
    )

-- before the table itself is stored
headed : Object → List (List ℕ) → Object
headed o names = record o {
  sections = map (λ row. named_section names row.0 row.1) (enumerate_from 0 o.sections);
}

headed_at : (o : Object) (names : List (List ℕ)) (s : ℕ) → s < length o.sections
    → section_at (headed o names) s ≡ named_section names s (section_at o s)
unfolding section_at headed
headed_at o names s below =
    let at : 0 + s ≡ s = omega arith in
    get_or-map (λ (r : ℕ × Section). named_section names r.0 r.1) (enumerate_from 0 o.sections)
    s (0, absent_section) absent_section
    (omega (arith, below, length-enumerate_from 0 o.sections))
    ∙ ap (λ (r : ℕ × Section). named_section names r.0 r.1)
    (get_or-enumerate_from 0 o.sections s (0, absent_section) below)
    ∙ ap (λ (i : ℕ). named_section names i (get_or o.sections s absent_section)) at

headed_count : (o : Object) (names : List (List ℕ))
    → length (headed o names).sections ≡ length o.sections
unfolding headed
headed_count o names =
    length-map (enumerate_from 0 o.sections) (λ row. named_section names row.0 row.1)
    ∙ length-enumerate_from 0 o.sections

headed_follows : (o : Object) (names : List (List ℕ)) → Follows o (headed o names)
unfolding headed
headed_follows o names =
    let count = length-map (enumerate_from 0 o.sections)
    (λ row. named_section names row.0 row.1) ∙ length-enumerate_from 0 o.sections in
    record {
      class = refl;
      order = refl;
      index = refl;
      phdrs = refl;
      marked = λ h. h;
      count = omega (arith, count);
    }

-- what a section with another name is but for it
pub record IsRenamed (old new : Section) : Type 0 where
  pub header : without_places new.header ≡ without_places old.header
  pub pieces : new.pieces ≡ old.pieces

named_section_kept : (names : List (List ℕ)) (s : ℕ) (c : Section)
    → IsRenamed c (named_section names s c)
named_section_kept names s c = by_test (s == 0)
  where
    by_test : (b : Bool) → IsRenamed c (if b then c else (record c {
      header = record c.header { name = place_of (get_or ([] ∷ names) s []) names };
      marked = true;
    }))
    by_test true = record { header = refl; pieces = refl }
    by_test false = record { header = refl; pieces = refl }

pub names_follow : (o : Object) (names : List (List ℕ)) → Follows o (with_names o names)
unfolding with_names headed
names_follow o names =
    follows_both o (headed o names) (with_names o names) (headed_follows o names)
    (follows_own (headed o names) o.header.shstrndx 0 (items.Bytes (table names)))

pub names_header : (o : Object) (names : List (List ℕ)) (s : ℕ) → s < length o.sections
    → KeepsHeader o (with_names o names) s
unfolding with_names headed
names_header o names s below =
    let count = headed_count o names in
    ap without_places
    (header_stays_own (headed o names) o.header.shstrndx s (items.Bytes (table names))
    (omega (arith, below, count)))
    ∙ ap (λ (c : Section). without_places c.header) (headed_at o names s below)
    ∙ (named_section_kept names s (section_at o s)).header

pub names_pieces : (o : Object) (names : List (List ℕ)) (s : ℕ) → s < length o.sections
    → s ≢ o.header.shstrndx → SamePieces o (with_names o names) s
unfolding with_names headed
names_pieces o names s below other =
    let stored = own_pieces (headed o names) o.header.shstrndx s (items.Bytes (table names)) other
    in
    let at = headed_at o names s below in
    let kept = named_section_kept names s (section_at o s) in
    record {
      stype = stored.stype ∙ ap (λ (c : Section). c.header.stype) at
          ∙ ap (λ (h : Shdr). h.stype) kept.header;
      pieces = stored.pieces ∙ ap (λ (c : Section). c.pieces) at ∙ kept.pieces;
    }

-- the place of a name in the new table
place_named : (names : List (List ℕ)) (s : ℕ) (c : Section) → (s == 0) ≡ false
    → (named_section names s c).header.name ≡ place_of (get_or ([] ∷ names) s []) names
place_named names s c from =
    ap (λ (b : Bool).
    let made : Section = if b then c else (record c {
      header = record c.header { name = place_of (get_or ([] ∷ names) s []) names };
      marked = true;
    }) in made.header.name) from

pub names_place : (o : Object) (names : List (List ℕ)) (s : ℕ) → s < length o.sections
    → (s == 0) ≡ false
    → (header_at (with_names o names) s).name ≡ place_of (get_or ([] ∷ names) s []) names
unfolding with_names headed
names_place o names s below from =
    let count = headed_count o names in
    ap (λ (h : Shdr). h.name)
    (header_stays_own (headed o names) o.header.shstrndx s (items.Bytes (table names))
    (omega (arith, below, count)))
    ∙ ap (λ (c : Section). c.header.name) (headed_at o names s below)
    ∙ place_named names s (section_at o s) from

-- the table itself
pub names_table : (o : Object) (names : List (List ℕ)) (own : Items)
    → o.header.shstrndx < length o.sections
    → (section_at o o.header.shstrndx).pieces ≡ own_piece own 1 ∷ []
    → (section_at (with_names o names) o.header.shstrndx).pieces
    ≡ own_piece (items.Bytes (table names)) 1 ∷ []
unfolding with_names headed piece_at
names_table o names own below pieces =
    let count = headed_count o names in
    let kept : (section_at (headed o names) o.header.shstrndx).pieces ≡ own_piece own 1 ∷ [] =
    ap (λ (c : Section). c.pieces) (headed_at o names o.header.shstrndx below)
    ∙ (named_section_kept names o.header.shstrndx (section_at o o.header.shstrndx)).pieces
    ∙ pieces in
    ap (λ (c : Section). c.pieces)
    (section_at-with_own (headed o names) o.header.shstrndx 0 (items.Bytes (table names))
    (omega (arith, below, count)))
    ∙ ap (λ (ps : List Piece).
    set ps 0 (own_piece (items.Bytes (table names)) (get_or ps 0 home_piece).align)) kept

-- ---- Places from a tail on

from_kept : (o : Object) (tail s : ℕ) (c : Section) → IsRenamed c (section_from o tail s c)
unfolding section_from
from_kept o tail s c = by_place (place_from o tail s)
  where
    by_place : (place : Option ℕ) → IsRenamed c (elim place [
      | None ↦ c
      | Some at ↦ record c { header = record c.header { offset = at }; marked = true }
    ])
    by_place None = record { header = refl; pieces = refl }
    by_place (Some at) = record { header = refl; pieces = refl }

pub places_header : (o : Object) (tail s : ℕ) → s < length o.sections
    → KeepsHeader o (placed_from o tail) s
places_header o tail s below =
    ap (λ (c : Section). without_places c.header) (section_placed o tail s below)
    ∙ (from_kept o tail s (section_at o s)).header

pub places_pieces : (o : Object) (tail s : ℕ) → s < length o.sections
    → SamePieces o (placed_from o tail) s
places_pieces o tail s below =
    let at = section_placed o tail s below in
    let kept = from_kept o tail s (section_at o s) in
    record {
      stype = ap (λ (c : Section). c.header.stype) at ∙ ap (λ (h : Shdr). h.stype) kept.header;
      pieces = ap (λ (c : Section). c.pieces) at ∙ kept.pieces;
    }

pub places_follow : (o : Object) (tail : ℕ) → Follows o (placed_from o tail)
unfolding placed_from with_ehdr stored_ehdr
places_follow o tail = by_test (length o.sections == 0)
  where
    by_test : (b : Bool) → Follows o (if b then o else with_ehdr
        (record o {
          sections = map (λ row. section_from o tail row.0 row.1) (enumerate_from 0 o.sections);
        })
        (record o.header { shoff = table_place_from o tail }))
    by_test true = follows_itself o
    by_test false =
        let count = length-map (enumerate_from 0 o.sections)
        (λ row. section_from o tail row.0 row.1) ∙ length-enumerate_from 0 o.sections in
        record {
          class = refl;
          order = refl;
          index = refl;
          phdrs = refl;
          marked = λ h. refl;
          count = omega (arith, count);
        }
