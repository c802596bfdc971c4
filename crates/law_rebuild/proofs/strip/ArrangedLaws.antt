-- The places that are given from a tail on are not too large, and the object that has them is one.
use Rattle.std.proofs.Common.{◌≡◌, ℕ, zero, suc, ◌≤◌, Bool, true, false, List, [], ◌∷◌, length, get_or, Option, Some, None, Result, Ok, refl, sym, ap, ◌∙◌, subst, arith}
use Rattle.std.specs.Prelude.{IsTrue, nat_lt, nat_eq, if◌then◌else◌, ◌==◌, map}
use Rattle.std.specs.List.{enumerate_from, list_any, position}
use Rattle.std.specs.Option.{option_map}
use Rattle.std.proofs.lemmas.Bool.{ltb-false, or_parts}
use Rattle.std.proofs.lemmas.List.{length-map, nil_from_length}
use Rattle.std.proofs.lemmas.List.FromFn.{length-enumerate_from}
use Rattle.std.proofs.lemmas.List.Elements.{All-map, All-get_or}
use Rattle.elf_types.specs.Answers.{answered}
use Rattle.elf_types.specs.declared.records.Class.{Class}
use Rattle.elf_types.specs.declared.records.Shdr.{Shdr}
use Rattle.elf_types.specs.declared.errors.ElfError.{ElfError}
use Rattle.elf_types.specs.declared.errors.ElfError.TheVariants.{TooLarge}
use Rattle.hash_model.specs.elf_xlate.Headers.{IsShdr, shdr_fits}
use Rattle.hash_model.specs.elf_layout.declared.parts.PartAt.{PartAt}
use Rattle.hash_model.specs.elf_layout.Layout.{positions, limit_of, some_above}
use Rattle.hash_model.proofs.elf_ident.Refusals.{answered_ok}
use Rattle.hash_model.specs.elf_object.Object.{Object, Section, absent_section}
use Rattle.hash_model.specs.elf_object.Steps.{with_ehdr, stored_ehdr}
use Rattle.hash_model.specs.elf_object.Valid.{IsSection, IsObject}
use Rattle.hash_model.proofs.elf_object.PassedLaws.{not_refused}
use Rattle.law_object.proofs.PlaceLaws.{IsFitting, within_limit}
use Rattle.law_object.proofs.PlacedLaws.{ehdr_fits_each, ehdr_fits_all, shdr_fits_each, shdr_fits_all, each_row}
use Rattle.rebuild_model.specs.Arranged.{Rebuilt, movable, parts_from, place_from, table_place_from, section_from, placed_from, tail_refusal, arranged}

-- ---- What is arranged

-- it is as it was, or has places from its tail on
pub arranged_keeps : (P : Object → Type 0) (old new : Rebuilt) → arranged old ≡ Ok new
    → P old.object
    → ((tail : ℕ) → old.tail ≡ Some tail → tail_refusal old.object tail ≡ None
    → P (placed_from old.object tail))
    → P new.object
unfolding arranged
arranged_keeps P old new e same moved = by_tail old.tail refl e
  where
    by_tail : (t : Option ℕ) → old.tail ≡ t
        → ◌≡◌ {A = Result Rebuilt ElfError} (elim t [
          | None ↦ Ok old
          | Some tail ↦ answered
              (tail_refusal old.object tail)
              (record old { object = placed_from old.object tail })
        ]) (Ok new)
        → P new.object
    by_tail None is h = let one : old ≡ new = cc in subst (λ (r : Rebuilt). P r.object) one same
    by_tail (Some tail) is h =
        let both = answered_ok (tail_refusal old.object tail)
        (record old { object = placed_from old.object tail }) new h in
        subst (λ (r : Rebuilt). P r.object) both.1 (moved tail is both.0)

-- ---- Places

positions_small : (limit : ℕ) (ps : List PartAt) (i : ℕ) → some_above limit ps ≡ false
    → get_or (positions ps) i 0 ≤ limit
unfolding some_above positions
positions_small limit [] i none = omega arith
positions_small limit (p ∷ ps) zero none =
    let both = or_parts (nat_lt limit p.at) (list_any (λ q. nat_lt limit q.at) ps) none in
    ltb-false limit p.at both.0
positions_small limit (p ∷ ps) (suc i) none =
    let both = or_parts (nat_lt limit p.at) (list_any (λ q. nat_lt limit q.at) ps) none in
    positions_small limit ps i both.1

-- a place of a part that is placed from the tail on
place_fits : (o : Object) (tail i : ℕ) → tail_refusal o tail ≡ None
    → IsFitting o.header.class (get_or (positions (parts_from o tail)) i 0)
unfolding tail_refusal
place_fits o tail i passed =
    within_limit o.header.class (get_or (positions (parts_from o tail)) i 0)
    (positions_small (limit_of o.header.class) (parts_from o tail) i
    (not_refused (some_above (limit_of o.header.class) (parts_from o tail)) TooLarge passed))

-- ---- Sections

-- a header at another place
moved_is : (class : Class) (h : Shdr) (offset : ℕ) → IsShdr h → IsTrue (shdr_fits class h)
    → IsFitting class offset
    → IsShdr (record h { offset = offset })
    × IsTrue (shdr_fits class (record h { offset = offset }))
moved_is class h offset is fitting place =
    let each = shdr_fits_each class h fitting in (
      record {
        name = is.name;
        stype = is.stype;
        flags = is.flags;
        addr = is.addr;
        offset = place.range;
        size = is.size;
        link = is.link;
        info = is.info;
        addralign = is.addralign;
        entsize = is.entsize;
      },
      shdr_fits_all class (record h { offset = offset }) (record {
        flags = each.flags;
        addr = each.addr;
        offset = place.fits;
        size = each.size;
        addralign = each.addralign;
        entsize = each.entsize;
      }),
    )

section_from_is : (o : Object) (tail s : ℕ) (c : Section) → tail_refusal o tail ≡ None
    → IsSection o.header.class c → IsSection o.header.class (section_from o tail s c)
unfolding section_from place_from
section_from_is o tail s c passed is = by_place (position (nat_eq s) (movable o))
  where
    by_place : (place : Option ℕ) → IsSection o.header.class (elim (option_map
        (λ i. get_or (positions (parts_from o tail)) i 0) place) [
          | None ↦ c
          | Some at ↦ record c { header = record c.header { offset = at }; marked = true }
        ])
    by_place None = is
    by_place (Some i) =
        let header = moved_is o.header.class c.header (get_or (positions (parts_from o tail)) i 0)
        is.header is.fitting (place_fits o tail i passed) in
        record {
          header = header.0;
          fitting = header.1;
          home = is.home;
          pieces = is.pieces;
          others = is.others;
          piece_count = is.piece_count;
        }

-- ---- The object

pub placed_from_is : (o : Object) (tail : ℕ) → IsObject o → tail_refusal o tail ≡ None
    → IsObject (placed_from o tail)
unfolding placed_from with_ehdr stored_ehdr
placed_from_is o tail ok passed = by_test (length o.sections == 0)
  where
    by_test : (b : Bool) → IsObject (if b then o else with_ehdr
        (record o {
          sections = map (λ row. section_from o tail row.0 row.1) (enumerate_from 0 o.sections);
        })
        (record o.header { shoff = table_place_from o tail }))
    by_test true = ok
    by_test false =
        let place = place_fits o tail (length (movable o)) passed in
        let fits = ehdr_fits_each o.header ok.fitting in
        let count = length-map (enumerate_from 0 o.sections)
        (λ row. section_from o tail row.0 row.1) ∙ length-enumerate_from 0 o.sections in
        let few = ok.section_count in
        record {
          header = record {
            osabi = ok.header.osabi;
            abiversion = ok.header.abiversion;
            etype = ok.header.etype;
            machine = ok.header.machine;
            version = ok.header.version;
            entry = ok.header.entry;
            phoff = ok.header.phoff;
            shoff = place.range;
            flags = ok.header.flags;
            ehsize = ok.header.ehsize;
            phentsize = ok.header.phentsize;
            phnum = ok.header.phnum;
            shentsize = ok.header.shentsize;
            shnum = ok.header.shnum;
            shstrndx = ok.header.shstrndx;
          };
          fitting = ehdr_fits_all (record o.header { shoff = table_place_from o tail })
              (record { entry = fits.entry; phoff = fits.phoff; shoff = place.fits });
          phnum = ok.phnum;
          shnum = ok.shnum ∙ sym count;
          pad = ok.pad;
          pad_bytes = ok.pad_bytes;
          phdr_count = ok.phdr_count;
          sections = All-map (IsSection o.header.class)
              (λ row. section_from o tail row.0 row.1) (enumerate_from 0 o.sections)
              (each_row (λ row. IsSection o.header.class (section_from o tail row.0 row.1))
              o.sections absent_section
              (λ i h. section_from_is o tail i (get_or o.sections i absent_section) passed
              (All-get_or (IsSection o.header.class) o.sections i absent_section h ok.sections)));
          section_count = omega (arith, count, few);
          string_index = λ none. ok.string_index
              (nil_from_length o.sections (sym count ∙ ap length none));
          base = ok.base;
          base_length = ok.base_length;
          fill = ok.fill;
        }
