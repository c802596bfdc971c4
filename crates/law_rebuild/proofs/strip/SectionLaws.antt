-- Each section of an object that is made anew is a section.
use Rattle.std.proofs.Common.{◌≡◌, ℕ, ◌-◌, ◌^◌, ◌<◌, ◌≤◌, Bool, true, false, List, [], ◌∷◌, length, None, refl, arith, lit≤}
use Rattle.std.specs.Prelude.{All, IsSome, IsTrue, if◌then◌else◌, ◌==◌}
use lib.Count.{ones}
use Rattle.std.proofs.lemmas.Bool.{ltb-false}
use Rattle.std.proofs.lemmas.List.Elements.{All-nil, All-cons}
use Rattle.elf_types.specs.declared.records.Class.{Class}
use Rattle.elf_types.specs.declared.records.Shdr.{Shdr}
use Rattle.elf_types.specs.declared.errors.ElfError.TheVariants.{TooLarge}
use Rattle.hash_model.specs.elf_xlate.declared.content.Items.{Items}
use Rattle.hash_model.specs.elf_xlate.Headers.{IsShdr, shdr_fits}
use Rattle.hash_model.specs.strtab_build.Table.{table, place_of}
use Rattle.hash_model.specs.elf_object.Object.{Object, Piece, new_section, occupies_file}
use Rattle.hash_model.specs.elf_object.Steps.{own_piece}
use Rattle.hash_model.specs.elf_object.Calls.{is_piece_align}
use Rattle.hash_model.specs.elf_object.Strings.{section_name, or_empty_name}
use Rattle.hash_model.specs.elf_object.Valid.{IsPiece, OthersOwn, IsSection, IsObject}
use Rattle.hash_model.proofs.elf_object.PassedLaws.{not_refused}
use Rattle.hash_model.proofs.elf_object.PieceLaws.{own_piece_is}
use Rattle.law_object.proofs.KeepLaws.{new_section_is, section_at_is}
use Rattle.hash_model.specs.elf_object.Sections.{header_at, info_is_section}
use Rattle.rebuild_model.specs.Followed.{renumbering, followed, followed_header}
use Rattle.rebuild_model.specs.Rebuilt.{renews_names, kept_names, made_section, rebuilt_items, rebuilt_name, rebuilt_header, rebuilt_section, table_refusal}
use Rattle.law_rebuild.proofs.strip.NameLaws.{place_within}
use Rattle.law_rebuild.proofs.strip.KeptLaws.{followed_small}

-- ---- One section

one_is_aligned : IsTrue (is_piece_align 1)
unfolding is_piece_align ones
one_is_aligned = refl

pub made_section_is : (class : Class) (h : Shdr) (items : Items) → IsShdr h
    → IsTrue (shdr_fits class h) → IsSection class (made_section h items)
unfolding made_section
made_section_is class h items is fitting = record {
  header = is;
  fitting = fitting;
  home = (new_section_is class).home;
  pieces = pieces (occupies_file h);
  others = others (occupies_file h);
  piece_count = count (occupies_file h);
}
  where
    pieces : (b : Bool) → All IsPiece (if b then own_piece items 1 ∷ [] else [])
    pieces true =
        All-cons IsPiece (own_piece items 1) [] (own_piece_is items 1 one_is_aligned)
        (All-nil IsPiece)
    pieces false = All-nil IsPiece

    others : (b : Bool) → OthersOwn (if b then own_piece items 1 ∷ [] else [])
    others true = All-nil (λ (p : Piece). IsSome p.own)
    others false = tt

    count : (b : Bool) → length (if b then own_piece items 1 ∷ [] else []) ≤ 2 ^ 20
    count true = lit≤ tt
    count false = lit≤ tt

-- ---- Its header

-- a header with another name and other links
pub relinked_is : (class : Class) (h : Shdr) (name link info : ℕ) → IsShdr h
    → IsTrue (shdr_fits class h) → name < 2 ^ 32 → link < 2 ^ 32 → info < 2 ^ 32
    → IsShdr (record h { name = name; link = link; info = info })
    × IsTrue (shdr_fits class (record h { name = name; link = link; info = info }))
unfolding shdr_fits
relinked_is class h name link info is fitting a b c = (
  record {
    name = a;
    stype = is.stype;
    flags = is.flags;
    addr = is.addr;
    offset = is.offset;
    size = is.size;
    link = b;
    info = c;
    addralign = is.addralign;
    entsize = is.entsize;
  },
  fitting,
)

-- a table of names is small where it is made anew
abbrev pub HasSmallTable : Object → List ℕ → Type 0
HasSmallTable o removed =
    (if renews_names o removed then table_refusal (kept_names o removed) else None) ≡ None

name_small : (o : Object) (removed : List ℕ) (s : ℕ) → IsObject o → HasSmallTable o removed
    → rebuilt_name o removed s < 2 ^ 32
unfolding rebuilt_name table_refusal
name_small o removed s ok small = by_test (renews_names o removed) small
  where
    by_test : (b : Bool) → (if b then table_refusal (kept_names o removed) else None) ≡ None
        → (if b then place_of (or_empty_name (section_name o s)) (kept_names o removed)
        else (header_at o s).name) < 2 ^ 32
    by_test true e =
        omega (
          arith,
          place_within (or_empty_name (section_name o s)) (kept_names o removed),
          ltb-false (2 ^ 32 - 1) (length (table (kept_names o removed)))
              (not_refused _ TooLarge e),
        )
    by_test false e = (section_at_is o s ok).header.name

pub rebuilt_header_is : (o : Object) (removed : List ℕ) (s : ℕ) → IsObject o
    → HasSmallTable o removed
    → IsShdr (rebuilt_header o removed s)
    × IsTrue (shdr_fits o.header.class (rebuilt_header o removed s))
unfolding rebuilt_header followed_header
rebuilt_header_is o removed s ok small =
    let is = section_at_is o s ok in
    relinked_is o.header.class (header_at o s) (rebuilt_name o removed s)
    (followed (renumbering o removed) (header_at o s).link)
    (if info_is_section (header_at o s) then followed (renumbering o removed) (header_at o s).info
    else (header_at o s).info)
    is.header is.fitting (name_small o removed s ok small)
    (followed_small o removed (header_at o s).link ok is.header.link)
    (by_test (info_is_section (header_at o s)))
  where
    by_test : (b : Bool)
        → (if b then followed (renumbering o removed) (header_at o s).info
        else (header_at o s).info) < 2 ^ 32
    by_test true =
        followed_small o removed (header_at o s).info ok (section_at_is o s ok).header.info
    by_test false = (section_at_is o s ok).header.info

pub rebuilt_section_is : (o : Object) (removed : List ℕ) (s : ℕ) → IsObject o
    → HasSmallTable o removed → IsSection o.header.class (rebuilt_section o removed s)
unfolding rebuilt_section
rebuilt_section_is o removed s ok small = by_test (s == 0)
  where
    by_test : (b : Bool) → IsSection o.header.class
        (if b then new_section
        else made_section (rebuilt_header o removed s) (rebuilt_items o removed s))
    by_test true = new_section_is o.header.class
    by_test false =
        let header = rebuilt_header_is o removed s ok small in
        made_section_is o.header.class (rebuilt_header o removed s) (rebuilt_items o removed s)
        header.0 header.1
