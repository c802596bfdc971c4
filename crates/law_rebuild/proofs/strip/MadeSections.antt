-- The sections of what is made of a program: of which each is made, where it stands, and which
-- bytes it has in the file.
use Rattle.std.proofs.Common.{◌≡◌, ℕ, zero, suc, ◌+◌, ◌-◌, ◌<◌, ◌≤◌, Bool, true, false, not, ◌&&◌, List, [], ◌∷◌, length, take, drop, get_or, Option, Some, None, refl, sym, ap, ◌∙◌, inl, inr, subst, arith}
use Rattle.std.specs.Prelude.{filter, if◌then◌else◌, ◌==◌, map}
use Rattle.std.specs.List.{enumerate_from}
use Rattle.std.proofs.lemmas.Bool.{eqb-true, ne_eqb, cases_eq, and_parts, and_left, and_right, both_ways, not_from_true}
use Rattle.std.proofs.lemmas.List.{length-map, length-take, take_min, get_or-map}
use Rattle.std.proofs.lemmas.List.Elements.{All-get_or, filter_passes}
use Rattle.std.proofs.lemmas.List.FromFn.{length-enumerate_from, get_or-enumerate_from}
use Rattle.std.proofs.lemmas.Option.{get_or_from_slice_get, slice_get_within}
use Rattle.elf_types.specs.Answers.{first_refusal}
use Rattle.elf_types.specs.Lists.{AreBytes}
use Rattle.elf_types.specs.declared.records.Class.{Class}
use Rattle.elf_types.specs.declared.records.Kind.TheVariants as kinds
use Rattle.elf_types.specs.declared.records.Order.{Order}
use Rattle.elf_types.specs.declared.records.Shdr.{Shdr}
use Rattle.elf_types.specs.declared.errors.ElfError.{ElfError}
use Rattle.elf_types.specs.declared.errors.ElfError.TheVariants.{OutOfFile}
use Rattle.elf_types.specs.declared.constants.TheConstants.{SHT_SYMTAB_SHNDX}
use Rattle.hash_model.specs.elf_xlate.declared.content.Items.{Items}
use Rattle.hash_model.specs.elf_xlate.declared.content.Items.TheVariants as items
use Rattle.hash_model.specs.elf_xlate.Translation.{encoded}
use Rattle.hash_model.proofs.elf_xlate.Bytes.{lowest_same}
use Rattle.hash_model.specs.elf_ident.declared.fronts.Front.{Front}
use Rattle.hash_model.specs.elf_ident.Front.{zero_shdr}
use Rattle.hash_model.specs.elf_object.Blocks.{stacked, last_end, spread}
use Rattle.hash_model.specs.elf_object.Object.{Object, Section, absent_section, new_section, section_at, occupies_file, has_file_bytes}
use Rattle.hash_model.specs.elf_object.Open.{home_len, home_of, home_bytes, opened_section, begun}
use Rattle.hash_model.specs.elf_object.Answers.{no_section, out_of_file, raw_refusal, data_refusal}
use Rattle.hash_model.specs.elf_object.Joined.{piece_bytes, aligned_pieces, piece_blocks, pieces_end, file_bytes, section_end}
use Rattle.hash_model.specs.elf_object.Steps.{with_ehdr, with_phdrs, own_piece}
use Rattle.hash_model.proofs.elf_object.PassedLaws.{none_first, none_rest, not_refused}
use Rattle.law_object.proofs.ItemLaws.{alone_spread}
use Rattle.law_object.proofs.StandLaws.{file_bytes_when}
use Rattle.law_object.specs.Writing.Lines.{StandsAt}
use Rattle.hash_model.specs.elf_object.Sections.{is_allocated, is_loose, is_among, first_of, header_at}
use Rattle.rebuild_model.specs.Followed.{kept_sections, kept_from_1, followed_header, has_indexes_of, extended_table, is_the, symbols_follow, members_follow, indexes_follow}
use Rattle.rebuild_model.specs.Arranged.{place_from, section_from, table_place_from, placed_from}
use Rattle.rebuild_model.specs.Rebuilt.{has_names_alone, renews_names, items_follow, kept_items, kept_refusal, made_section, rebuilt_items, rebuilt_header, rebuilt_section, rebuilt_sections, assembled}
use Rattle.law_rebuild.proofs.strip.KeptLaws.{IsInRange, kept_few, kept_first, kept_in_range}
use Rattle.law_rebuild.proofs.strip.MadeObject.{made_over}

-- ---- At a number

-- with places from a tail on
pub section_placed : (p : Object) (tail s : ℕ) → s < length p.sections
    → section_at (placed_from p tail) s ≡ section_from p tail s (section_at p s)
unfolding placed_from with_ehdr section_at
section_placed p tail s below = by_test (length p.sections == 0) refl
  where
    by_test : (b : Bool) → (length p.sections == 0) ≡ b
        → get_or (if b then p else with_ehdr
        (record p {
          sections = map (λ row. section_from p tail row.0 row.1) (enumerate_from 0 p.sections);
        })
        (record p.header { shoff = table_place_from p tail })).sections s absent_section
        ≡ section_from p tail s (get_or p.sections s absent_section)
    by_test true e = absurd (omega (arith, below, eqb-true (length p.sections) 0 e))
    by_test false e =
        let at : 0 + s ≡ s = omega arith in
        get_or-map (λ (r : ℕ × Section). section_from p tail r.0 r.1) (enumerate_from 0 p.sections)
        s (0, absent_section) absent_section
        (omega (arith, below, length-enumerate_from 0 p.sections))
        ∙ ap (λ (r : ℕ × Section). section_from p tail r.0 r.1)
        (get_or-enumerate_from 0 p.sections s (0, absent_section) below)
        ∙ ap (λ (i : ℕ). section_from p tail i (get_or p.sections s absent_section)) at

-- one that is not moved, and the place of one that is
pub section_unmoved : (p : Object) (tail s : ℕ) (c : Section) → place_from p tail s ≡ None
    → section_from p tail s c ≡ c
unfolding section_from
section_unmoved p tail s c unmoved =
    ap (λ (x : Option ℕ). elim x [
      | None ↦ c
      | Some place ↦ record c { header = record c.header { offset = place }; marked = true }
    ]) unmoved

pub section_moved : (p : Object) (tail s place : ℕ) (c : Section)
    → place_from p tail s ≡ Some place → (section_from p tail s c).header.offset ≡ place
unfolding section_from
section_moved p tail s place c moved =
    ap (λ (x : Option ℕ).
    let made : Section = elim x [
      | None ↦ c
      | Some new ↦ record c { header = record c.header { offset = new }; marked = true }
    ] in made.header.offset) moved

pub length-made : (o : Object) (removed : List ℕ) (tail : ℕ)
    → length (made_over o removed tail).sections ≡ length (rebuilt_sections o removed)
unfolding assembled with_ehdr with_phdrs
length-made o removed tail = refl

-- what is made keeps the place and the flags of the header, but for its name and its links
pub offset_kept : (o : Object) (removed : List ℕ) (s : ℕ)
    → (rebuilt_header o removed s).offset ≡ (header_at o s).offset
unfolding rebuilt_header followed_header
offset_kept o removed s = refl

pub allocated_kept : (o : Object) (removed : List ℕ) (s : ℕ)
    → is_allocated (rebuilt_header o removed s) ≡ is_allocated (header_at o s)
unfolding is_allocated rebuilt_header followed_header
allocated_kept o removed s = refl

pub header_made : (h : Shdr) (owned : Items) → (made_section h owned).header ≡ h
unfolding made_section
header_made h owned = refl

-- a section from 1 on is made of one that is kept, whose home lies in the file
pub record IsMadeFrom (o : Object) (removed : List ℕ) (tail s : ℕ) : Type 0 where
  pub number : ℕ
  pub from : 1 ≤ number
  pub below : number < length o.sections
  pub passed : raw_refusal o number ≡ None
  pub is : section_at (made_over o removed tail) s
      ≡ made_section (rebuilt_header o removed number) (rebuilt_items o removed number)

each_none : (f : ℕ → Option ElfError) (l : List ℕ) (i d : ℕ) → first_refusal (map f l) ≡ None
    → i < length l → f (get_or l i d) ≡ None
each_none f [] i d none h = absurd (omega arith)
each_none f (x ∷ l) zero d none h = none_first (f x) (map f l) none
each_none f (x ∷ l) (suc i) d none h =
    each_none f l i d (none_rest (f x) (map f l) none) (omega arith)

raw_passed : (o : Object) (removed : List ℕ) (s : ℕ) → kept_refusal o removed s ≡ None
    → raw_refusal o s ≡ None
unfolding kept_refusal
raw_passed o removed s passed =
    none_first (raw_refusal o s)
    ((if items_follow o removed s then data_refusal o s 0 else None) ∷ []) passed

made_of_number : (o : Object) (removed : List ℕ) (s : ℕ) → 1 ≤ s
    → rebuilt_section o removed s
    ≡ made_section (rebuilt_header o removed s) (rebuilt_items o removed s)
unfolding rebuilt_section
made_of_number o removed s from =
    ap (λ (b : Bool). if b then new_section
    else made_section (rebuilt_header o removed s) (rebuilt_items o removed s))
    (ne_eqb s 0 (λ none. omega (arith, from, none)))

made_at : (o : Object) (removed : List ℕ) (tail s : ℕ)
    → section_at (made_over o removed tail) s
    ≡ get_or (rebuilt_sections o removed) s absent_section
unfolding section_at assembled with_ehdr with_phdrs
made_at o removed tail s = refl

pub kept_at : (o : Object) (removed : List ℕ) (tail s : ℕ)
    → first_refusal (map (kept_refusal o removed) (kept_from_1 o removed)) ≡ None
    → is_among removed 0 ≡ false → 0 < s → s < length (rebuilt_sections o removed)
    → IsMadeFrom o removed tail s
unfolding rebuilt_sections
kept_at o removed tail s passed stays from below =
    let count = length-map (kept_sections o removed) (rebuilt_section o removed) in
    let few = kept_few o removed in
    let small : s < length (kept_sections o removed) = omega (arith, below, count) in
    let first = kept_first o removed stays (omega (arith, few, small)) in
    let long = ap length first in
    let inside : s - 1 < length (kept_from_1 o removed) = omega (arith, from, small, long) in
    let next : s ≡ suc (s - 1) = omega (arith, from) in
    let number = get_or (kept_from_1 o removed) (s - 1) 0 in
    let within = All-get_or (λ t. IsInRange 1 (length o.sections) t) (kept_from_1 o removed) (s - 1)
    0 inside (kept_in_range o removed) in
    let at : get_or (kept_sections o removed) s 0 ≡ get_or (kept_from_1 o removed) (s - 1) 0 =
    ap (λ (l : List ℕ). get_or l s 0) first
    ∙ ap (λ (i : ℕ). get_or (0 ∷ kept_from_1 o removed) i 0) next in
    record {
      number = number;
      from = within.0;
      below = within.1;
      passed = raw_passed o removed number
          (each_none (kept_refusal o removed) (kept_from_1 o removed) (s - 1) 0 passed inside);
      is = made_at o removed tail s
          ∙ get_or-map (rebuilt_section o removed) (kept_sections o removed) s 0 absent_section
          small
          ∙ ap (rebuilt_section o removed) at
          ∙ made_of_number o removed number within.0;
    }

-- ---- The bytes of one that is made

aligned_made : (class : Class) (order : Order) (h : Shdr) (owned : Items)
    → occupies_file h ≡ true
    → aligned_pieces class order (made_section h owned) ≡ (1, encoded class order owned) ∷ []
unfolding aligned_pieces piece_bytes made_section
aligned_made class order h owned filled =
    ap (λ (b : Bool). map (λ p. (
      p.align,
      elim (p.own) [
        | None ↦ []
        | Some l ↦ encoded class order l
      ],
    )) (if b then own_piece owned 1 ∷ [] else [])) filled

has_bytes_made : (s : ℕ) (h : Shdr) (owned : Items) → 0 < s → occupies_file h ≡ true
    → has_file_bytes s (made_section h owned) ≡ true
unfolding made_section
has_bytes_made s h owned from filled = file_bytes_when s (made_section h owned) from ∙ filled

pub made_bytes : (q : Object) (s : ℕ) (h : Shdr) (owned : Items)
    → section_at q s ≡ made_section h owned → 0 < s → occupies_file h ≡ true
    → file_bytes q s ≡ encoded q.header.class q.header.order owned
unfolding file_bytes pieces_end piece_blocks
made_bytes q s h owned is from filled =
    ap (λ (c : Section). if has_file_bytes s c
    then spread (section_end q.header.class q.header.order c) (λ _. q.fill)
    (stacked 0 (aligned_pieces q.header.class q.header.order c))
    else []) is
    ∙ ap (λ (b : Bool). if b
    then spread (section_end q.header.class q.header.order (made_section h owned)) (λ _. q.fill)
    (stacked 0 (aligned_pieces q.header.class q.header.order (made_section h owned)))
    else []) (has_bytes_made s h owned from filled)
    ∙ ap (λ (l : List (ℕ × List ℕ)). spread (last_end 0 (stacked 0 l)) (λ _. q.fill) (stacked 0 l))
    (aligned_made q.header.class q.header.order h owned filled)
    ∙ alone_spread 1 (encoded q.header.class q.header.order owned) q.fill

-- ---- What is allocated is taken as it is

allocated_loose : (o : Object) (s : ℕ) (l : Bool) → is_allocated (header_at o s) ≡ true
    → (l && not (is_allocated (header_at o s))) ≡ false
allocated_loose o s l allocated =
    and_right l (not (is_allocated (header_at o s)))
    (not_from_true (is_allocated (header_at o s)) allocated)

not_symbols : (o : Object) (s : ℕ) → is_allocated (header_at o s) ≡ true
    → symbols_follow o s ≡ false
unfolding symbols_follow is_loose
not_symbols o s allocated = allocated_loose o s _ allocated

not_members : (o : Object) (s : ℕ) → is_allocated (header_at o s) ≡ true
    → members_follow o s ≡ false
unfolding members_follow is_loose
not_members o s allocated = allocated_loose o s _ allocated

not_loose : (o : Object) (s : ℕ) → is_allocated (header_at o s) ≡ true
    → is_loose SHT_SYMTAB_SHNDX kinds.Word (header_at o s) ≡ false
unfolding is_loose
not_loose o s allocated = allocated_loose o s _ allocated

not_the : (o : Object) (removed : List ℕ) (table s : ℕ) → is_allocated (header_at o s) ≡ true
    → is_the s (extended_table o removed table) ≡ false
unfolding extended_table
not_the o removed table s allocated =
    by_found (first_of (λ t. has_indexes_of table (header_at o t)) (kept_from_1 o removed)) refl
  where
    by_found : (found : Option ℕ)
        → first_of (λ t. has_indexes_of table (header_at o t)) (kept_from_1 o removed) ≡ found
        → is_the s found ≡ false
    by_found None e = refl
    by_found (Some m) e =
        let passing =
        filter (λ t. has_indexes_of table (header_at o t)) (kept_from_1 o removed) in
        let test : has_indexes_of table (header_at o m) ≡ true =
        ap (λ (t : ℕ). has_indexes_of table (header_at o t))
        (sym (get_or_from_slice_get passing 0 m 0 e))
        ∙ filter_passes (λ t. has_indexes_of table (header_at o t)) (kept_from_1 o removed) 0 0
        (slice_get_within passing 0 m e) in
        let loose = and_parts (is_loose SHT_SYMTAB_SHNDX kinds.Word (header_at o m))
        ((header_at o m).link == table) test in
        ne_eqb s m (λ same.
        both_ways (is_loose SHT_SYMTAB_SHNDX kinds.Word (header_at o s))
        (not_loose o s allocated)
        (ap (λ (t : ℕ). is_loose SHT_SYMTAB_SHNDX kinds.Word (header_at o t)) same ∙ loose.0))

not_indexes : (o : Object) (removed : List ℕ) (s : ℕ) → is_allocated (header_at o s) ≡ true
    → indexes_follow o removed s ≡ false
unfolding indexes_follow
not_indexes o removed s allocated =
    and_right
    (is_among (kept_from_1 o removed) (header_at o s).link
    && symbols_follow o (header_at o s).link)
    (is_the s (extended_table o removed (header_at o s).link))
    (not_the o removed (header_at o s).link s allocated)

-- it does not have the names alone
not_alone : (o : Object) (removed : List ℕ) (s : ℕ) → is_allocated (header_at o s) ≡ true
    → has_names_alone o removed s ≡ false
unfolding has_names_alone
not_alone o removed s allocated =
    and_left _ _ (and_left _ _ (allocated_loose o s _ allocated))

not_renewed : (o : Object) (removed : List ℕ) (s : ℕ) → is_allocated (header_at o s) ≡ true
    → (renews_names o removed && s == o.header.shstrndx) ≡ false
unfolding renews_names
not_renewed o removed s allocated = elim (cases_eq s o.header.shstrndx) [
  | inl same ↦ and_left _ (s == o.header.shstrndx)
      (and_right (is_among (kept_from_1 o removed) o.header.shstrndx) _
      (not_alone o removed o.header.shstrndx
      (ap (λ (t : ℕ). is_allocated (header_at o t)) (sym same) ∙ allocated)))
  | inr other ↦ and_right _ (s == o.header.shstrndx) (ne_eqb s o.header.shstrndx other)
]

last_of : (a b c d : Bool) (v w x y z : Items) → a ≡ false → b ≡ false → c ≡ false → d ≡ false
    → (if a then v else (if b then w else (if c then x else (if d then y else z)))) ≡ z
last_of true b c d v w x y z e f g h = cc
last_of false true c d v w x y z e f g h = cc
last_of false false true d v w x y z e f g h = cc
last_of false false false true v w x y z e f g h = cc
last_of false false false false v w x y z e f g h = refl

pub allocated_items : (o : Object) (removed : List ℕ) (s : ℕ)
    → is_allocated (header_at o s) ≡ true
    → rebuilt_items o removed s ≡ items.Bytes (section_at o s).raw
unfolding rebuilt_items kept_items
allocated_items o removed s allocated =
    last_of (renews_names o removed && s == o.header.shstrndx) (symbols_follow o s)
    (members_follow o s) (indexes_follow o removed s) _ _ _ _ (items.Bytes (section_at o s).raw)
    (not_renewed o removed s allocated) (not_symbols o s allocated) (not_members o s allocated)
    (not_indexes o removed s allocated)

-- ---- Homes

-- a section as it was opened
opened_at : (f : Front) (image : List ℕ) (s : ℕ) → s < length f.shdrs
    → section_at (begun f image) s ≡ opened_section image (header_at (begun f image) s)
unfolding section_at begun opened_section
opened_at f image s below =
    let at = get_or-map (opened_section image) f.shdrs s zero_shdr absent_section below in
    at ∙ ap (λ (c : Section). opened_section image c.header) (sym at)

home_stands : (image : List ℕ) (h : Shdr) → (home_of (length image) h).out ≡ false
    → StandsAt image h.offset (home_bytes (home_of (length image) h) image)
unfolding home_bytes home_of
home_stands image h inside = by_out (home_of (length image) h).out inside
  where
    by_out : (b : Bool) → b ≡ false
        → StandsAt image h.offset (if b then [] else take (home_len h) (drop h.offset image))
    by_out true e = cc
    by_out false e =
        ap (λ (n : ℕ). take n (drop h.offset image))
        (length-take (home_len h) (drop h.offset image))
        ∙ take_min (home_len h) (drop h.offset image)

raw_inside : (o : Object) (s : ℕ) → raw_refusal o s ≡ None → (section_at o s).home.out ≡ false
unfolding raw_refusal
raw_inside o s passed =
    not_refused (section_at o s).home.out (OutOfFile s)
    (none_first (out_of_file o s) []
    (none_rest (no_section o s) (out_of_file o s ∷ []) passed))

-- the bytes of a home that lies in the file stand at its place
pub raw_stands : (f : Front) (image : List ℕ) (s : ℕ) → s < length f.shdrs
    → raw_refusal (begun f image) s ≡ None
    → StandsAt image (header_at (begun f image) s).offset (section_at (begun f image) s).raw
unfolding opened_section
raw_stands f image s below passed =
    let at = opened_at f image s below in
    let inside : (home_of (length image) (header_at (begun f image) s)).out ≡ false =
    sym (ap (λ (c : Section). c.home.out) at) ∙ raw_inside (begun f image) s passed in
    let raw : (section_at (begun f image) s).raw
    ≡ home_bytes (home_of (length image) (header_at (begun f image) s)) image =
    ap (λ (c : Section). c.raw) at in
    subst (λ (l : List ℕ). StandsAt image (header_at (begun f image) s).offset l) (sym raw)
    (home_stands image (header_at (begun f image) s) inside)

-- bytes are encoded as they are
pub bytes_encoded : (class : Class) (order : Order) (l : List ℕ) → AreBytes l
    → encoded class order (items.Bytes l) ≡ l
unfolding encoded
bytes_encoded class order l are = lowest_same l are
