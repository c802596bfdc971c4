-- Where the table of the names is made anew: each name that no option changes is in it, also where
-- new names are given.
use Rattle.std.proofs.Common.{◌≡◌, ℕ, zero, suc, ◌+◌, ◌-◌, ◌^◌, ◌<◌, ◌≤◌, Bool, true, false, not, ◌&&◌, List, [], ◌∷◌, ◌++◌, length, drop, get_or, set, Option, Some, None, Result, Ok, Err, refl, sym, ap, ◌∙◌, subst, arith}
use Rattle.std.specs.Prelude.{All, Contains, if◌then◌else◌, ◌==◌, ◌||◌, map}
use Rattle.std.specs.List.{list_any}
use Rattle.std.proofs.lemmas.Bool.{and_parts, eq-eqb, eqb-true}
use Rattle.std.proofs.lemmas.List.{length-map, length-set, length-drop, get_or-map, get_or-drop, get_or-set_other}
use Rattle.std.proofs.lemmas.List.Elements.{All-nil, All-cons, All-head, All-tail, All-map, All-set, All-drop, Contains-get_or}
use Rattle.std.proofs.lemmas.List.FromFn.{length-map-range_with_len, get_or-map-range_with_len}
use Rattle.law_object.proofs.elf_ident.Refusals.{bind_ok}
use Rattle.elf_types.specs.Lists.{AreBytes}
use Rattle.elf_types.specs.declared.records.Shdr.{Shdr}
use Rattle.elf_types.specs.declared.constants.TheConstants.{SHT_STRTAB}
use Rattle.law_object.specs.elf_xlate.declared.content.Items.{Items}
use Rattle.law_object.specs.elf_xlate.declared.content.Items.TheVariants as items
use Rattle.strtab_build.specs.Table.{table, place_of}
use Rattle.law_object.specs.elf_object.Blocks.{stacked}
use Rattle.law_object.specs.elf_object.Joined.{piece_blocks}
use Rattle.law_object.specs.elf_object.Object.{Object, Section, section_at, occupies_file}
use Rattle.law_object.specs.elf_object.Layout.{section_numbers}
use Rattle.law_object.specs.elf_object.Steps.{own_piece}
use Rattle.law_object.specs.elf_object.Strings.{section_name, or_empty_name}
use Rattle.law_object.proofs.RangeLaws.{each_made}
use Rattle.law_object.specs.elf_object.Sections.{is_allocated, header_at, is_among, in_turn}
use Rattle.rebuild_model.specs.Removed.{linking_to}
use Rattle.rebuild_model.specs.Followed.{kept_from_1}
use Rattle.rebuild_model.specs.Rebuilt.{renews_names, has_names_alone, kept_names, kept_items, made_section, rebuilt_items, rebuilt_header, rebuilt_name, rebuilt_object}
use Rattle.rebuild_model.specs.Copied.{CopyFault, names_in, section_named, with_name, named, with_names}
use Rattle.rebuild_model.specs.KeepingLaws.{or_nowhere, chosen_for_names}
use Rattle.law_rebuild.proofs.copy.NoneRemoved.{all_from_1}
use Rattle.law_rebuild.proofs.copy.EachChange.{SamePieces}
use Rattle.law_rebuild.proofs.copy.NamesAndPlaces.{named_known, names_header, names_place, names_table}
use Rattle.law_rebuild.proofs.copy.AllChanges.{among_parts, not_the_one}
use Rattle.law_rebuild.proofs.copy.KeptSections.{made_of_section, header_made, filled_pieces}
use Rattle.law_rebuild.proofs.copy.SectionStrings.{own_strings}
use Rattle.law_rebuild.proofs.copy.TableNames.{HasNoNul, named_there, table_is_bytes, name_bytes}

-- ---- A name in the table of an object that is made

-- the section t has one piece, the table of these names, and the name of section s is one of them
pub record IsNamedIn (o : Object) (t s : ℕ) (name : List ℕ) : Type 0 where
  pub names : List (List ℕ)
  pub stype : (header_at o t).stype ≡ SHT_STRTAB
  pub pieces : (section_at o t).pieces ≡ own_piece (items.Bytes (table names)) 1 ∷ []
  pub place : (header_at o s).name ≡ place_of name names
  pub there : Contains names name
  pub bytes : AreBytes (table names)

pub named_stays : (a b : Object) (t s : ℕ) (name : List ℕ) → IsNamedIn a t s name
    → SamePieces a b t → (header_at b s).name ≡ (header_at a s).name → IsNamedIn b t s name
named_stays a b t s name is same place = record {
  names = is.names;
  stype = same.stype ∙ is.stype;
  pieces = same.pieces ∙ is.pieces;
  place = place ∙ is.place;
  there = is.there;
  bytes = is.bytes;
}

-- its section has that name
pub name_is : (o : Object) (s : ℕ) (name : List ℕ) → IsNamedIn o o.header.shstrndx s name
    → (o.header.shstrndx == 0) ≡ false → o.header.shstrndx < length o.sections → HasNoNul name
    → section_name o s ≡ Some name
name_is o s name is some below whole =
    named_there o s is.names name
    (own_strings o o.header.shstrndx (table is.names) below is.pieces is.stype is.bytes)
    some is.place is.there whole

-- ---- What is made anew

-- the section of the names, where its table is made anew
pub record IsNameTable (o : Object) (t : ℕ) : Type 0 where
  pub from : 1 ≤ t
  pub below : t < length o.sections
  pub index : t ≡ o.header.shstrndx
  pub renewed : renews_names o [] ≡ true
  pub stype : (header_at o t).stype ≡ SHT_STRTAB

-- what is renewed has type SHT_STRTAB
pub renewed_type : (o : Object) (removed : List ℕ) → renews_names o removed ≡ true
    → (header_at o o.header.shstrndx).stype ≡ SHT_STRTAB
unfolding renews_names has_names_alone
renewed_type o removed e =
    let index = o.header.shstrndx in
    let typed = (header_at o index).stype == SHT_STRTAB in
    let loose = not (is_allocated (header_at o index)) in
    let filed = not ((section_at o index).home.out) in
    let alone = not (list_any (is_among (kept_from_1 o removed)) (linking_to o index)) in
    let all = and_parts (is_among (kept_from_1 o removed) index)
    (typed && loose && filed && alone) e in
    let three = and_parts (typed && loose && filed) alone all.1 in
    let two = and_parts (typed && loose) filed three.0 in
    let one = and_parts typed loose two.0 in
    eqb-true (header_at o o.header.shstrndx).stype SHT_STRTAB one.0

-- the names of an object that was opened are bytes
all_names : (o : Object) (bytes : List ℕ)
    → piece_blocks o o.header.shstrndx ≡ stacked 0 ((1, bytes) ∷ []) → AreBytes bytes
    → All (λ name. AreBytes name) (kept_names o [])
unfolding kept_names
all_names o bytes blocks are =
    each_made (λ (name : List ℕ). AreBytes name) (λ s. or_empty_name (section_name o s))
    (kept_from_1 o []) (λ s. name_bytes o s bytes blocks are)

-- each of them is there
among_names : (o : Object) (s : ℕ) → 1 ≤ s → s < length o.sections
    → Contains (kept_names o []) (or_empty_name (section_name o s))
unfolding kept_names
among_names o zero from below = absurd (omega (arith, from))
among_names o (suc j) from below =
    let name : ℕ → List ℕ = λ s. or_empty_name (section_name o s) in
    let listed : List (List ℕ) = map name (section_numbers o) in
    let long = length-map-range_with_len name 1 (length o.sections - 1) in
    let here : get_or listed j [] ≡ name (suc j) =
    get_or-map-range_with_len name 1 (length o.sections - 1) j (suc j) [] (omega (arith, below))
    (omega arith) in
    let in_listed : Contains listed (get_or listed j []) =
    Contains-get_or listed j [] (omega (arith, below, long)) in
    subst (λ (l : List ℕ). Contains (map name l) (name (suc j))) (sym (all_from_1 o))
    (subst (λ (x : List ℕ). Contains listed x) here in_listed)

pub strings_fill : (h : Shdr) → h.stype ≡ SHT_STRTAB → occupies_file h ≡ true
strings_fill h is = ap (λ (t : ℕ). not (t == 0 || t == 8)) is

-- the table that is made anew
new_table : (o : Object) (t : ℕ) → IsNameTable o t
    → (section_at (rebuilt_object o []) t).pieces
    ≡ own_piece (items.Bytes (table (kept_names o []))) 1 ∷ []
unfolding rebuilt_items
new_table o t is =
    let stype : (rebuilt_header o [] t).stype ≡ SHT_STRTAB =
    ap (λ (h : Shdr). h.stype) (header_made o t) ∙ is.stype in
    ap (λ (c : Section). c.pieces) (made_of_section o t is.from is.below)
    ∙ filled_pieces (rebuilt_header o [] t) (rebuilt_items o [] t)
    (strings_fill (rebuilt_header o [] t) stype)
    ∙ ap (λ (b : Bool). own_piece (if b && t == o.header.shstrndx
    then items.Bytes (table (kept_names o [])) else kept_items o [] t) 1 ∷ []) is.renewed
    ∙ ap (λ (b : Bool). own_piece (if b
    then items.Bytes (table (kept_names o [])) else kept_items o [] t) 1 ∷ [])
    (eq-eqb t o.header.shstrndx is.index)

new_type : (o : Object) (t : ℕ) → IsNameTable o t
    → (header_at (rebuilt_object o []) t).stype ≡ SHT_STRTAB
unfolding made_section
new_type o t is =
    ap (λ (c : Section). c.header.stype) (made_of_section o t is.from is.below)
    ∙ ap (λ (h : Shdr). h.stype) (header_made o t)
    ∙ is.stype

new_place : (o : Object) (s : ℕ) → renews_names o [] ≡ true → 1 ≤ s → s < length o.sections
    → (header_at (rebuilt_object o []) s).name
    ≡ place_of (or_empty_name (section_name o s)) (kept_names o [])
unfolding made_section rebuilt_header rebuilt_name
new_place o s renewed from below =
    ap (λ (c : Section). c.header.name) (made_of_section o s from below)
    ∙ ap (λ (b : Bool). if b
    then place_of (or_empty_name (section_name o s)) (kept_names o [])
    else (header_at o s).name) renewed

pub made_named : (o : Object) (t s : ℕ) (bytes : List ℕ) → IsNameTable o t
    → piece_blocks o o.header.shstrndx ≡ stacked 0 ((1, bytes) ∷ []) → AreBytes bytes
    → 1 ≤ s → s < length o.sections
    → IsNamedIn (rebuilt_object o []) t s (or_empty_name (section_name o s))
made_named o t s bytes is blocks are from below = record {
  names = kept_names o [];
  stype = new_type o t is;
  pieces = new_table o t is;
  place = new_place o s is.renewed from below;
  there = among_names o s from below;
  bytes = table_is_bytes (kept_names o []) (all_names o bytes blocks are);
}

-- ---- New names

-- the names that are given are bytes
abbrev pub AreByteNames : List (Option (List ℕ)) → Type 0
AreByteNames names = All (λ name. AreBytes (or_empty_name name)) names

-- a section is given a name
renamed_known : (names : List (Option (List ℕ))) (change : List ℕ × List ℕ)
    (new : List (Option (List ℕ))) → with_name names change ≡ Ok new
    → (n : ℕ) × (section_named names change.0 ≡ Ok n) × (set names n (Some change.1) ≡ new)
unfolding with_name
renamed_known names change new e =
    let found = bind_ok (section_named names change.0) (λ n. Ok (set names n (Some change.1))) new e
    in
    let same : set names found.0 (Some change.1) ≡ new = let both = found.2 in cc in
    (found.0, found.1, same)

-- a section that none of the changes chooses keeps its name, and there are as many names
pub record NameIsKept (old new : List (Option (List ℕ))) (s : ℕ) : Type 0 where
  pub count : length new ≡ length old
  pub name : get_or new s None ≡ get_or old s None

pub names_kept : (names : List (Option (List ℕ))) (l : List (List ℕ × List ℕ))
    (new : List (Option (List ℕ))) (s : ℕ) → in_turn with_name names l ≡ Ok new
    → is_among (chosen_for_names names l) s ≡ false → NameIsKept names new s
unfolding in_turn chosen_for_names
names_kept names [] new s e none =
    let same : names ≡ new = cc in
    subst (λ (m : List (Option (List ℕ))). NameIsKept names m s) same
    (record { count = refl; name = refl })
names_kept names (x ∷ l) new s e none =
    let next = bind_ok (with_name names x) (λ b. in_turn with_name b l) new e in
    let k = renamed_known names x next.0 next.1 in
    let stated : or_nowhere (section_named names x.0)
    ++ elim (with_name names x) [ Ok later ↦ chosen_for_names later l | Err fault ↦ [] ]
    ≡ (k.0 ∷ []) ++ chosen_for_names next.0 l =
    ap (λ (r : Result ℕ CopyFault).
    or_nowhere r
    ++ elim (with_name names x) [ Ok later ↦ chosen_for_names later l | Err fault ↦ [] ]) k.1
    ∙ ap (λ (r : Result (List (Option (List ℕ))) CopyFault).
    (k.0 ∷ []) ++ elim r [ Ok later ↦ chosen_for_names later l | Err fault ↦ [] ]) next.1 in
    let parts = among_parts (k.0 ∷ []) (chosen_for_names next.0 l) s
    (sym (ap (λ (m : List ℕ). is_among m s) stated) ∙ none) in
    let rest = names_kept next.0 l new s next.2 parts.1 in
    record {
      count = rest.count
          ∙ sym (ap (λ (m : List (Option (List ℕ))). length m) k.2)
          ∙ length-set names k.0 (Some x.1);
      name = rest.name
          ∙ sym (ap (λ (m : List (Option (List ℕ))). get_or m s None) k.2)
          ∙ get_or-set_other names k.0 s (Some x.1) None (not_the_one s k.0 parts.0);
    }

pub renamed_bytes : (names : List (Option (List ℕ))) (l : List (List ℕ × List ℕ))
    (new : List (Option (List ℕ))) → in_turn with_name names l ≡ Ok new
    → All (λ change. AreBytes change.1) l → AreByteNames names → AreByteNames new
unfolding in_turn
renamed_bytes names [] new e each are =
    let same : names ≡ new = cc in subst (λ (m : List (Option (List ℕ))). AreByteNames m) same are
renamed_bytes names (x ∷ l) new e each are =
    let next = bind_ok (with_name names x) (λ b. in_turn with_name b l) new e in
    let k = renamed_known names x next.0 next.1 in
    renamed_bytes next.0 l new next.2 (All-tail (λ (c : List ℕ × List ℕ). AreBytes c.1) x l each)
    (subst (λ (m : List (Option (List ℕ))). AreByteNames m) k.2
    (All-set (λ (name : Option (List ℕ)). AreBytes (or_empty_name name)) names k.0 (Some x.1)
    (All-head (λ (c : List ℕ × List ℕ). AreBytes c.1) x l each) are))

-- the names of an object
pub listed_name_at : (o : Object) (s : ℕ) → 1 ≤ s → s < length o.sections
    → get_or (names_in o) s None ≡ section_name o s
unfolding names_in
listed_name_at o zero from below = absurd (omega (arith, from))
listed_name_at o (suc j) from below =
    get_or-map-range_with_len (section_name o) 1 (length o.sections - 1) j (suc j) None
    (omega (arith, below)) (omega arith)

pub listed_count : (o : Object) → 0 < length o.sections → length (names_in o) ≡ length o.sections
unfolding names_in
listed_count o some =
    omega (arith, some, length-map-range_with_len (section_name o) 1 (length o.sections - 1))

pub names_are : (o : Object) (bytes : List ℕ)
    → piece_blocks o o.header.shstrndx ≡ stacked 0 ((1, bytes) ∷ []) → AreBytes bytes
    → AreByteNames (names_in o)
unfolding names_in
names_are o bytes blocks are =
    All-cons (λ (name : Option (List ℕ)). AreBytes (or_empty_name name)) None
    (map (section_name o) (section_numbers o)) (All-nil (λ n. n < 2 ^ 8))
    (each_made (λ (name : Option (List ℕ)). AreBytes (or_empty_name name)) (section_name o)
    (section_numbers o) (λ s. name_bytes o s bytes blocks are))

-- the texts of names from section 1 on
abbrev pub texts_of : List (Option (List ℕ)) → List (List ℕ)
texts_of names = map or_empty_name (drop 1 names)

pub text_at : (names : List (Option (List ℕ))) (s : ℕ) → 1 ≤ s → s < length names
    → (get_or ([] ∷ texts_of names) s [] ≡ or_empty_name (get_or names s None))
    × Contains (texts_of names) (or_empty_name (get_or names s None))
text_at names zero from below = absurd (omega (arith, from))
text_at names (suc j) from below =
    let size = length-drop 1 names in
    let inside : j < length (drop 1 names) = omega (arith, below, size) in
    let one : 1 + j ≡ suc j = omega arith in
    let here : get_or (texts_of names) j [] ≡ or_empty_name (get_or names (suc j) None) =
    get_or-map or_empty_name (drop 1 names) j None [] inside
    ∙ ap or_empty_name (get_or-drop 1 names j None)
    ∙ ap (λ (k : ℕ). or_empty_name (get_or names k None)) one in
    let long = length-map (drop 1 names) or_empty_name in
    let in_texts : Contains (texts_of names) (get_or (texts_of names) j []) =
    Contains-get_or (texts_of names) j [] (omega (arith, inside, long)) in
    (here, subst (λ (x : List ℕ). Contains (texts_of names) x) here in_texts)

texts_are : (names : List (Option (List ℕ))) → AreByteNames names
    → All (λ name. AreBytes name) (texts_of names)
texts_are names are =
    All-map (λ (name : List ℕ). AreBytes name) or_empty_name (drop 1 names)
    (All-drop (λ (name : Option (List ℕ)). AreBytes (or_empty_name name)) 1 names are)

-- ---- The last step

-- the table is written anew with the name among its names
written_named : (o : Object) (t s : ℕ) (names : List (Option (List ℕ))) (name : List ℕ)
    (own : Items) → t ≡ o.header.shstrndx → t < length o.sections → s < length o.sections
    → (s == 0) ≡ false
    → (header_at o t).stype ≡ SHT_STRTAB → (section_at o t).pieces ≡ own_piece own 1 ∷ []
    → get_or ([] ∷ texts_of names) s [] ≡ name → Contains (texts_of names) name
    → AreByteNames names → IsNamedIn (with_names o (texts_of names)) t s name
written_named o t s names name own index t_below below from stype pieces here there are =
    let texts = texts_of names in
    let header = names_header o (texts_of names) t t_below in
    record {
      names = texts_of names;
      stype = ap (λ (h : Shdr). h.stype) header ∙ stype;
      pieces = subst (λ (i : ℕ). (section_at (with_names o (texts_of names)) i).pieces
          ≡ own_piece (items.Bytes (table (texts_of names))) 1 ∷ []) (sym index)
          (names_table o (texts_of names) own
          (subst (λ (i : ℕ). i < length o.sections) index t_below)
          (subst (λ (i : ℕ). (section_at o i).pieces ≡ own_piece own 1 ∷ []) index pieces));
      place = names_place o (texts_of names) s below from
          ∙ ap (λ (x : List ℕ). place_of x (texts_of names)) here;
      there = there;
      bytes = table_is_bytes (texts_of names) (texts_are names are);
    }

-- whether new names are given or not
pub last_named : (b renewed : Bool) (o p : Object) (t s : ℕ) (names : List (Option (List ℕ)))
    (name : List ℕ) → (if b then named renewed o names else Ok o) ≡ Ok p
    → t ≡ o.header.shstrndx → t < length o.sections → s < length o.sections → (s == 0) ≡ false
    → IsNamedIn o t s name
    → get_or ([] ∷ texts_of names) s [] ≡ name → Contains (texts_of names) name
    → AreByteNames names → IsNamedIn p t s name
last_named true renewed o p t s names name e index t_below below from is here there are =
    subst (λ (q : Object). IsNamedIn q t s name) (sym (named_known renewed o names p e).1)
    (written_named o t s names name (items.Bytes (table is.names)) index t_below below from
    is.stype is.pieces here there are)
last_named false renewed o p t s names name e index t_below below from is here there are =
    let same : o ≡ p = cc in subst (λ (q : Object). IsNamedIn q t s name) same is
