-- The sections of what is written of an image that was changed, opened again: what stayed and what
-- was given items of its own.
use Rattle.std.proofs.Common.{◌≡◌, ◌<◌, ◌≤◌, ◌⊎◌, inl, inr, ℕ, Bool, true, false, not, List, [], ◌∷◌, length, get_or, set, Option, Some, None, Result, Ok, Err, refl, sym, ap, ◌∙◌, subst, arith}
use Rattle.std.specs.Prelude.{if◌then◌else◌}
use Rattle.std.proofs.lemmas.Bool.{cases_lt, lt-leb}
use Rattle.std.proofs.lemmas.List.{get_or-map, get_or_past, length-map}
use Rattle.elf_types.specs.Kinds.{section_kind}
use Rattle.elf_types.specs.Answers.{refused_if, err_of}
use Rattle.elf_types.specs.declared.errors.ElfError.{ElfError}
use Rattle.elf_types.specs.declared.errors.ElfError.TheVariants.{NoSection, NoData, WrongKind, OutOfFile, Ragged}
use Rattle.elf_types.specs.declared.constants.TheConstants.{SHT_STRTAB}
use Rattle.elf_types.specs.declared.records.Kind.{Kind}
use Rattle.elf_types.specs.declared.records.Shdr.{Shdr}
use Rattle.elf_xlate.specs.declared.content.Items.{Items}
use Rattle.elf_xlate.specs.Translation.{AreItems, decoded, items_kind}
use Rattle.elf_xlate.proofs.Narrow.{decoded_ranged}
use Rattle.elf_ident.specs.declared.fronts.Front.{Front}
use Rattle.elf_ident.specs.Front.{front, zero_shdr}
use Rattle.rebuild_model.specs.elf_object.Object.{Object, Section, Piece, absent_section, section_at, piece_at, occupies_file, home_piece, is_dirty}
use Rattle.rebuild_model.specs.elf_object.Open.{home_of, opened_section, begun, begun_or_refused, opened}
use Rattle.rebuild_model.specs.elf_object.Answers.{content, or_empty, items_at, kind_at, piece_count, no_section, no_data, wrong_kind, no_content, lend_refusal}
use Rattle.rebuild_model.specs.elf_object.Image.{image}
use Rattle.rebuild_model.specs.elf_object.Joined.{file_bytes}
use Rattle.rebuild_model.specs.elf_object.Layout.{places_of, placed_by}
use Rattle.rebuild_model.specs.elf_object.Refusal.{refusal}
use Rattle.rebuild_model.specs.elf_object.Settled.{settled_section, settle}
use Rattle.rebuild_model.specs.elf_object.Steps.{own_piece}
use Rattle.rebuild_model.specs.elf_object.Strings.{readable, string_answer}
use Rattle.rebuild_model.specs.elf_object.Valid.{IsObject, as_opened}
use Rattle.rebuild_model.proofs.elf_object.AnswerLaws.{items_kind_at}
use Rattle.rebuild_model.proofs.elf_object.SettledSections.{section_at-settled}
use Rattle.rebuild_model.proofs.elf_object.StepLaws.{same_kind-same}
use Rattle.law_rebuild.specs.law_object.Laws.{SettlingKeepsItems}
use Rattle.law_rebuild.proofs.law_object.AgainLaws.{stype-placed}
use Rattle.law_rebuild.proofs.law_object.KeepLaws.{section_at_is}
use Rattle.law_rebuild.proofs.law_object.StandLaws.{section_count-placed}
use Rattle.law_hash.proofs.ReorderedLaws.{four_none}
use Rattle.law_hash.proofs.ReorderedItems.{HasOwn, IsOwnOrSame}
use Rattle.law_hash.proofs.ReopenedSections.{IsHomeAlone, settled, home_items, again_count, again_clean, again_kind, again_link, clean_again, clean_content, string_again}

-- ---- As it is opened

-- a section as its header gives it
pub record IsOpened (c : Section) : Type 0 where
  pub clean : IsHomeAlone c
  pub kind : c.home.kind ≡ section_kind c.header

opened_is : (image : List ℕ) (h : Shdr) → IsOpened (opened_section image h)
unfolding opened_section home_of
opened_is image h = record { clean = refl; kind = refl }

begun_at : (f : Front) (image : List ℕ) (t : ℕ) → t < length (begun f image).sections
    → IsOpened (section_at (begun f image) t)
unfolding begun section_at
begun_at f image t inside =
    subst IsOpened
    (sym (get_or-map (opened_section image) f.shdrs t zero_shdr absent_section
    (omega (arith, inside, length-map f.shdrs (opened_section image)))))
    (opened_is image (get_or f.shdrs t zero_shdr))

pub opened_at : (image : List ℕ) (o : Object) → opened image ≡ Ok o → (t : ℕ) → t < length o.sections
    → IsOpened (section_at o t)
unfolding opened
opened_at image o is t inside = by (front image) is
  where
    by : (r : Result Front ElfError) → begun_or_refused r image ≡ Ok o → IsOpened (section_at o t)
    by (Ok f) made =
        let same : begun f image ≡ o = cc in
        subst (λ (p : Object). IsOpened (section_at p t)) same
        (begun_at f image t (subst (λ (p : Object). t < length p.sections) (sym same) inside))
    by (Err e) made = cc

-- items in the ranges of their types
content_ranged : (o : Object) (t : ℕ) → IsObject o → AreItems (or_empty (content o t))
unfolding content
content_ranged o t ok =
    by (section_at o t).home.out
    (decoded (section_at o t).home.kind o.header.class o.header.order (section_at o t).raw) refl
  where
    by : (out : Bool) (found : Option Items)
        → decoded (section_at o t).home.kind o.header.class o.header.order (section_at o t).raw
        ≡ found
        → AreItems (or_empty (if out then Err (OutOfFile t)
        else (elim found [ None ↦ Err (Ragged t) | Some items ↦ Ok items ])))
    by true found is = tt
    by false None is = tt
    by false (Some items) is =
        decoded_ranged (section_at o t).home.kind o.header.class o.header.order (section_at o t).raw
        items (section_at_is o t ok).home.bytes is

settled_type : (len : ℕ) (bytes : List ℕ) (h : Shdr)
    → (settled_section len bytes h).header.stype ≡ h.stype
unfolding settled_section
settled_type len bytes h = refl

-- the items of a section whose home stands alone are lent
pub lent_by : (o : Object) (kind : Kind) (t : ℕ) → t < length o.sections
    → IsHomeAlone (section_at o t) → kind_at o t 0 ≡ kind → no_content o t 0 ≡ None
    → lend_refusal o kind t 0 ≡ None
unfolding lend_refusal piece_count
lent_by o kind t there clean is content =
    let one : 0 < length (section_at o t).pieces =
    subst (λ (l : List Piece). 0 < length l) (sym clean) (omega arith) in
    four_none (no_section o t) (no_data o t 0) (wrong_kind o kind t 0) (no_content o t 0)
    (ap (λ (b : Bool). refused_if b (NoSection t (length o.sections)))
    (lt-leb (length o.sections) t there))
    (ap (λ (b : Bool). refused_if b (NoData 0 (length (section_at o t).pieces)))
    (lt-leb (length (section_at o t).pieces) 0 one))
    (ap (λ (b : Bool). refused_if (not b) (WrongKind (kind_at o t 0)))
    (same_kind-same (kind_at o t 0) kind is))
    content

-- ---- An object that is written

module _ (before o : Object) (ok_before : IsObject before) (ok : IsObject o)
    (dirty : is_dirty o ≡ true) (passed : refusal o ≡ None) (keeps : SettlingKeepsItems o)
    (count : length o.sections ≡ length before.sections)
    (was : (t : ℕ) → t < length before.sections → IsOpened (section_at before t)) where
  abbrev pub again : Object
  again = as_opened (settle o)

  pub type_again : (t : ℕ) → (section_at again t).header.stype ≡ (section_at o t).header.stype
  unfolding section_at
  type_again t = by (cases_lt t (length o.sections))
    where
      by : (t < length o.sections) ⊎ (length o.sections ≤ t)
          → (get_or again.sections t absent_section).header.stype
          ≡ (get_or o.sections t absent_section).header.stype
      by (inl below) =
          ap (λ (p : Object). (section_at p t).header.stype) (settled o ok dirty passed)
          ∙ ap (λ (c : Section). c.header.stype)
          (section_at-settled (image o) (placed_by (places_of o) o) t
          (omega (arith, below, section_count-placed (places_of o) o)))
          ∙ settled_type (length (image o)) (file_bytes (placed_by (places_of o) o) t)
          (section_at (placed_by (places_of o) o) t).header
          ∙ stype-placed (places_of o) o t
      by (inr past) =
          ap (λ (c : Section). c.header.stype)
          (get_or_past again.sections t absent_section
          (omega (arith, past, again_count o ok dirty passed))
          ∙ sym (get_or_past o.sections t absent_section past))

  module _ (t : ℕ) (positive : 0 < t) (inside : t < length before.sections)
      (occupies : occupies_file (section_at before t).header ≡ true) where
    within : t < length o.sections
    within = omega (arith, inside, count)

    pub kind_before : kind_at before t 0 ≡ section_kind (section_at before t).header
    unfolding kind_at piece_at
    kind_before =
        ap (λ (l : List Piece). elim ((get_or l 0 home_piece).own) [
          | None ↦ (section_at before t).home.kind
          | Some items ↦ items_kind items
        ]) (was t inside).clean
        ∙ (was t inside).kind

    -- as it was
    module _ (same : section_at o t ≡ section_at before t) where
      clean : IsHomeAlone (section_at o t)
      clean = ap (λ (c : Section). c.pieces) same ∙ (was t inside).clean

      kind : (section_at o t).home.kind ≡ section_kind (section_at o t).header
      kind =
          ap (λ (c : Section). c.home.kind) same ∙ (was t inside).kind
          ∙ ap (λ (c : Section). section_kind c.header) (sym same)

      there : occupies_file (section_at o t).header ≡ true
      there = ap (λ (c : Section). occupies_file c.header) same ∙ occupies

      same_items : items_at again t 0 ≡ items_at o t 0
      same_items = clean_again o ok dirty passed t positive within there clean kind

      same_content : content again t ≡ content o t
      same_content = clean_content o ok dirty passed t positive within there clean kind

      pub same_string : (section_at o t).header.stype ≡ SHT_STRTAB → (offset : ℕ)
          → readable (string_answer again t offset) ≡ readable (string_answer o t offset)
      same_string = string_again o ok dirty passed t positive within there clean kind

    -- or with items of its own
    module _ (owns : HasOwn before o t) where
      alone : (section_at o t).pieces
          ≡ own_piece owns.left (get_or (section_at before t).pieces 0 home_piece).align ∷ []
      alone =
          ap (λ (c : Section). c.pieces) owns.section
          ∙ ap (λ (l : List Piece). set l 0
          (own_piece owns.left (get_or (section_at before t).pieces 0 home_piece).align))
          (was t inside).clean

      header : (section_at o t).header ≡ (section_at before t).header
      header = ap (λ (c : Section). c.header) owns.section

      ranged : AreItems owns.left
      ranged =
          owns.items (subst AreItems (sym (home_items before t (was t inside).clean))
          (content_ranged before t ok_before))

      own_kind : items_kind owns.left ≡ section_kind (section_at o t).header
      own_kind =
          owns.kind ∙ items_kind_at before t 0 owns.content ∙ kind_before
          ∙ ap section_kind (sym header)

      kept : content (settle o) t ≡ Ok owns.left
      kept =
          keeps t (own_piece owns.left (get_or (section_at before t).pieces 0 home_piece).align)
          owns.left ok passed positive within alone refl ranged own_kind owns.some

      own_there : occupies_file (section_at o t).header ≡ true
      own_there = ap occupies_file header ∙ occupies

      own_content : content again t ≡ Ok owns.left
      unfolding content section_at
      own_content = kept

      own_items : items_at o t 0 ≡ owns.left
      unfolding items_at piece_at
      own_items =
          ap (λ (l : List Piece). elim ((get_or l 0 home_piece).own) [
            | None ↦ or_empty (content o t)
            | Some items ↦ items
          ]) alone

      owned_again : items_at again t 0 ≡ items_at o t 0
      owned_again =
          home_items again t (again_clean o ok dirty passed t positive within own_there)
          ∙ ap or_empty own_content ∙ sym own_items

      -- so they can be lent
      own_clean : IsHomeAlone (section_at again t)
      own_clean = again_clean o ok dirty passed t positive within own_there

      lent_kind : kind_at again t 0 ≡ items_kind owns.left
      unfolding kind_at piece_at
      lent_kind =
          ap (λ (l : List Piece). elim ((get_or l 0 home_piece).own) [
            | None ↦ (section_at again t).home.kind
            | Some items ↦ items_kind items
          ]) own_clean
          ∙ again_kind o ok dirty passed t positive within own_there
          ∙ sym own_kind

      lent_content : no_content again t 0 ≡ None
      unfolding no_content piece_at
      lent_content =
          ap (λ (l : List Piece). elim ((get_or l 0 home_piece).own) [
            | None ↦ err_of (content again t)
            | Some items ↦ None
          ]) own_clean
          ∙ ap err_of own_content

      pub own_again : items_at again t 0 ≡ owns.left
      own_again = owned_again ∙ own_items

      pub own_lent : lend_refusal again (items_kind owns.left) t 0 ≡ None
      own_lent =
          lent_by again (items_kind owns.left) t
          (omega (arith, within, again_count o ok dirty passed)) own_clean lent_kind lent_content

      pub own_link : (section_at again t).header.link ≡ (section_at before t).header.link
      own_link =
          again_link o ok dirty passed t positive within own_there
          ∙ ap (λ (h : Shdr). h.link) header

    pub stands_again : IsOwnOrSame before o t → items_at again t 0 ≡ items_at o t 0
    stands_again (inl same) = same_items same
    stands_again (inr owns) = owned_again owns

    pub stands_there : IsOwnOrSame before o t → occupies_file (section_at o t).header ≡ true
    stands_there (inl same) = there same
    stands_there (inr owns) = own_there owns

    pub stands_kind : IsOwnOrSame before o t
        → section_kind (section_at o t).header ≡ section_kind (section_at before t).header
    stands_kind (inl same) = ap (λ (c : Section). section_kind c.header) same
    stands_kind (inr owns) = ap section_kind (header owns)

    -- its content can be told where it could
    pub told : IsOwnOrSame before o t → no_content o t 0 ≡ None → err_of (content again t) ≡ None
    unfolding no_content piece_at
    told (inl same) none =
        ap err_of (same_content same)
        ∙ sym (ap (λ (l : List Piece). elim ((get_or l 0 home_piece).own) [
          | None ↦ err_of (content o t)
          | Some items ↦ None
        ]) (clean same))
        ∙ none
    told (inr owns) none = ap err_of (own_content owns)
