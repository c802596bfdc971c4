-- The sections that a new order of the symbols changes: each has items of its own, of the kind that
-- it had and in the ranges of their types.
use Rattle.std.proofs.Common.{◌≡◌, ◌≢◌, ◌≤◌, ◌^◌, ◌⊎◌, inl, inr, ℕ, ◌==◌, false, List, [], ◌∷◌, length, All, Option, Some, None, refl, sym, ◌∙◌, subst}
use Rattle.std.specs.Prelude.{slice_get}
use Rattle.std.proofs.lemmas.List.Elements.{All-nil, All-cons, All-append, All-get_or, All-map, All-weaker}
use Rattle.std.proofs.lemmas.Option.{slice_get_within, get_or_from_slice_get}
use Rattle.elf_types.specs.declared.constants.TheConstants.{SHT_REL, SHT_RELA, SHT_DYNSYM, SHT_GROUP}
use Rattle.elf_types.specs.declared.records.Kind.{Kind}
use Rattle.elf_types.specs.declared.records.Kind.TheVariants as kinds
use Rattle.elf_types.specs.declared.records.Rel.{Rel}
use Rattle.elf_types.specs.declared.records.Rela.{Rela}
use Rattle.elf_xlate.specs.declared.content.Items.{Items}
use Rattle.elf_xlate.specs.declared.content.Items.TheVariants as items
use Rattle.elf_xlate.specs.Items.{IsSym, IsRel, IsRela}
use Rattle.elf_xlate.specs.Translation.{AreItems, items_kind}
use Rattle.rebuild_model.specs.elf_object.Object.{Object, section_at}
use Rattle.rebuild_model.specs.elf_object.Answers.{items_at, syms_of, no_content}
use Rattle.rebuild_model.proofs.elf_object.AnswerLaws.{lend_kind, lend_passed}
use Rattle.rebuild_model.specs.elf_object.Sections.{header_at}
use Rattle.rebuild_model.specs.hash_model.Reordered.{in_order, with_rel, with_rela, kind_by_symbols, items_by_symbols, reordered, reorder_refusal}
use Rattle.law_rebuild.proofs.strip.OrderLaws.{new_index_small}
use Rattle.law_hash.proofs.ReorderedLaws.{owned, symbols_lent, item_lent, reordered_table, reordered_section_is}

-- ---- A section with items of its own

-- in place of those that it had
pub record HasOwn (before o : Object) (n : ℕ) : Type 0 where
  pub left : Items
  pub section : section_at o n ≡ owned (section_at before n) left
  pub kind : items_kind left ≡ items_kind (items_at before n 0)
  pub some : items_kind left ≢ kinds.Empty
  pub items : AreItems (items_at before n 0) → AreItems left
  pub content : no_content before n 0 ≡ None

-- or as it was
abbrev pub IsOwnOrSame : Object → Object → ℕ → Type 0
IsOwnOrSame before o n = (section_at o n ≡ section_at before n) ⊎ HasOwn before o n

pub still_own_or_same : (before o p : Object) (n : ℕ) → section_at p n ≡ section_at o n
    → IsOwnOrSame before o n → IsOwnOrSame before p n
still_own_or_same before o p n same (inl is) = inl (same ∙ is)
still_own_or_same before o p n same (inr owns) = inr (record {
  left = owns.left;
  section = same ∙ owns.section;
  kind = owns.kind;
  some = owns.some;
  items = owns.items;
  content = owns.content;
})

-- ---- Items in another order

in_order_all : {X : Type 0} (P : X → Type 0) (l : List X) (order : List ℕ) → All P l
    → All P (in_order order l)
unfolding in_order
in_order_all P l [] all = All-nil P
in_order_all {X} P l (i ∷ order) all =
    All-append P (elim (slice_get l i) [ None ↦ [] | Some x ↦ x ∷ [] ]) (in_order order l)
    (by (slice_get l i) refl) (in_order_all P l order all)
  where
    by : (x : Option X) → slice_get l i ≡ x → All P (elim x [ None ↦ [] | Some y ↦ y ∷ [] ])
    by None is = All-nil P
    by (Some x) is =
        All-cons P x []
        (subst P (get_or_from_slice_get l i x x is)
        (All-get_or P l i x (slice_get_within l i x is) all))
        (All-nil P)

syms_all : (left : Items) → AreItems left → All IsSym (syms_of left)
syms_all items.Empty are = All-nil IsSym
syms_all (items.Bytes l) are = All-nil IsSym
syms_all (items.Half l) are = All-nil IsSym
syms_all (items.Word l) are = All-nil IsSym
syms_all (items.Addr l) are = All-nil IsSym
syms_all (items.Sym l) are = are
syms_all (items.Rel l) are = All-nil IsSym
syms_all (items.Rela l) are = All-nil IsSym
syms_all (items.Dyn l) are = All-nil IsSym

kind_kept : (order : List ℕ) (left : Items)
    → items_kind (items_by_symbols order left) ≡ items_kind left
kind_kept order items.Empty = refl
kind_kept order (items.Bytes l) = refl
kind_kept order (items.Half l) = refl
kind_kept order (items.Word l) = refl
kind_kept order (items.Addr l) = refl
kind_kept order (items.Sym l) = refl
kind_kept order (items.Rel l) = refl
kind_kept order (items.Rela l) = refl
kind_kept order (items.Dyn l) = refl

module _ (order : List ℕ) (few : length order ≤ 2 ^ 32) where
  rel_is : (r : Rel) → IsRel r → IsRel (with_rel order r)
  rel_is r is = record {
    offset = is.offset;
    sym = new_index_small order r.sym few is.sym;
    rtype = is.rtype;
  }

  rela_is : (r : Rela) → IsRela r → IsRela (with_rela order r)
  rela_is r is = record {
    offset = is.offset;
    sym = new_index_small order r.sym few is.sym;
    rtype = is.rtype;
    addend = is.addend;
  }

  rels_are : (left : Items) → items_kind left ≡ kinds.Rel → AreItems left
      → AreItems (items_by_symbols order left)
  rels_are items.Empty is are = cc
  rels_are (items.Bytes l) is are = cc
  rels_are (items.Half l) is are = cc
  rels_are (items.Word l) is are = cc
  rels_are (items.Addr l) is are = cc
  rels_are (items.Sym l) is are = cc
  rels_are (items.Rel l) is are =
      All-map IsRel (with_rel order) l
      (All-weaker IsRel (λ r. IsRel (with_rel order r)) rel_is l are)
  rels_are (items.Rela l) is are = cc
  rels_are (items.Dyn l) is are = cc

  relas_are : (left : Items) → items_kind left ≡ kinds.Rela → AreItems left
      → AreItems (items_by_symbols order left)
  relas_are items.Empty is are = cc
  relas_are (items.Bytes l) is are = cc
  relas_are (items.Half l) is are = cc
  relas_are (items.Word l) is are = cc
  relas_are (items.Addr l) is are = cc
  relas_are (items.Sym l) is are = cc
  relas_are (items.Rel l) is are = cc
  relas_are (items.Rela l) is are =
      All-map IsRela (with_rela order) l
      (All-weaker IsRela (λ r. IsRela (with_rela order r)) rela_is l are)
  relas_are (items.Dyn l) is are = cc

  -- ---- In what is made

  module _ (o : Object) (s : ℕ) (is_table : (header_at o s).stype ≡ SHT_DYNSYM)
      (passed : reorder_refusal o s ≡ None) where
    pub table_owns : HasOwn o (reordered o s order) s
    table_owns =
        let lent = symbols_lent o s order is_table passed in
        record {
          left = items.Sym (in_order order (syms_of (items_at o s 0)));
          section = reordered_table o s order is_table passed;
          kind = sym (lend_kind o kinds.Sym s 0 lent);
          some = λ is. cc;
          items = λ are. in_order_all IsSym (syms_of (items_at o s 0)) order
              (syms_all (items_at o s 0) are);
          content = (lend_passed o kinds.Sym s 0 lent).3;
        }

    -- a section of relocations of a kind
    owns_by : (n stype : ℕ) (kind : Kind) → (header_at o n).stype ≡ stype
        → (header_at o n).link ≡ s → (stype == 0) ≡ false → (stype == SHT_GROUP) ≡ false
        → (stype == SHT_DYNSYM) ≡ false → kind_by_symbols stype ≡ Some kind
        → kind ≢ kinds.Empty
        → ((left : Items) → items_kind left ≡ kind → AreItems left
        → AreItems (items_by_symbols order left)) → HasOwn o (reordered o s order) n
    owns_by n stype kind is link some no_group no_table goes full ranged =
        let lent = item_lent o s order is_table passed n stype kind is link some no_group no_table
        goes in
        record {
          left = items_by_symbols order (items_at o n 0);
          section = reordered_section_is o s order is_table passed n stype kind is link some
              no_group no_table goes;
          kind = kind_kept order (items_at o n 0);
          some = λ is.
              full (sym (kind_kept order (items_at o n 0) ∙ lend_kind o kind n 0 lent) ∙ is);
          items = ranged (items_at o n 0) (lend_kind o kind n 0 lent);
          content = (lend_passed o kind n 0 lent).3;
        }

    pub rels_own : (n : ℕ) → (header_at o n).stype ≡ SHT_REL → (header_at o n).link ≡ s
        → HasOwn o (reordered o s order) n
    rels_own n is link = owns_by n SHT_REL kinds.Rel is link refl refl refl refl (λ is. cc) rels_are

    pub relas_own : (n : ℕ) → (header_at o n).stype ≡ SHT_RELA → (header_at o n).link ≡ s
        → HasOwn o (reordered o s order) n
    relas_own n is link =
        owns_by n SHT_RELA kinds.Rela is link refl refl refl refl (λ is. cc) relas_are
