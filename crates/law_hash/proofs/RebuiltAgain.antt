-- In the image that rehash writes, opened again, the hash sections hold what is built for the
-- symbols to which they link.
use Rattle.std.proofs.Common.{◌≡◌, ◌≢◌, ◌<◌, ◌==◌, ◌||◌, ℕ, Bool, true, false, List, length, Some, None, Result, Ok, refl, sym, ap, ◌∙◌, subst}
use Rattle.std.specs.Prelude.{if◌then◌else◌}
use Rattle.elf_types.specs.Kinds.{is_compressed, kind_of_type, section_kind}
use Rattle.elf_types.specs.declared.constants.TheConstants.{SHT_NULL, SHT_NOBITS, SHT_HASH, SHT_GNU_HASH}
use Rattle.elf_types.specs.declared.errors.ElfError.{ElfError}
use Rattle.elf_types.specs.declared.records.Kind.{Kind}
use Rattle.elf_types.specs.declared.records.Kind.TheVariants as kinds
use Rattle.elf_types.specs.declared.records.Shdr.{Shdr}
use Rattle.elf_xlate.specs.declared.content.Items.{Items}
use Rattle.elf_xlate.specs.declared.content.Items.TheVariants as items
use Rattle.elf_xlate.specs.Translation.{AreItems, items_kind}
use Rattle.rebuild_model.specs.elf_object.Object.{Object}
use Rattle.rebuild_model.specs.elf_object.Answers.{bytes_of, words_of, items_at, same_kind, no_content}
use Rattle.rebuild_model.specs.elf_object.Sections.{header_at}
use Rattle.rebuild_model.specs.elf_object.Settled.{settle}
use Rattle.rebuild_model.specs.elf_object.Valid.{as_opened}
use Rattle.rebuild_model.proofs.elf_object.AnswerLaws.{items_kind_at}
use Rattle.law_rebuild.specs.law_object.Laws.{ReopenLaw, SettlingKeepsItems}
use Rattle.rebuild_model.specs.hash_model.Listed.{listed_names}
use Rattle.rebuild_model.specs.hash_model.BuiltHashes.{gnu_built, build_sysv_answer, build_gnu_answer}
use Rattle.rebuild_model.specs.Rehashed.{gnu_section, sysv_section}
use Rattle.law_hash.specs.Rehash.{HasStringsApart, HoldsRebuiltGnu, HoldsRebuiltSysv, RebuiltStand, RehashRebuilds}
use Rattle.law_hash.proofs.CountLaws.{few_names}
use Rattle.law_hash.proofs.NumberRanges.{gnu_are, sysv_are}
use Rattle.law_hash.proofs.BuiltHold.{gnu_stated, sysv_stated}
use Rattle.law_hash.proofs.RehashedLaws.{gnu_type, sysv_type}
use Rattle.law_hash.proofs.ReorderedItems.{HasOwn}
use Rattle.law_hash.proofs.RebuiltLaws.{SameTable, gnu_same, sysv_same, RebuiltGnu, RebuiltSysv, rehash_rebuilds}
use Rattle.law_hash.proofs.WrittenSections.{kind_before, own_again, own_lent, own_link}
use Rattle.law_hash.proofs.RehashAgain.{occupies_by, table_kept, IsWrittenOf, written_of}

-- ---- Kinds

-- GNU's hash section holds bytes, compressed or not
gnu_kind : (h : Shdr) → h.stype ≡ SHT_GNU_HASH → section_kind h ≡ kinds.Bytes
unfolding section_kind kind_of_type
gnu_kind h is =
    let kind : ℕ → Bool → Kind = λ stype compressed.
    if stype == SHT_NULL || stype == SHT_NOBITS then kinds.Empty
    else (if compressed then kinds.Bytes else kind_of_type stype h.entsize) in
    ap (λ (n : ℕ). kind n (is_compressed h.flags)) is ∙ either (is_compressed h.flags)
  where
    either : (b : Bool)
        → (if b then kinds.Bytes else kind_of_type SHT_GNU_HASH h.entsize) ≡ kinds.Bytes
    either true = refl
    either false = refl

-- two kinds that pass for the same
words_kind : (k : Kind) → same_kind k kinds.Word ≡ true → k ≡ kinds.Word
words_kind kinds.Empty is = cc
words_kind kinds.Bytes is = cc
words_kind kinds.Half is = cc
words_kind kinds.Word is = refl
words_kind kinds.Addr is = cc
words_kind kinds.Sym is = cc
words_kind kinds.Rel is = cc
words_kind kinds.Rela is = cc
words_kind kinds.Dyn is = cc

bytes_are_some : kinds.Bytes ≢ kinds.Empty
bytes_are_some is = cc

words_are_some : kinds.Word ≢ kinds.Empty
words_are_some is = cc

-- ---- In what is written

module _ (before after edited : Object) (s : ℕ) (w : IsWrittenOf before after edited s)
    (later : 0 < s) (keeps : SettlingKeepsItems edited) (apart : HasStringsApart before s) where
  abbrev written : Object
  written = as_opened (settle edited)

  same : SameTable edited written s
  same =
      table_kept before edited s w.ok_before w.ok w.table later w.done w.passed keeps w.was apart

  count : length edited.sections ≡ length before.sections
  count = w.done.way.strings.count

  -- a section of items of its own in place of others of the kind that its type has
  module _ (t stype : ℕ) (left : Items) (from_1 : 0 < t)
      (there : t < length before.sections) (is : (header_at before t).stype ≡ stype)
      (full : (stype == SHT_NULL || stype == SHT_NOBITS) ≡ false)
      (content : no_content before t 0 ≡ None)
      (kind : items_kind left ≡ section_kind (header_at before t)) where
    its_kind : items_kind left ≡ items_kind (items_at before t 0)
    its_kind =
        kind
        ∙ sym (kind_before before edited w.ok_before w.ok w.done.dirty w.passed keeps count w.was t
        from_1 there (occupies_by (header_at before t) stype is full))
        ∙ sym (items_kind_at before t 0 content)

  module _ (g : ℕ) (found : gnu_section before s ≡ Some g)
      (made : RebuiltGnu before edited s g) where
    type : ((header_at before g).stype ≡ SHT_GNU_HASH) × (g < length before.sections)
        × ((header_at before g).link ≡ s)
    type = gnu_type before g s found

    abbrev owns : HasOwn before edited g
    owns = record {
      left = items.Bytes made.bytes;
      section = made.section;
      kind = its_kind g SHT_GNU_HASH (items.Bytes made.bytes) made.later type.1 type.0 refl
          made.content (sym (gnu_kind (header_at before g) type.0));
      some = bytes_are_some;
      items = λ are. subst (λ (l : List ℕ). AreItems (items.Bytes l))
          (sym (gnu_stated edited s made.shape made.bytes made.built))
          (gnu_are edited.header.class edited.header.order
          (gnu_built edited.header.class made.shape (listed_names edited s)));
      content = made.content;
    }

    link : (header_at written g).link ≡ s
    link =
        own_link before edited w.ok_before w.ok w.done.dirty w.passed keeps count w.was g made.later
        type.1 (occupies_by (header_at before g) SHT_GNU_HASH type.0 refl) owns
        ∙ type.2

    bytes_again : items_at written g 0 ≡ items.Bytes made.bytes
    bytes_again =
        own_again before edited w.ok_before w.ok w.done.dirty w.passed keeps count w.was g
        made.later type.1 (occupies_by (header_at before g) SHT_GNU_HASH type.0 refl) owns

    pub gnu_holds : (0 < g) × ((header_at written g).link ≡ s) × HoldsRebuiltGnu written g
    gnu_holds = (
      made.later,
      link,
      record {
        shape = made.shape;
        holds = record {
          usable = made.usable;
          readable = own_lent before edited w.ok_before w.ok w.done.dirty w.passed keeps count w.was g
              made.later type.1 (occupies_by (header_at before g) SHT_GNU_HASH type.0 refl) owns;
          built = ap (λ (t : ℕ). build_gnu_answer written t made.shape) link
              ∙ gnu_same edited written s same made.shape
              ∙ made.built
              ∙ ap {B = Result (List ℕ) ElfError} (λ (l : Items). Ok (bytes_of l)) (sym bytes_again);
        };
      },
    )

  module _ (h : ℕ) (found : sysv_section before s ≡ Some h)
      (made : RebuiltSysv before edited s h) where
    words_type : ((header_at before h).stype ≡ SHT_HASH) × (h < length before.sections)
        × ((header_at before h).link ≡ s)
        × (same_kind (section_kind (header_at before h)) kinds.Word ≡ true)
    words_type = sysv_type before h s found

    abbrev words_owned : HasOwn before edited h
    words_owned = record {
      left = items.Word made.words;
      section = made.section;
      kind = its_kind h SHT_HASH (items.Word made.words) made.later words_type.1 words_type.0 refl
          made.content (sym (words_kind (section_kind (header_at before h)) words_type.3));
      some = words_are_some;
      items = λ are.
          let stated = sysv_stated edited s made.nbucket made.words made.built in
          subst (λ (l : List ℕ). AreItems (items.Word l)) (sym stated.1)
          (sysv_are made.nbucket (listed_names edited s) made.few
          (few_names edited s stated.0));
      content = made.content;
    }

    words_link : (header_at written h).link ≡ s
    words_link =
        own_link before edited w.ok_before w.ok w.done.dirty w.passed keeps count w.was h made.later
        words_type.1 (occupies_by (header_at before h) SHT_HASH words_type.0 refl) words_owned
        ∙ words_type.2

    words_again : items_at written h 0 ≡ items.Word made.words
    words_again =
        own_again before edited w.ok_before w.ok w.done.dirty w.passed keeps count w.was h
        made.later words_type.1 (occupies_by (header_at before h) SHT_HASH words_type.0 refl)
        words_owned

    pub sysv_holds : (0 < h) × ((header_at written h).link ≡ s) × HoldsRebuiltSysv written h
    sysv_holds = (
      made.later,
      words_link,
      record {
        nbucket = made.nbucket;
        holds = record {
          some = made.some;
          few = made.few;
          readable = own_lent before edited w.ok_before w.ok w.done.dirty w.passed keeps count w.was h
              made.later words_type.1 (occupies_by (header_at before h) SHT_HASH words_type.0 refl)
              words_owned;
          built = ap (λ (t : ℕ). build_sysv_answer written t made.nbucket) words_link
              ∙ sysv_same edited written s same made.nbucket
              ∙ made.built
              ∙ ap {B = Result (List ℕ) ElfError} (λ (l : Items). Ok (words_of l)) (sym words_again);
        };
      },
    )

-- ---- The law

pub rehash_rebuilt : ((o : Object) → ReopenLaw o) → ((o : Object) → SettlingKeepsItems o)
    → RehashRebuilds
rehash_rebuilt reopens keeps before after s is later apart =
    let w = written_of reopens before after s is in
    let made = rehash_rebuilds before is.edited s is.table is.is_edited in
    subst (λ (p : Object). RebuiltStand before p s) w.is (record {
      gnu = λ g found. gnu_holds before after is.edited s w later (keeps is.edited) apart g found
          (made.gnu g found);
      sysv = λ h found. sysv_holds before after is.edited s w later (keeps is.edited) apart h
          found (made.sysv h found);
    })
