-- The object that a plan was stated of, and what has to be known of it besides, so that the object
-- that is made is that one (elf_newscn and elf_newdata of elf(3E)).
use Rattle.std.specs.Prelude.{◌≡◌, ℕ, ◌<◌, true, false, List, length, None}
use Rattle.elf_types.specs.declared.records.Class.{Class}
use Rattle.elf_types.specs.declared.records.Kind.{Kind}
use Rattle.elf_types.specs.declared.records.Ehdr.{Ehdr}
use Rattle.elf_types.specs.declared.constants.TheConstants.{EV_CURRENT}
use Rattle.elf_xlate.specs.declared.content.Items.{Items}
use Rattle.elf_xlate.specs.Translation.{AreItems, items_kind, first_unfit}
use Rattle.elf_object.specs.Object.{Object, Section, section_at, new_section}
use Rattle.elf_object.specs.Open.{no_front}
use Rattle.rebuild_model.specs.Rebuilt.{made_section}
use Rattle.rebuild_plan.specs.declared.arranged.Arranged.{Arranged}
use Rattle.rebuild_plan.specs.Plans.{IsRangedBy}
use Rattle.rebuild_object.specs.Objects.{kind_at, object_from_arranged}

-- a section as elf_newscn and elf_newdata make it, with items of a kind that fit a class
pub record IsMadeWith (class : Class) (kind : Kind) (c : Section) : Type 0 where
  pub own : Items
  pub section : c ≡ made_section c.header own
  pub kind_is : items_kind own ≡ kind
  pub are : AreItems own
  pub fits : first_unfit class own ≡ None

-- a header that elf_begin made for writing, of which the stored fields alone were set
pub record IsNewHeader (h : Ehdr) : Type 0 where
  pub version : h.version ≡ EV_CURRENT
  pub ehsize : h.ehsize ≡ 0
  pub phentsize : h.phentsize ≡ 0
  pub shentsize : h.shentsize ≡ 0

-- the object was created and filled: nothing of it was written, its header and its program headers
-- are marked, and its sections were made, each with items of a kind
pub record IsCreatedWith (o : Object) (ks : List Kind) (q : Object) : Type 0 where
  pub class : q.header.class ≡ o.header.class
  pub order : q.header.order ≡ o.header.order
  pub header : IsNewHeader q.header
  pub front : q.written_front ≡ no_front
  pub marked : q.marked ≡ false
  pub header_marked : q.header_marked ≡ true
  pub segments_marked : q.segments_marked ≡ true
  pub first : 0 < length q.sections → section_at q 0 ≡ new_section
  pub others : (s : ℕ) → 0 < s → s < length q.sections
      → IsMadeWith q.header.class (kind_at ks s) (section_at q s)

-- then what is made of the plan is that object
abbrev pub PlansMakeObjects : Type 0
PlansMakeObjects =
    (o q : Object) (x : Arranged) → IsRangedBy o.phdrs o.base q x → IsCreatedWith o x.kinds q
    → object_from_arranged o x ≡ q
