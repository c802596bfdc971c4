-- Sections that get other flags: no name changes by that.
use Rattle.std.proofs.Common.{◌≡◌, ◌==◌, ◌&&◌, ◌-◌, ◌^◌, ◌+◌, ◌<◌, ◌≤◌, ℕ, Bool, true, false, not, List, [], ◌∷◌, length, map, get_or, Option, Some, None, is_none, Result, Ok, Err, refl, sym, ap, ◌∙◌, subst, inl, inr, arith}
use Rattle.std.specs.Prelude.{IsTrue, filter, min, nat_le, slice_get, if◌then◌else◌}
use Rattle.std.specs.List.{range_with_len}
use Rattle.std.proofs.lemmas.Bool.{cases_eq, cases_lt}
use Rattle.std.proofs.lemmas.List.{get_or_past}
use Rattle.elf_types.specs.declared.records.Class.{Class}
use Rattle.elf_types.specs.declared.records.Order.{Order}
use Rattle.elf_types.specs.declared.records.Ehdr.{Ehdr}
use Rattle.elf_types.specs.declared.errors.ElfError.{ElfError}
use Rattle.elf_types.specs.declared.errors.ElfError.TheVariants.{NoSection, NotStrings, OutOfFile, NoString, Unended}
use Rattle.elf_types.specs.Answers.{refused_if, first_refusal, answered}
use Rattle.strtab_build.specs.Table.{string_at}
use Rattle.law_rebuild.specs.elf_object.Blocks.{Block, block_covers, stacked}
use Rattle.law_rebuild.specs.elf_object.Object.{Object, Section, section_at, absent_section, home_is_clean}
use Rattle.law_rebuild.specs.elf_object.Joined.{aligned_pieces, piece_blocks, pieces_end, section_end}
use Rattle.law_rebuild.specs.elf_object.Steps.{with_section, with_shdr}
use Rattle.law_rebuild.specs.elf_object.Strings.{holds_strings, has_nul, bytes_from, readable, string_answer, string_refusal, string_refusal_unread, piece_over, section_name}
use Rattle.law_rebuild.proofs.elf_object.StepLaws.{section_count-with_section, section_at-with_shdr, section_at-with_shdr_other}
use Rattle.rebuild_making.specs.elf_descriptor.State.{State}
use Rattle.law_rebuild.specs.elf_object.Sections.{is_allocated, is_program, header_at, in_turn}
use Rattle.rebuild_changes.specs.rebuild_model.Copied.{differ, with_bits, flags_fault, with_section_flags}
use Rattle.rebuild_changes.specs.rebuild_model.Copied.CopyFault.{Fixed}
use Rattle.law_rebuild.proofs.copy.EachChange.{flagged_known}
use Rattle.rebuild_changes.specs.declared.changes.NameBytes.{NameBytes}
use Rattle.rebuild_changes.specs.declared.changes.NameBits.{NameBits}
use Rattle.rebuild_changes.specs.declared.faults.CopyFault.{CopyFault}
use Rattle.rebuild_changes.specs.Stated.{bits_pair, IsFault}
use Rattle.rebuild_edits.specs.Edits.Names.{mark_of, new_name, name_over, name_now, names_now}
use Rattle.rebuild_edits.specs.Edits.Steps.{IsFaultIf, IsAltered, Alters}
use Rattle.rebuild_edits.proofs.edits.StepLaws.{told_on}
use Rattle.rebuild_edits.proofs.edits.TurnLaws.{Turned, turned_none, turned_more, turned_stop, turned_all}
use Rattle.rebuild_edits.proofs.edits.RenameLaws.{map_same}

-- ---- Why flags stay

module _ (o : Object) (s : ℕ) (name : List ℕ) (bits : ℕ) where
  abbrev pub loads_otherwise : Bool
  loads_otherwise = is_program o
      && differ (is_allocated (header_at o s)) (is_allocated (with_bits bits (header_at o s)))

  pub is_fixed : (f : CopyFault) → loads_otherwise ≡ true → IsFault (Fixed name) f
      → IsFaultIf (flags_fault o s name bits) (Some f)
  is_fixed f is came =
      subst (λ (b : Bool). IsFaultIf (refused_if b (Fixed name)) (Some f)) (sym is) came

  pub may_flag : loads_otherwise ≡ false → IsFaultIf (flags_fault o s name bits) None
  may_flag is = subst (λ (b : Bool). IsFaultIf (refused_if b (Fixed name)) None) (sym is) tt

-- ---- The strings of a section, whatever its flags are

abbrev pub over_in : Class → Order → Section → ℕ → Option Block
over_in class order c offset =
    slice_get (filter (λ b. block_covers b offset) (stacked 0 (aligned_pieces class order c))) 0

-- of an object with so many sections
abbrev pub string_in_section : ℕ → Class → Order → ℕ → ℕ → Section → Result (List ℕ) ElfError
string_in_section count class order k offset c =
    answered
    (first_refusal
    (first_refusal
    (refused_if (nat_le count k) (NoSection k count)
    ∷ refused_if (not (holds_strings c)) (NotStrings k)
    ∷ refused_if (home_is_clean c && c.home.out) (OutOfFile k)
    ∷ refused_if (is_none (over_in class order c offset))
    (NoString offset (min (section_end class order c) (2 ^ 64 - 1)))
    ∷ [])
    ∷ elim (over_in class order c offset) [
      | None ↦ None
      | Some b ↦ refused_if (not (has_nul (bytes_from b offset))) (Unended offset)
    ]
    ∷ []))
    (elim (over_in class order c offset) [
      | None ↦ []
      | Some b ↦ string_at b.bytes (offset - b.at)
    ])

pub string_as : (o : Object) (k offset : ℕ)
    → string_answer o k offset
    ≡ string_in_section (length o.sections) o.header.class o.header.order k offset (section_at o k)
unfolding string_answer string_refusal string_refusal_unread piece_over pieces_end piece_blocks
string_as o k offset = refl

-- sections of the same name that hold the same strings
record HoldAlike (c d : Section) : Type 0 where
  name : c.header.name ≡ d.header.name
  strings : (count : ℕ) (class : Class) (order : Order) (k offset : ℕ)
      → string_in_section count class order k offset c
      ≡ string_in_section count class order k offset d

alike_same : (c d : Section) → c ≡ d → HoldAlike c d
alike_same c d same = record {
  name = ap (λ (x : Section). x.header.name) same;
  strings = λ count class order k offset.
      ap (λ (x : Section). string_in_section count class order k offset x) same;
}

alike_flags : (c : Section) (bits : ℕ) (marked : Bool)
    → HoldAlike (record c { header = with_bits bits c.header; marked = marked }) c
unfolding holds_strings home_is_clean aligned_pieces
alike_flags c bits marked =
    record { name = refl; strings = λ count class order k offset. refl }

-- ---- An object with other flags

module _ (o : Object) (n bits : ℕ) where
  abbrev flagged : Object
  flagged = with_shdr o n (with_bits bits (header_at o n))

  flagged_header : flagged.header ≡ o.header
  unfolding with_shdr with_section
  flagged_header = refl

  flagged_count : length flagged.sections ≡ length o.sections
  unfolding with_shdr
  flagged_count = section_count-with_section o n _

  past_end : (t : ℕ) → length o.sections ≤ t → section_at flagged t ≡ section_at o t
  unfolding section_at
  past_end t past =
      get_or_past flagged.sections t absent_section
      (let count = flagged_count in omega (arith, count, past))
      ∙ sym (get_or_past o.sections t absent_section past)

  alike_at : (t : ℕ) → HoldAlike (section_at flagged t) (section_at o t)
  alike_at t = elim (cases_eq t n) [
    | inl same ↦ elim (cases_lt n (length o.sections)) [
      | inl below ↦
          let at = section_at-with_shdr o n (with_bits bits (header_at o n)) below in
          subst (λ (k : ℕ). HoldAlike (section_at flagged k) (section_at o k)) (sym same)
          (subst (λ (c : Section). HoldAlike c (section_at o n)) (sym at)
          (alike_flags (section_at o n) bits true))
      | inr past ↦
          alike_same (section_at flagged t) (section_at o t)
          (past_end t (omega (arith, past, same)))
    ]
    | inr other ↦
        alike_same (section_at flagged t) (section_at o t)
        (section_at-with_shdr_other o n t (with_bits bits (header_at o n)) other)
  ]

  string_same : (k offset : ℕ) → string_answer flagged k offset ≡ string_answer o k offset
  string_same k offset =
      string_as flagged k offset
      ∙ ap (λ (count : ℕ). string_in_section count flagged.header.class flagged.header.order k
      offset (section_at flagged k)) flagged_count
      ∙ ap (λ (h : Ehdr). string_in_section (length o.sections) h.class h.order k offset
      (section_at flagged k)) flagged_header
      ∙ (alike_at k).strings (length o.sections) o.header.class o.header.order k offset
      ∙ sym (string_as o k offset)

  name_same : (t : ℕ) → section_name flagged t ≡ section_name o t
  unfolding section_name
  name_same t =
      ap (λ (h : Ehdr). if h.shstrndx == 0 then None
      else readable (string_answer flagged h.shstrndx (section_at flagged t).header.name))
      flagged_header
      ∙ ap (λ (at : ℕ). if o.header.shstrndx == 0 then None
      else readable (string_answer flagged o.header.shstrndx at)) (alike_at t).name
      ∙ ap (λ (r : Result (List ℕ) ElfError). if o.header.shstrndx == 0 then None
      else readable r) (string_same o.header.shstrndx (section_at o t).header.name)

  pub names_same : (marks : List ℕ) (renames : List NameBytes)
      → names_now flagged marks renames ≡ names_now o marks renames
  unfolding names_now name_now
  names_same marks renames =
      ap (λ (count : ℕ).
      None ∷ map (name_now flagged marks renames) (range_with_len 1 (count - 1))) flagged_count
      ∙ ap (λ (l : List (Option (List ℕ))). None ∷ l)
      (map_same (name_now o marks renames) (name_now flagged marks renames) 1
      (length o.sections - 1) (λ t low. ap (λ (name : Option (List ℕ)).
      name_over (new_name renames (mark_of marks t)) name) (name_same t)))

-- ---- One after another

-- after so many changes
pub record Flagged {S : Type 0} (marks : List ℕ) (renames : List NameBytes)
    (changes : List NameBits) (i : ℕ) (old now : State S) : Type 0 where
  pub turned : Turned bits_pair (with_section_flags (names_now old.o marks renames)) changes i old
      now
  pub names : IsTrue old.told → names_now now.o marks renames ≡ names_now old.o marks renames

module _ {S : Type 0} (marks : List ℕ) (renames : List NameBytes) (changes : List NameBits) where
  pub flagged_none : (s : State S) → Flagged marks renames changes 0 s s
  flagged_none s = record {
    turned = turned_none bits_pair (with_section_flags (names_now s.o marks renames)) changes s;
    names = λ t. refl;
  }

  module _ (i : ℕ) (old now : State S)
      (so_far : Flagged marks renames changes i old now) where
    -- a step by the names as they are is one by the names as they were
    step_before : (x : NameBits) (r : Result (Unit {0}) CopyFault) (next : State S)
        → Alters (with_section_flags (names_now now.o marks renames) now.o (bits_pair x)) r now
        next
        → Alters (with_section_flags (names_now old.o marks renames) now.o (bits_pair x)) r now
        next
    step_before x r next step = record {
      told = step.told;
      keeps = step.keeps;
      unread = step.unread;
      altered = λ t.
          subst (λ (l : List (Option (List ℕ))).
          IsAltered r (with_section_flags l now.o (bits_pair x)) next.o)
          (so_far.names (told_on now old (sym so_far.turned.told) t)) (step.altered t);
    }

    names_after : (x : NameBits) (next : State S)
        → with_section_flags (names_now now.o marks renames) now.o (bits_pair x) ≡ Ok next.o
        → names_now next.o marks renames ≡ names_now now.o marks renames
    names_after x next is =
        let known = flagged_known (names_now now.o marks renames) now.o (bits_pair x) next.o is in
        ap (λ (o : Object). names_now o marks renames) known.is
        ∙ names_same now.o known.number x.bits marks renames

    pub flagged_more : (x : NameBits) (next : State S) → i < length changes
        → x ≡ get_or changes i x
        → Alters {T = Unit {0}}
        (with_section_flags (names_now now.o marks renames) now.o (bits_pair x)) (Ok tt) now next
        → Flagged marks renames changes (i + 1) old next
    flagged_more x next below is step = record {
      turned = turned_more bits_pair (with_section_flags (names_now old.o marks renames)) changes
          i old now so_far.turned x next below is (step_before x (Ok tt) next step);
      names = λ t.
          names_after x next (step.altered (told_on old now so_far.turned.told t))
          ∙ so_far.names t;
    }

    pub flagged_stop : (x : NameBits) (f : CopyFault) (next : State S) → i < length changes
        → x ≡ get_or changes i x
        → Alters {T = Unit {0}}
        (with_section_flags (names_now now.o marks renames) now.o (bits_pair x)) (Err f) now next
        → Alters {T = Unit {0}}
        (in_turn (with_section_flags (names_now old.o marks renames)) old.o
        (map bits_pair changes)) (Err f) old next
    flagged_stop x f next below is step =
        turned_stop bits_pair (with_section_flags (names_now old.o marks renames)) changes i old
        now so_far.turned x f next below is (step_before x (Err f) next step)

    pub flagged_all : length changes ≤ i
        → Alters {T = Unit {0}}
        (in_turn (with_section_flags (names_now old.o marks renames)) old.o
        (map bits_pair changes)) (Ok tt) old now
    flagged_all all =
        turned_all bits_pair (with_section_flags (names_now old.o marks renames)) changes i old
        now so_far.turned all
