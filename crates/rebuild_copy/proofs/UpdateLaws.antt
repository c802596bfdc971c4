-- Sections that get other bytes, and other flags.
use Rattle.std.proofs.Common.{◌≡◌, ◌==◌, ◌&&◌, ◌<◌, ◌^◌, ℕ, Bool, true, false, not, List, [], ◌∷◌, length, Some, None, Result, Ok, Err, if◌then◌else◌, refl, sym, ap, ◌∙◌, subst, arith}
use Rattle.elf_types.specs.Answers.{refused_if, first_refusal}
use Rattle.elf_types.specs.declared.records.Ehdr.{Ehdr}
use Rattle.elf_types.specs.declared.records.Shdr.{Shdr}
use Rattle.elf_types.specs.declared.records.Class.{Class}
use Rattle.elf_types.specs.declared.errors.ElfError.TheVariants.{Unfit}
use Rattle.elf_types.specs.declared.records.Part.TheVariants as part
use Rattle.elf_xlate.specs.declared.content.Items.{Items}
use Rattle.elf_xlate.specs.declared.content.Items.TheVariants as items
use Rattle.elf_xlate.specs.Headers.{shdr_fits, IsShdr}
use Rattle.elf_xlate.specs.Translation.{encoded}
use Rattle.elf_layout.specs.Layout.{rounded_up}
use Rattle.elf_object.specs.Blocks.{block_end, stacked, last_end}
use Rattle.elf_object.specs.Object.{Object, header_of, section_at, occupies_file}
use Rattle.elf_object.specs.Calls as calls
use Rattle.elf_object.specs.Joined.{piece_blocks, pieces_end}
use Rattle.elf_object.specs.Steps.{own_piece}
use Rattle.law_object.proofs.KeepLaws.{section_at_is}
use Rattle.elf_object.specs.Sections.{is_program, is_allocated, header_at, edited}
use Rattle.rebuild_model.specs.Copied.{CopyFault as StatedFault, or_strip, update_fault, flags_fault, differ, with_bits}
use Rattle.rebuild_model.specs.Copied.CopyFault.{NoBytes, Allocated, Fixed}
use Rattle.rebuild_plan.specs.declared.arranged.Arranged.{Arranged}
use Rattle.rebuild_plan.specs.Reading.{ranges_due}
use Rattle.rebuild_changes.specs.declared.faults.CopyFault.{CopyFault}
use Rattle.rebuild_changes.specs.declared.faults.CopyFault.TheVariants as faults
use Rattle.rebuild_changes.specs.Stated.{IsFault}
use Rattle.rebuild_edits.specs.Edits.Steps.{IsPresentSection, IsFaultIf}
use Rattle.rebuild_edits.proofs.edits.UpdateLaws.{none_in_file, other_length, may_update}
use Rattle.rebuild_edits.proofs.edits.FlagLaws.{is_fixed, may_flag}
use Rattle.rebuild_copy.specs.Rows.{gathered_header, size_in, Origin, IsContents}
use Rattle.rebuild_copy.specs.Edits.{HasOtherBytes, HasOtherHeader}
use Rattle.rebuild_copy.specs.Steps.{ReadsNoMore, AltersAt, always_holds}
use Rattle.rebuild_copy.proofs.DueLaws.{due_set, due_same}
use Rattle.rebuild_copy.proofs.EditLaws.{pieces_one, bytes_turned, header_refusal, header_turned, header_not}
use Rattle.rebuild_copy.proofs.NameLaws.{one_aligned}

-- ---- What is seen of a section

one_block : (bytes : List ℕ) → last_end 0 (stacked 0 ((1, bytes) ∷ [])) ≡ length bytes
unfolding last_end stacked rounded_up block_end
one_block bytes = omega arith

module _ (o : Origin) (p : Object) (x : Arranged) (is : IsContents o p x) where
  pub program_is : not (x.listed.header.phnum == 0) ≡ is_program p
  unfolding header_of
  program_is = ap (λ (h : Ehdr). not (h.phnum == 0)) is.listed.header

  pub class_seen : x.listed.header.class ≡ p.header.class
  unfolding header_of
  class_seen = ap (λ (h : Ehdr). h.class) is.listed.header

  module _ (s : ℕ) (there : IsPresentSection p s) where
    pub header_seen : gathered_header x s ≡ header_at p s
    header_seen = (is.listed.rows s there.1).header

    one_end : (own : Items) → (section_at p s).pieces ≡ own_piece own 1 ∷ []
        → pieces_end p s ≡ length (encoded p.header.class p.header.order own)
    unfolding pieces_end piece_blocks
    one_end own pieces =
        ap (λ (l : List (ℕ × List ℕ)). last_end 0 (stacked 0 l))
        (one_aligned p.header.class p.header.order (section_at p s) own pieces)
        ∙ one_block (encoded p.header.class p.header.order own)

    pub size_seen : occupies_file (header_at p s) ≡ true → size_in x s ≡ pieces_end p s
    size_seen filled =
        let row = is.listed.rows s there.1 in
        row.size_is
        ∙ ap (λ (b : Bool). if b then length (encoded p.header.class p.header.order row.own)
        else 0) filled
        ∙ sym (one_end row.own (pieces_one o p x is.listed s there filled))

-- ---- Other bytes

module _ (x : Arranged) (s : ℕ) (name bytes : List ℕ) where
  pub no_bytes : (f : CopyFault) → occupies_file (gathered_header x s) ≡ false
      → IsFault (NoBytes name) f → (o : Origin) (p : Object) → IsContents o p x
      → IsPresentSection p s
      → IsFaultIf (update_fault p s name bytes) (Some f)
  no_bytes f empty came o p is there =
      none_in_file p s name bytes f
      (ap occupies_file (sym (header_seen o p x is s there)) ∙ empty) came

  filled_as : (b : Bool) → occupies_file (gathered_header x s) ≡ b → (o : Origin) (p : Object)
      → IsContents o p x → IsPresentSection p s → occupies_file (header_at p s) ≡ b
  filled_as b filled o p is there =
      ap occupies_file (sym (header_seen o p x is s there)) ∙ filled

  abbrev seen_test : Bool
  seen_test = not (x.listed.header.phnum == 0) && is_allocated (gathered_header x s)
      && not (length bytes == size_in x s)

  lengths_as : (b : Bool) → occupies_file (gathered_header x s) ≡ true → seen_test ≡ b
      → (o : Origin) (p : Object) → IsContents o p x → IsPresentSection p s
      → (is_program p && is_allocated (header_at p s) && not (length bytes == pieces_end p s)) ≡ b
  lengths_as b filled test o p is there =
      sym (ap (λ (c : Bool). c && is_allocated (gathered_header x s)
      && not (length bytes == size_in x s)) (program_is o p x is)
      ∙ ap (λ (h : Shdr). is_program p && is_allocated h && not (length bytes == size_in x s))
      (header_seen o p x is s there)
      ∙ ap (λ (n : ℕ). is_program p && is_allocated (header_at p s) && not (length bytes == n))
      (size_seen o p x is s there (filled_as true filled o p is there)))
      ∙ test

  pub other_long : (f : CopyFault) → occupies_file (gathered_header x s) ≡ true → seen_test ≡ true
      → IsFault (Allocated name) f → (o : Origin) (p : Object) → IsContents o p x
      → IsPresentSection p s
      → IsFaultIf (update_fault p s name bytes) (Some f)
  other_long f filled test came o p is there =
      other_length p s name bytes f (filled_as true filled o p is there)
      (lengths_as true filled test o p is there) came

  pub none_faulted : occupies_file (gathered_header x s) ≡ true → seen_test ≡ false → (o : Origin)
      (p : Object) → IsContents o p x → IsPresentSection p s
      → IsFaultIf (update_fault p s name bytes) None
  none_faulted filled test o p is there =
      may_update p s name bytes (filled_as true filled o p is there)
      (lengths_as false filled test o p is there)

-- where nothing is refused the section has bytes in the file
pub filled_known : (p : Object) (s : ℕ) (name bytes : List ℕ) → update_fault p s name bytes ≡ None
    → occupies_file (header_at p s) ≡ true
unfolding update_fault
filled_known p s name bytes passed = by_test (occupies_file (header_at p s)) passed
  where
    by_test : (b : Bool) → first_refusal (refused_if (not b) (NoBytes name)
        ∷ refused_if
        (is_program p && is_allocated (header_at p s) && not (length bytes == pieces_end p s))
        (Allocated name) ∷ []) ≡ None → b ≡ true
    by_test true h = refl
    by_test false h = cc

-- no more is read of the base
pub bytes_less : (s : ℕ) (bytes : List ℕ) (x y : Arranged) → HasOtherBytes s bytes x y
    → ReadsNoMore x y
bytes_less s bytes x y has =
    let same = ap ranges_due has.ranges in
    let less = due_set x.ranges s has.range has.holds.held in
    omega (arith, same, less)

pub bytes_alter : (s : ℕ) (bytes : List ℕ) (x y : Arranged) → HasOtherBytes s bytes x y
    → AltersAt {T = Unit {0}} s (λ p. occupies_file (header_at p s) ≡ true)
    (λ p. or_strip (edited (calls.replace s 0 (items.Bytes bytes)) p)) (Ok tt) x y
bytes_alter s bytes x y has = record {
  unread = tt;
  less = bytes_less s bytes x y has;
  turns = λ o p is there. bytes_turned o p x is s there.0 there.1 bytes y has;
}

-- ---- Other flags

module _ (x : Arranged) (s : ℕ) (name : List ℕ) (bits : ℕ) where
  abbrev loads_test : Bool
  loads_test = not (x.listed.header.phnum == 0)
      && differ (is_allocated (gathered_header x s)) (is_allocated (with_bits bits
      (gathered_header x s)))

  loads_as : (b : Bool) → loads_test ≡ b → (o : Origin) (p : Object) → IsContents o p x
      → IsPresentSection p s
      → (is_program p && differ (is_allocated (header_at p s))
      (is_allocated (with_bits bits (header_at p s)))) ≡ b
  loads_as b test o p is there =
      sym (ap (λ (c : Bool). c && differ (is_allocated (gathered_header x s))
      (is_allocated (with_bits bits (gathered_header x s)))) (program_is o p x is)
      ∙ ap (λ (h : Shdr). is_program p && differ (is_allocated h)
      (is_allocated (with_bits bits h))) (header_seen o p x is s there))
      ∙ test

  pub fixed_fault : (f : CopyFault) → loads_test ≡ true → IsFault (Fixed name) f → (o : Origin)
      (p : Object) → IsContents o p x → IsPresentSection p s
      → IsFaultIf (flags_fault p s name bits) (Some f)
  fixed_fault f test came o p is there =
      is_fixed p s name bits f (loads_as true test o p is there) came

  pub flags_allowed : loads_test ≡ false → (o : Origin) (p : Object) → IsContents o p x
      → IsPresentSection p s → IsFaultIf (flags_fault p s name bits) None
  flags_allowed test o p is there = may_flag p s name bits (loads_as false test o p is there)

flagged_shdr : (h : Shdr) (bits : ℕ) → IsShdr h → bits < 2 ^ 64 → IsShdr (with_bits bits h)
flagged_shdr h bits is small = record {
  name = is.name;
  stype = is.stype;
  flags = small;
  addr = is.addr;
  offset = is.offset;
  size = is.size;
  link = is.link;
  info = is.info;
  addralign = is.addralign;
  entsize = is.entsize;
}

module _ (s bits : ℕ) (x : Arranged) where
  abbrev flags_stored : Object → Result Object StatedFault
  flags_stored p = or_strip (edited (calls.update_shdr s (with_bits bits (header_at p s))) p)

  pub flags_alter : (y : Arranged) → bits < 2 ^ 64
      → shdr_fits x.listed.header.class (with_bits bits (gathered_header x s)) ≡ true
      → HasOtherHeader s (with_bits bits (gathered_header x s)) x y
      → AltersAt {T = Unit {0}} s always_holds flags_stored (Ok tt) x y
  flags_alter y small fits has = record {
    unread = tt;
    less = due_same y.ranges x.ranges (ap (λ (z : Arranged). z.ranges) has);
    turns = λ o p is there.
        let same = header_seen o p x is s there.0 in
        let h = with_bits bits (header_at p s) in
        let fit : shdr_fits p.header.class h ≡ true =
        sym (ap (λ (c : Class). shdr_fits c (with_bits bits (gathered_header x s)))
        (class_seen o p x is)
        ∙ ap (λ (k : Shdr). shdr_fits p.header.class (with_bits bits k)) same)
        ∙ fits in
        header_turned o p x is s there.0 h refl
        (header_refusal p s there.0 h
        ∙ ap (λ (b : Bool). refused_if (not b) (Unfit (part.Section s) 0)) fit)
        (flagged_shdr (header_at p s) bits (section_at_is p s is.listed.object).header small) y
        (subst (λ (k : Shdr). HasOtherHeader s (with_bits bits k) x y) same has);
  }

  pub flags_unfit : (y : Arranged)
      → shdr_fits x.listed.header.class (with_bits bits (gathered_header x s)) ≡ false
      → AltersAt {T = Unit {0}} s always_holds flags_stored
      (Err (faults.Strip (Unfit (part.Section s) 0))) x y
  flags_unfit y fits = record {
    unread = tt;
    less = tt;
    turns = λ o p is there.
        header_not o p s (with_bits bits (header_at p s)) y there.0
        (sym (ap (λ (c : Class). shdr_fits c (with_bits bits (gathered_header x s)))
        (class_seen o p x is)
        ∙ ap (λ (k : Shdr). shdr_fits p.header.class (with_bits bits k))
        (header_seen o p x is s there.0))
        ∙ fits);
  }
