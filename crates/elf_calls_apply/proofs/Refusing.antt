-- Stated refusals, of which none is want of memory or a failed read.
use Rattle.std.proofs.Common.{◌≡◌, ℕ, Bool, true, false, not, List, [], ◌∷◌, length, Option, Some, None, Result, Ok, Err, refl, sym, subst}
use Rattle.std.specs.Prelude.{◌==◌, ◌&&◌, nat_le, slice_get, IfErr, IfSome}
use Rattle.elf_types.specs.declared.records.Part.{Part}
use Rattle.elf_types.specs.declared.records.Part.TheVariants as part
use Rattle.elf_types.specs.declared.records.Ehdr.{Ehdr}
use Rattle.elf_types.specs.declared.records.Phdr.{Phdr}
use Rattle.elf_types.specs.declared.records.Shdr.{Shdr}
use Rattle.elf_types.specs.declared.errors.ElfError.{ElfError}
use Rattle.elf_types.specs.declared.errors.ElfError.TheVariants.{NoSection, NoData, NoEntry, Unfit, Reserved, TooMany, BadAlign, FlagKept}
use Rattle.elf_types.specs.declared.constants.TheConstants.{PN_XNUM, MAX_SECTIONS, MAX_PIECES}
use Rattle.elf_types.specs.Answers.{IsRefusal, refused_if, first_refusal, answered}
use Rattle.elf_xlate.specs.declared.content.Items.{Items}
use Rattle.symbol_lookup.specs.elf_object.Object.{Object, section_at}
use Rattle.symbol_lookup.specs.elf_object.Answers.{no_section, no_data, no_entry, reserved, kind_at, piece_refusal, part_refusal, has_dirty, piece_count}
use Rattle.symbol_lookup.specs.elf_object.Calls.{phdr_answer, shdr_answer, pieces_answer, piece_kind_answer, update_ehdr_refusal, update_phdr_refusal, update_shdr_refusal, newphdr_refusal, newscn_refusal, newdata_refusal, replace_refusal, flag_refusal, unfit_items, is_piece_align}
use Rattle.symbol_lookup.specs.elf_object.Calls as calls
use Rattle.symbol_lookup.specs.elf_object.Image.{image_length}
use Rattle.symbol_lookup.specs.elf_object.Refusal.{refusal}
use Rattle.symbol_lookup.proofs.elf_object.RefusalLaws.{update_refuses}
use Rattle.symbol_lookup.specs.elf_object.Steps.{stored_ehdr}
use Rattle.elf_xlate.specs.Headers.{ehdr_fits, phdr_fits, shdr_fits}
use Rattle.elf_xlate.specs.Translation.{first_unfit}

-- what refuses is a refusal that a definition states
pub record Refuses (refusal : Option ElfError) : Type 0 where
  pub stated : (e : ElfError) → refusal ≡ Some e → IsRefusal e

pub if_refuses : (test : Bool) (d : ElfError) → IsRefusal d → Refuses (refused_if test d)
if_refuses true d is = record { stated = λ e refused. let same : d ≡ e = cc in subst IsRefusal same is }
if_refuses false d is = record { stated = λ e refused. cc }

pub none_refuses : Refuses None
none_refuses = record { stated = λ e refused. cc }

-- so do several tests in their order, where each does
abbrev AllRefuse : List (Option ElfError) → Type 0
AllRefuse [] = Unit {0}
AllRefuse (r ∷ rs) = Refuses r × AllRefuse rs

first_refuses : (rs : List (Option ElfError)) → AllRefuse rs → Refuses (first_refusal rs)
first_refuses [] all = none_refuses
first_refuses (None ∷ rs) all = first_refuses rs all.1
first_refuses (Some d ∷ rs) all = all.0

-- and so is an answer behind it
pub answer_refuses : {A : Type 0} (r : Option ElfError) (v : A) (e : ElfError) → Refuses r → answered r v ≡ Err e → IsRefusal e
answer_refuses None v e refuses refused = cc
answer_refuses (Some d) v e refuses refused = let same : d ≡ e = cc in subst IsRefusal same (refuses.stated d refl)

pub settled : {A : Type 0} (r : Result A ElfError) (refusal : Option ElfError) (v : A) → r ≡ answered refusal v → Refuses refusal → IfErr r IsRefusal
settled (Ok x) refusal v is refuses = tt
settled (Err e) refusal v is refuses = answer_refuses refusal v e refuses (sym is)

-- ---- Calls that read nothing

section_refuses : (o : Object) (s : ℕ) → Refuses (no_section o s)
section_refuses o s = if_refuses (nat_le (length o.sections) s) (NoSection s (length o.sections)) tt

data_refuses : (o : Object) (s p : ℕ) → Refuses (no_data o s p)
data_refuses o s p = if_refuses (nat_le (piece_count o s) p) (NoData p (piece_count o s)) tt

entry_refuses : (i count : ℕ) → Refuses (no_entry i count)
entry_refuses i count = if_refuses (nat_le count i) (NoEntry i count) tt

reserved_refuses : (s : ℕ) → Refuses (reserved s)
reserved_refuses s = if_refuses (s == 0) Reserved tt

pub phdr_refuses : (o : Object) (i : ℕ) (e : ElfError) → phdr_answer o i ≡ Err e → IsRefusal e
unfolding phdr_answer
phdr_refuses o i e refused = by_entry (slice_get o.phdrs i) refused
  where
    by_entry : (there : Option Phdr) → ◌≡◌ {A = Result Phdr ElfError} (elim there [ None ↦ Err (NoEntry i (length o.phdrs)) | Some x ↦ Ok x ]) (Err e) → IsRefusal e
    by_entry None refused = let same : NoEntry i (length o.phdrs) ≡ e = cc in subst IsRefusal same tt
    by_entry (Some x) refused = cc

pub shdr_refuses : (o : Object) (s : ℕ) (e : ElfError) → shdr_answer o s ≡ Err e → IsRefusal e
unfolding shdr_answer
shdr_refuses o s e refused = answer_refuses (no_section o s) (section_at o s).header e (section_refuses o s) refused

pub pieces_refuses : (o : Object) (s : ℕ) (e : ElfError) → pieces_answer o s ≡ Err e → IsRefusal e
unfolding pieces_answer
pieces_refuses o s e refused = answer_refuses (no_section o s) (piece_count o s) e (section_refuses o s) refused

piece_refuses : (o : Object) (s p : ℕ) → Refuses (piece_refusal o s p)
unfolding piece_refusal
piece_refuses o s p = first_refuses (no_section o s ∷ no_data o s p ∷ []) (section_refuses o s, (data_refuses o s p, tt))

pub piece_kind_refuses : (o : Object) (s p : ℕ) (e : ElfError) → piece_kind_answer o s p ≡ Err e → IsRefusal e
unfolding piece_kind_answer
piece_kind_refuses o s p e refused = answer_refuses (piece_refusal o s p) (kind_at o s p) e (piece_refuses o s p) refused

-- ---- Edits

unfit_refuses : (test : Bool) (part : Part) (i : ℕ) → Refuses (refused_if test (Unfit part i))
unfit_refuses test part i = if_refuses test (Unfit part i) tt

pub update_ehdr_refuses : (o : Object) (h : Ehdr) → Refuses (update_ehdr_refusal o h)
unfolding update_ehdr_refusal
update_ehdr_refuses o h =
    let index = not (h.shstrndx == 0) && nat_le (length o.sections) h.shstrndx in
    let unfit = not (ehdr_fits (stored_ehdr o.header h)) in
    first_refuses (refused_if index (NoSection h.shstrndx (length o.sections)) ∷ refused_if unfit (Unfit part.Header 0) ∷ [])
    (if_refuses index (NoSection h.shstrndx (length o.sections)) tt, (unfit_refuses unfit part.Header 0, tt))

pub update_phdr_refuses : (o : Object) (i : ℕ) (p : Phdr) → Refuses (update_phdr_refusal o i p)
unfolding update_phdr_refusal
update_phdr_refuses o i p =
    let unfit = not (phdr_fits o.header.class p) in
    first_refuses (no_entry i (length o.phdrs) ∷ refused_if unfit (Unfit part.Segments i) ∷ []) (entry_refuses i (length o.phdrs), (unfit_refuses unfit part.Segments i, tt))

pub update_shdr_refuses : (o : Object) (s : ℕ) (h : Shdr) → Refuses (update_shdr_refusal o s h)
unfolding update_shdr_refusal
update_shdr_refuses o s h =
    let unfit = not (shdr_fits o.header.class h) in
    first_refuses (no_section o s ∷ reserved s ∷ refused_if unfit (Unfit (part.Section s) 0) ∷ []) (section_refuses o s, (reserved_refuses s, (unfit_refuses unfit (part.Section s) 0, tt)))

pub newphdr_refuses : (n : ℕ) → Refuses (newphdr_refusal n)
newphdr_refuses n = if_refuses (nat_le PN_XNUM n) TooMany tt

pub newscn_refuses : (o : Object) → Refuses (newscn_refusal o)
newscn_refuses o = if_refuses (nat_le MAX_SECTIONS (length o.sections)) TooMany tt

items_refuse : (o : Object) (s p : ℕ) (l : Items) → Refuses (unfit_items o s p l)
items_refuse o s p l = by_first (first_unfit o.header.class l)
  where
    by_first : (i : Option ℕ) → Refuses (elim i [ None ↦ None | Some i ↦ Some (Unfit (part.Piece s p) i) ])
    by_first None = none_refuses
    by_first (Some i) = unfit_refuses true (part.Piece s p) i

pub newdata_refuses : (o : Object) (s : ℕ) (l : Items) (align : ℕ) → Refuses (newdata_refusal o s l align)
unfolding newdata_refusal
newdata_refuses o s l align =
    let many = nat_le MAX_PIECES (piece_count o s) in
    let bad = not (is_piece_align align) in
    first_refuses (no_section o s ∷ reserved s ∷ refused_if many TooMany ∷ refused_if bad (BadAlign align) ∷ unfit_items o s (piece_count o s) l ∷ [])
    (section_refuses o s, (reserved_refuses s, (if_refuses many TooMany tt, (if_refuses bad (BadAlign align) tt, (items_refuse o s (piece_count o s) l, tt)))))

pub replace_refuses : (o : Object) (s p : ℕ) (l : Items) → Refuses (replace_refusal o s p l)
unfolding replace_refusal
replace_refuses o s p l =
    first_refuses (no_section o s ∷ reserved s ∷ no_data o s p ∷ unfit_items o s p l ∷ []) (section_refuses o s, (reserved_refuses s, (data_refuses o s p, (items_refuse o s p l, tt))))

part_refuses : (o : Object) (part : Part) → Refuses (part_refusal o part)
unfolding part_refusal
part_refuses o part.Object = none_refuses
part_refuses o part.Table = none_refuses
part_refuses o part.Header = none_refuses
part_refuses o part.Segments = none_refuses
part_refuses o (part.Section s) = section_refuses o s
part_refuses o (part.Piece s p) = piece_refuses o s p

pub flag_refuses : (o : Object) (part : Part) (set : Bool) (bits : ℕ) → Refuses (flag_refusal o part set bits)
unfolding flag_refusal
flag_refuses o part set bits =
    let kept = not set && has_dirty bits in
    first_refuses (part_refusal o part ∷ refused_if kept FlagKept ∷ []) (part_refuses o part, (if_refuses kept FlagKept tt, tt))

-- ---- An update

update_is_refused : (o : Object) → Refuses (refusal o)
update_is_refused o = record {
  stated = λ e is.
      subst (λ (r : Option ElfError). IfSome r IsRefusal) is (update_refuses o);
}

pub null_refuses : (o : Object) (e : ElfError) → calls.update_null.answer o ≡ Err e
    → IsRefusal e
null_refuses o e is = answer_refuses (refusal o) (image_length o) e (update_is_refused o) is
