-- A refusal of an update is one that a definition states: none of Memory, Read and Write.
use Rattle.std.proofs.Common.{ℕ, Bool, true, false, List, [], ◌∷◌, length, map, Option, Some, None}
use Rattle.std.specs.Prelude.{IfSome, if◌then◌else◌}
use Rattle.std.specs.List.{AllByRecursion, enumerate_from}
use Rattle.std.specs.Option.{option_map, option_or}
use Rattle.elf_types.specs.declared.records.Class.{Class}
use Rattle.elf_types.specs.declared.records.Part.{Part}
use Rattle.elf_types.specs.declared.records.Part.TheVariants as part
use Rattle.elf_types.specs.declared.errors.ElfError.{ElfError}
use Rattle.elf_types.specs.declared.errors.ElfError.TheVariants.{TooLarge, TooMany, Unfit, OutOfFile}
use Rattle.elf_types.specs.Answers.{refused_if, first_refusal, IsRefusal}
use Rattle.elf_ident.specs.elf_xlate.declared.content.Items.{Items}
use Rattle.elf_ident.specs.elf_xlate.Translation.{first_unfit}
use Rattle.elf_layout.specs.Layout.{overlap_refusal, is_too_large, limit_of, refusal_within, refusal_of}
use Rattle.elf_layout.specs.Meeting.{overlap_of}
use Rattle.elf_layout.specs.declared.parts.PartAt.{PartAt}
use Rattle.elf_object.specs.Object.{Object, Section, Piece, is_dirty, has_file_bytes}
use Rattle.elf_object.specs.Layout.{parts_of}
use Rattle.elf_object.specs.Refusal.{too_many, unfit_segment, unfit_in_piece, unfit_in_section, unfit_item, missing_in_section, missing_home, content_refusal, placing_refusal, refusal}

-- where something is refused, it is a refusal
abbrev pub Refuses : Option ElfError → Type 0
Refuses r = IfSome r IsRefusal

-- ---- Refusals in their forms

pub test_refuses : (b : Bool) (e : ElfError) → IsRefusal e → Refuses (refused_if b e)
test_refuses true e is = is
test_refuses false e is = tt

pub first_refuses : (rs : List (Option ElfError)) → AllByRecursion Refuses rs
    → Refuses (first_refusal rs)
first_refuses [] each = tt
first_refuses (None ∷ rs) each = first_refuses rs each.1
first_refuses (Some e ∷ rs) each = each.0

pub mapped_refuses : {X : Type 0} (f : X → ElfError) (o : Option X) → ((x : X) → IsRefusal (f x))
    → Refuses (option_map f o)
mapped_refuses f None each = tt
mapped_refuses f (Some x) each = each x

pub either_refuses : (a b : Option ElfError) → Refuses a → Refuses b → Refuses (option_or a b)
either_refuses None b ra rb = rb
either_refuses (Some e) b ra rb = ra

pub when_refuses : (b : Bool) (r : Option ElfError) → Refuses r → Refuses (if b then r else None)
when_refuses true r is = is
when_refuses false r is = tt

rows_refuse : {X : Type 0} (f : X → Option ElfError) (l : List X) → ((x : X) → Refuses (f x))
    → AllByRecursion Refuses (map f l)
rows_refuse f [] each = tt
rows_refuse f (x ∷ l) each = (each x, rows_refuse f l each)

pub each_refuses : {X : Type 0} (f : X → Option ElfError) (l : List X) → ((x : X) → Refuses (f x))
    → Refuses (first_refusal (map f l))
each_refuses f l each = first_refuses (map f l) (rows_refuse f l each)

-- ---- Why an update is refused

unfit_refuses : (p : Part) (o : Option ℕ) → Refuses (option_map (Unfit p) o)
unfit_refuses p o = mapped_refuses (Unfit p) o (λ i. tt)

piece_refuses : (class : Class) (s p : ℕ) (piece : Piece) → Refuses (unfit_in_piece class s p piece)
unfolding unfit_in_piece
piece_refuses class s p piece = by_items piece.own
  where
    by_items : (own : Option Items)
        → Refuses
        (elim own [
          | None ↦ None
          | Some items ↦ option_map (Unfit (part.Piece s p)) (first_unfit class items)
        ])
    by_items None = tt
    by_items (Some items) = unfit_refuses (part.Piece s p) (first_unfit class items)

section_refuses : (class : Class) (s : ℕ) (c : Section) → Refuses (unfit_in_section class s c)
unfolding unfit_in_section
section_refuses class s c =
    when_refuses (has_file_bytes s c) _
    (each_refuses (λ row. unfit_in_piece class s row.0 row.1) (enumerate_from 0 c.pieces)
    (λ row. piece_refuses class s row.0 row.1))

missing_refuses : (s : ℕ) (c : Section) → Refuses (missing_in_section s c)
unfolding missing_in_section
missing_refuses s c = test_refuses _ (OutOfFile s) tt

pub content_refuses : (o : Object) → Refuses (content_refusal o)
unfolding content_refusal too_many unfit_segment unfit_item missing_home
content_refuses o =
    first_refuses (too_many o ∷ unfit_segment o ∷ unfit_item o ∷ missing_home o ∷ []) (
      test_refuses _ TooMany tt,
      (
        unfit_refuses part.Segments _,
        (
          each_refuses (λ row. unfit_in_section o.header.class row.0 row.1)
              (enumerate_from 0 o.sections)
              (λ row. section_refuses o.header.class row.0 row.1),
          (
            each_refuses (λ row. missing_in_section row.0 row.1) (enumerate_from 0 o.sections)
                (λ row. missing_refuses row.0 row.1),
            tt,
          ),
        ),
      ),
    )

pub layout_refuses : (parts : List PartAt) (layout : Bool) (base : ℕ) (class : Class)
    → Refuses (refusal_of parts layout base class)
unfolding refusal_of refusal_within overlap_refusal
layout_refuses parts layout base class =
    either_refuses (overlap_refusal parts layout) _
    (when_refuses layout _ (mapped_refuses _ (overlap_of parts) (λ pair. tt)))
    (when_refuses (is_too_large parts layout base (limit_of class)) (Some TooLarge) tt)

pub update_refuses : (o : Object) → IfSome (refusal o) IsRefusal
unfolding refusal placing_refusal
update_refuses o =
    when_refuses (is_dirty o) _
    (first_refuses (content_refusal o ∷ placing_refusal o ∷ []) (
      content_refuses o,
      (layout_refuses (parts_of o) o.layout (length o.base) o.header.class, tt),
    ))
