-- A lend is refused before it reads, and so no late refusal comes of it.
use Rattle.std.proofs.Common.{ℕ, Bool, true, false, not, [], ◌∷◌, length, Option, Some, None, Ok, Err, refl, inl, inr}
use Rattle.std.specs.Prelude.{IsTrue, nat_le, if◌then◌else◌}
use Rattle.elf_types.specs.declared.records.Kind.{Kind}
use Rattle.elf_types.specs.declared.errors.ElfError.{ElfError}
use Rattle.elf_types.specs.declared.errors.ElfError.TheVariants.{NoEntry, Unfit, BadChain, Unended, NoSection, NoData, WrongKind, OutOfFile, Ragged}
use Rattle.elf_types.specs.Answers.{err_of}
use Rattle.elf_descriptor.specs.elf_xlate.declared.content.Items.{Items}
use Rattle.elf_descriptor.specs.elf_xlate.Translation.{decoded}
use Rattle.elf_descriptor.specs.elf_object.Words.{is_late}
use Rattle.elf_descriptor.specs.elf_object.Object.{Object, section_at, piece_at}
use Rattle.elf_descriptor.specs.elf_object.Answers.{content, no_section, no_data, wrong_kind, same_kind, no_content, piece_count, kind_at, lend_refusal}
use Rattle.elf_descriptor.specs.elf_object.Due.{is_refused_unread}
use Rattle.elf_descriptor.proofs.Refusals.{IsUnread, unread_if, unread_first}

made_unread : (s : ℕ) (out : Bool) (made : Option Items) → IsUnread (err_of (if out then Err (OutOfFile s) else (elim made [ None ↦ Err (Ragged s) | Some items ↦ Ok items ])))
made_unread s true made = inr refl
made_unread s false None = inr refl
made_unread s false (Some items) = inl refl

own_unread : (o : Object) (s : ℕ) (own : Option Items) → IsUnread (elim own [ None ↦ err_of (content o s) | Some items ↦ None ])
unfolding content
own_unread o s None = made_unread s (section_at o s).home.out (decoded (section_at o s).home.kind o.header.class o.header.order (section_at o s).raw)
own_unread o s (Some items) = inl refl

content_unread : (o : Object) (s p : ℕ) → IsUnread (no_content o s p)
unfolding no_content
content_unread o s p = own_unread o s (piece_at o s p).own

pub lend_unread : (o : Object) (kind : Kind) (s p : ℕ) → IsUnread (lend_refusal o kind s p)
unfolding lend_refusal
lend_unread o kind s p =
    unread_first (no_section o s) (no_data o s p ∷ wrong_kind o kind s p ∷ no_content o s p ∷ []) (unread_if (nat_le (length o.sections) s) (NoSection s (length o.sections)) refl)
    (unread_first (no_data o s p) (wrong_kind o kind s p ∷ no_content o s p ∷ []) (unread_if (nat_le (piece_count o s) p) (NoData p (piece_count o s)) refl)
    (unread_first (wrong_kind o kind s p) (no_content o s p ∷ []) (unread_if (not (same_kind (kind_at o s p) kind)) (WrongKind (kind_at o s p)) refl)
    (unread_first (no_content o s p) [] (content_unread o s p) (inl refl))))

pub unread_late : (e : ElfError) → IsTrue (is_refused_unread (Some e)) → IsTrue (is_late e) → ⊥
unread_late (NoEntry i n) unread late = cc
unread_late (Unfit p i) unread late = cc
unread_late (BadChain at) unread late = cc
unread_late (Unended at) unread late = cc
unread_late e unread late = cc
