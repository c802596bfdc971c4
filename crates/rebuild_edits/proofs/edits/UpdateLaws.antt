-- Sections that get other bytes.
use Rattle.std.proofs.Common.{◌≡◌, ◌==◌, ◌&&◌, ℕ, Bool, true, false, not, List, [], ◌∷◌, length, Some, None, sym, subst}
use Rattle.elf_types.specs.Answers.{refused_if, first_refusal}
use Rattle.law_rebuild.specs.elf_object.Object.{Object, occupies_file}
use Rattle.law_rebuild.specs.elf_object.Joined.{pieces_end}
use Rattle.law_rebuild.specs.elf_object.Sections.{is_allocated, is_program, header_at}
use Rattle.rebuild_changes.specs.rebuild_model.Copied.{update_fault}
use Rattle.rebuild_changes.specs.rebuild_model.Copied.CopyFault.{NoBytes, Allocated}
use Rattle.rebuild_changes.specs.declared.faults.CopyFault.{CopyFault}
use Rattle.rebuild_changes.specs.Stated.{IsFault}
use Rattle.rebuild_edits.specs.Edits.Steps.{IsFaultIf}

module _ (o : Object) (s : ℕ) (name bytes : List ℕ) where
  pub none_in_file : (f : CopyFault) → occupies_file (header_at o s) ≡ false
      → IsFault (NoBytes name) f → IsFaultIf (update_fault o s name bytes) (Some f)
  unfolding update_fault
  none_in_file f is came =
      subst (λ (b : Bool). IsFaultIf (first_refusal (refused_if (not b) (NoBytes name)
      ∷ refused_if
      (is_program o && is_allocated (header_at o s) && not (length bytes == pieces_end o s))
      (Allocated name) ∷ [])) (Some f)) (sym is) came

  pub other_length : (f : CopyFault) → occupies_file (header_at o s) ≡ true
      → (is_program o && is_allocated (header_at o s) && not (length bytes == pieces_end o s))
      ≡ true
      → IsFault (Allocated name) f → IsFaultIf (update_fault o s name bytes) (Some f)
  unfolding update_fault
  other_length f filled is came =
      subst (λ (b : Bool). IsFaultIf (first_refusal (refused_if (not b) (NoBytes name)
      ∷ refused_if
      (is_program o && is_allocated (header_at o s) && not (length bytes == pieces_end o s))
      (Allocated name) ∷ [])) (Some f)) (sym filled)
      (subst (λ (b : Bool). IsFaultIf (first_refusal (None ∷ refused_if b (Allocated name) ∷ []))
      (Some f)) (sym is) came)

  pub may_update : occupies_file (header_at o s) ≡ true
      → (is_program o && is_allocated (header_at o s) && not (length bytes == pieces_end o s))
      ≡ false
      → IsFaultIf (update_fault o s name bytes) None
  unfolding update_fault
  may_update filled is =
      subst (λ (b : Bool). IsFaultIf (first_refusal (refused_if (not b) (NoBytes name)
      ∷ refused_if
      (is_program o && is_allocated (header_at o s) && not (length bytes == pieces_end o s))
      (Allocated name) ∷ [])) None) (sym filled)
      (subst (λ (b : Bool). IsFaultIf (first_refusal (None ∷ refused_if b (Allocated name) ∷ []))
      None) (sym is) tt)
