-- Sections by their types, and those whose items can be lent.
use Rattle.std.proofs.Common.{◌≡◌, ◌<◌, ◌≤◌, ◌⊎◌, inl, inr, ℕ, ◌==◌, false, length, None, sym, ap, ◌∙◌}
use Rattle.std.specs.Prelude.{nat_le}
use Rattle.std.proofs.lemmas.Bool.{cases_lt, eqb-false, leb-false}
use Rattle.std.proofs.lemmas.List.{get_or_past}
use Rattle.elf_types.specs.declared.errors.ElfError.TheVariants.{NoSection, NoData}
use Rattle.elf_types.specs.declared.records.Kind.{Kind}
use Rattle.elf_ident.specs.Front.{zero_shdr}
use Rattle.rebuild_model.specs.elf_object.Object.{Object, Section, section_at, absent_section}
use Rattle.rebuild_model.specs.elf_object.Answers.{piece_count, lend_refusal}
use Rattle.rebuild_model.proofs.elf_object.AnswerLaws.{lend_passed}
use Rattle.rebuild_model.proofs.elf_object.PassedLaws.{not_refused}
use Rattle.rebuild_model.specs.elf_object.Sections.{header_at}

-- ---- Section types

-- a number is not two
pub apart_types : (a b : ℕ) → (a == b) ≡ false → (x : ℕ) → x ≡ a → x ≡ b → ⊥
apart_types a b apart x one other = eqb-false a b apart (sym one ∙ other)

-- a section of a type that is not 0 is there
pub there_by_type : (o : Object) (t stype : ℕ) → (header_at o t).stype ≡ stype
    → (stype == 0) ≡ false → t < length o.sections
unfolding section_at zero_shdr
there_by_type o t stype is some = by (cases_lt t (length o.sections))
  where
    by : (t < length o.sections) ⊎ (length o.sections ≤ t) → t < length o.sections
    by (inl below) = below
    by (inr past) =
        absurd (eqb-false stype 0 some
        (sym is
        ∙ ap (λ (c : Section). c.header.stype) (get_or_past o.sections t absent_section past)))

-- ---- A lend that passed

module _ (o : Object) (kind : Kind) (s : ℕ) (passed : lend_refusal o kind s 0 ≡ None) where
  pub lent_there : s < length o.sections
  lent_there =
      leb-false (length o.sections) s
      (not_refused (nat_le (length o.sections) s) (NoSection s (length o.sections))
      (lend_passed o kind s 0 passed).0)

  pub lent_piece : 0 < piece_count o s
  lent_piece =
      leb-false (piece_count o s) 0
      (not_refused (nat_le (piece_count o s) 0) (NoData 0 (piece_count o s))
      (lend_passed o kind s 0 passed).1)
