-- A lend is refused before it reads: its end is a stated refusal, or want of memory, or a failed
-- read.
use Rattle.std.proofs.Common.{◌≡◌, Bool, Option, Some, None, Err, refl, ap, subst, inl, inr}
use Rattle.std.specs.Prelude.{IsTrue, ◌⊎◌}
use Rattle.elf_types.specs.declared.errors.ElfError.{ElfError}
use Rattle.elf_types.specs.declared.errors.ElfError.TheVariants.{Memory, Read, Write}
use Rattle.elf_types.specs.Answers.{IsRefusal, answered}
use Rattle.hash_model.specs.elf_object.Words.{Wants, Answers}
use Rattle.hash_model.specs.elf_object.Due.{is_refused_unread}
use Rattle.gelf_view.proofs.elf_descriptor.Refusals.{IsUnread}
use Rattle.gelf_view.proofs.LendLemmas.{unread_late}
use Rattle.symbol_lookup.specs.Searches.{IsFree}

unread_refusal : (e : ElfError) → IsTrue (is_refused_unread (Some e)) → IsRefusal e
unread_refusal Memory unread = cc
unread_refusal Read unread = cc
unread_refusal Write unread = cc
unread_refusal e unread = tt

-- how a call that is refused as a lend ends
pub lend_ended : {A : Type 0} (told : Bool) (wants : Wants) (refusal : Option ElfError) (v : A) (e : ElfError) → IsUnread refusal → Answers told wants (Err e) (answered refusal v)
    → ((refusal ≡ Some e) × IsRefusal e) ⊎ ((refusal ≡ None) × IsFree e)
lend_ended told wants None v Memory unread came = inr (refl, tt)
lend_ended told wants None v Read unread came = inr (refl, tt)
lend_ended told wants None v e unread came = cc
lend_ended told wants (Some d) v e (inl none) came = cc
lend_ended {A} told wants (Some d) v e (inr unread) came = by_error e came
  where
    refused : (e : ElfError) → d ≡ e → ((Some d ≡ Some e) × IsRefusal e) ⊎ ((Some d ≡ None) × IsFree e)
    refused e same = inl (ap Some same, subst IsRefusal same (unread_refusal d unread))

    by_error : (e : ElfError) → Answers {A = A} told wants (Err e) (Err d) → ((Some d ≡ Some e) × IsRefusal e) ⊎ ((Some d ≡ None) × IsFree e)
    by_error Memory came = absurd (unread_late d unread came.1)
    by_error Read came = absurd (unread_late d unread came.1)
    by_error e came = refused e (let same : d ≡ e = cc in same)
