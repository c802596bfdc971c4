-- A header that is taken over from another object, and program headers that are.
use Rattle.std.proofs.Common.{◌≡◌, ℕ, ◌≤◌, false, List, length, take_all, Option, Result, Ok, refl, sym, ap, ◌∙◌, subst}
use Rattle.std.proofs.Math.ListN.{replicate}
use Rattle.std.proofs.lemmas.List.{length-replicate}
use Rattle.elf_types.specs.declared.records.Ehdr.{Ehdr}
use Rattle.elf_types.specs.declared.records.Phdr.{Phdr}
use Rattle.elf_types.specs.declared.errors.ElfError.{ElfError}
use Rattle.elf_types.specs.Answers.{answered}
use Rattle.elf_types.specs.Lists.{refilled}
use Rattle.rebuild_model.specs.elf_object.Object.{Object, header_of, no_phdr}
use Rattle.rebuild_model.specs.elf_object.Steps.{stored_ehdr, with_ehdr, with_phdrs, with_new_phdrs}
use Rattle.rebuild_model.specs.elf_object.Calls.{update_ehdr_refusal}
use Rattle.rebuild_model.specs.elf_object.Calls as calls
use Rattle.elf_update_plan.specs.elf_descriptor.State.{State}
use Rattle.elf_update_plan.specs.elf_descriptor.Edits.{StepsTo, stepped}
use Rattle.elf_update_plan.proofs.elf_descriptor.LendLaws.{refilled_same}
use Rattle.elf_update_plan.proofs.elf_descriptor.Settling.{IsCopying}
use Rattle.elf_update_plan.proofs.RowLaws.{ok_is}

-- ---- The header, with its true counts, which are not stored

module _ (o m : Object) (index : ℕ) (h : Ehdr)
    (is : ◌≡◌ {A = Result Ehdr ElfError} (Ok h) (Ok (header_of o))) where
  counts_refused : update_ehdr_refusal m (record (header_of o) { shstrndx = index })
      ≡ update_ehdr_refusal m (record o.header { shstrndx = index })
  unfolding update_ehdr_refusal stored_ehdr header_of
  counts_refused = refl

  counts_stored : with_ehdr m (record (header_of o) { shstrndx = index })
      ≡ with_ehdr m (record o.header { shstrndx = index })
  unfolding with_ehdr stored_ehdr header_of
  counts_stored = refl

  pub header_refused : update_ehdr_refusal m (record h { shstrndx = index })
      ≡ update_ehdr_refusal m (record o.header { shstrndx = index })
  header_refused =
      ap (λ (x : Ehdr). update_ehdr_refusal m (record x { shstrndx = index }))
      (ok_is h (header_of o) is)
      ∙ counts_refused

  pub header_stored : with_ehdr m (record h { shstrndx = index })
      ≡ with_ehdr m (record o.header { shstrndx = index })
  header_stored =
      ap (λ (x : Ehdr). with_ehdr m (record x { shstrndx = index })) (ok_is h (header_of o) is)
      ∙ counts_stored

pub finish_answer : (o m : Object) (index : ℕ) (h : Ehdr) (r : Result (Unit {0}) ElfError)
    → ◌≡◌ {A = Result Ehdr ElfError} (Ok h) (Ok (header_of o))
    → r ≡ answered (update_ehdr_refusal m (record h { shstrndx = index })) tt
    → r ≡ answered (update_ehdr_refusal m (record o.header { shstrndx = index })) tt
finish_answer o m index h r is came =
    came ∙ ap (λ (x : Option ElfError). answered x tt) (header_refused o m index h is)

pub finish_state : {S : Type 0} (o : Object) (old new : State S) (index : ℕ) (h : Ehdr)
    (r : Result (Unit {0}) ElfError)
    → ◌≡◌ {A = Result Ehdr ElfError} (Ok h) (Ok (header_of o))
    → StepsTo r old new (stepped (calls.update_ehdr (record h { shstrndx = index })) old)
    → StepsTo r old new (stepped (calls.update_ehdr (record o.header { shstrndx = index })) old)
finish_state o old new index h r is came =
    subst (λ (q : Object). StepsTo r old new (record old { o = q; ready = false }))
    (header_stored o old.o index h is) came

-- ---- Program headers

pub copied_all : {X : Type 0} (n : ℕ) (from to : List X) → length from ≤ n → IsCopying n from to
    → to ≡ from
copied_all n from to all is =
    let long = is.long in
    sym (take_all n to (subst (λ (k : ℕ). k ≤ n) (sym long) all))
    ∙ is.copied
    ∙ take_all n from all

new_phdrs : (o : Object) (n : ℕ) → (with_new_phdrs o n).phdrs ≡ replicate n no_phdr
unfolding with_new_phdrs with_phdrs
new_phdrs o n = refl

phdrs_twice : (o : Object) (n : ℕ) (phdrs : List Phdr)
    → with_phdrs (with_new_phdrs o n) phdrs ≡ with_phdrs o phdrs
unfolding with_new_phdrs with_phdrs
phdrs_twice o n phdrs = refl

module _ {S : Type 0} (old mid : State S) (n : ℕ) (phdrs : List Phdr) (count : n ≡ length phdrs)
    (is : mid ≡ stepped (calls.newphdr n) old) where
  mid_phdrs : mid.o.phdrs ≡ replicate n no_phdr
  mid_phdrs = ap (λ (s : State S). s.o.phdrs) is ∙ new_phdrs old.o n

  mid_long : length mid.o.phdrs ≡ n
  mid_long = ap (λ (l : List Phdr). length l) mid_phdrs ∙ length-replicate n no_phdr

  -- what is lent has as many
  pub lent_long : (lent : List Phdr) → lent ≡ mid.o.phdrs → length lent ≡ length phdrs
  lent_long lent same = ap (λ (l : List Phdr). length l) same ∙ mid_long ∙ count

  -- what is left is the copy
  pub segments_copied : (left : List Phdr) → left ≡ phdrs
      → stepped (calls.phdrs_mut (refilled mid.o.phdrs left)) mid
      ≡ stepped (calls.phdrs_mut phdrs) old
  segments_copied left copy =
      ap (λ (l : List Phdr). stepped (calls.phdrs_mut l) mid)
      (refilled_same mid.o.phdrs left
      (ap (λ (l : List Phdr). length l) copy ∙ sym count ∙ sym mid_long) ∙ copy)
      ∙ ap (λ (s : State S). stepped (calls.phdrs_mut phdrs) s) is
      ∙ ap (λ (q : Object). record old { o = q; ready = false }) (phdrs_twice old.o n phdrs)
