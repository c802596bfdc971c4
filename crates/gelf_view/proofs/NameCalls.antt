-- The name of a section: what it reads, and how its answer meets the stated one.
use Rattle.std.proofs.Common.{◌≡◌, ◌==◌, ◌&&◌, not, ℕ, Bool, false, List, [], Option, None, Result, Ok, Err, refl, sym, ap, ◌∙◌, subst}
use Rattle.std.specs.Prelude.{if◌then◌else◌, nat_lt, IfErr}
use Rattle.std.proofs.lemmas.Bool.{ne_eqb}
use Rattle.elf_types.specs.declared.errors.ElfError.{ElfError}
use Rattle.elf_types.specs.declared.errors.ElfError.TheVariants.{Memory, Read}
use Rattle.elf_types.specs.Answers.{IsRefusal}
use Rattle.elf_descriptor.specs.elf_outside.declared.sources.Source.{Ghosts}
use Rattle.elf_descriptor.specs.elf_object.Words.{Wants, Answers}
use Rattle.elf_descriptor.specs.elf_object.Object.{section_at}
use Rattle.elf_descriptor.specs.elf_object.Due.{homes_due}
use Rattle.elf_descriptor.specs.elf_object.Strings as strings
use Rattle.elf_descriptor.specs.elf_object.Strings.{string_answer, readable, strptr}
use Rattle.elf_descriptor.specs.State.{State}
use Rattle.elf_descriptor.specs.Reads.{Reads, Queries, wanted}
use Rattle.elf_descriptor.proofs.ReadsLaws.{reads_nothing, reads_then}
use Rattle.gelf_view.specs.Records.{first_bytes_of}
use Rattle.gelf_view.specs.SectionNames.{readable_string, name_reads, name_memory, read_section_name, section_name_front}

-- what a call that is not refused answers
pub ok_is : {T : Type 0} (a b : T) → ◌≡◌ {A = Result T ElfError} (Ok a) (Ok b) → a ≡ b
ok_is a b h = cc

-- ---- Without a section of the names

module _ {S : Type 0} (g : Ghosts S) (old : State S) (s : ℕ) (is : old.o.header.shstrndx ≡ 0) where
  no_reads : name_reads s old.o ≡ []
  no_reads = rw is refl

  pub no_name_queries : {T : Type 0} (x : T) → Queries {T = T} g (read_section_name s) [] (Ok x) old old
  no_name_queries x = record {
    object = refl;
    reads = subst (λ (l : List ℕ). Reads g (Ok x) old old l [] (homes_due old.o old.loaded l))
        (sym no_reads) (reads_nothing g (Ok x) old [] [] (homes_due old.o old.loaded []) tt);
  }

  pub no_name : strings.section_name old.o s ≡ None
  unfolding strings.section_name
  no_name = rw is refl

-- ---- With one

module _ {S : Type 0} (g : Ghosts S) (old : State S) (s names at : ℕ) (is : old.o.header.shstrndx ≡ names)
    (some : names ≡ 0 → ⊥) (here : at ≡ (section_at old.o s).header.name) where
  no_zero : (old.o.header.shstrndx == 0) ≡ false
  no_zero = ne_eqb old.o.header.shstrndx 0 (λ zero. some (sym is ∙ zero))

  abbrev call : ℕ → ℕ → List ℕ
  call n a = (strptr n a).reads old.o

  same_reads : name_reads s old.o ≡ (readable_string names at).reads old.o
  same_reads =
      ap (λ (t : Bool). if t then [] else call old.o.header.shstrndx (section_at old.o s).header.name) no_zero
      ∙ ap (λ (n : ℕ). call n (section_at old.o s).header.name) is
      ∙ ap (λ (a : ℕ). call names a) (sym here)

  abbrev wants_memory : ℕ → ℕ → Bool
  wants_memory n a = (strptr n a).memory old.o old.loaded old.held

  same_memory : name_memory s old.o old.loaded old.held ≡ (readable_string names at).memory old.o old.loaded old.held
  same_memory =
      ap (λ (t : Bool). not t && wants_memory old.o.header.shstrndx (section_at old.o s).header.name) no_zero
      ∙ ap (λ (n : ℕ). wants_memory n (section_at old.o s).header.name) is
      ∙ ap (λ (a : ℕ). wants_memory names a) (sym here)

  pub same_name : strings.section_name old.o s ≡ readable (string_answer old.o names at)
  unfolding strings.section_name
  same_name =
      ap (λ (t : Bool). if t then None else readable (string_answer old.o old.o.header.shstrndx (section_at old.o s).header.name)) no_zero
      ∙ ap (λ (n : ℕ). readable (string_answer old.o n (section_at old.o s).header.name)) is
      ∙ ap (λ (a : ℕ). readable (string_answer old.o names a)) (sym here)

  pub name_queries : {T : Type 0} (r : Result T ElfError) (new : State S)
      → Queries g (readable_string names at) [] r old new → Queries g (read_section_name s) [] r old new
  name_queries r new q = record {
    object = q.object;
    reads = subst (λ (l : List ℕ). Reads g r old new l [] (homes_due old.o old.loaded l)) (sym same_reads) q.reads;
  }

  pub name_answers : (r : Result (Option (List ℕ)) ElfError)
      → Answers old.told (wanted (readable_string names at) old) r ((readable_string names at).answer old.o)
      → Answers old.told (wanted (read_section_name s) old) r ((read_section_name s).answer old.o)
  name_answers r h =
      let due = λ (l : List ℕ). nat_lt 0 (homes_due old.o old.loaded l) in
      let memory = wants_memory names at in
      let read = due (call names at) in
      let value = readable (string_answer old.o names at) in
      subst (λ (v : Option (List ℕ)). Answers old.told (wanted (read_section_name s) old) r (Ok v)) (sym same_name)
      (subst (λ (m : Bool). Answers old.told (record { memory = m; read = due (name_reads s old.o) }) r (Ok value)) (sym same_memory)
      (subst (λ (l : List ℕ). Answers old.told (record { memory = memory; read = due l }) r (Ok value)) (sym same_reads) h))

-- ---- Its first bytes

module _ {S T : Type 0} (g : Ghosts S) (old new : State S) (s n : ℕ) (r : Result T ElfError)
    (q : Queries g (read_section_name s) [] r old new) where
  pub front_queries : {U : Type 0} (x : T) (y : U) → r ≡ Ok x
      → Queries g (section_name_front s n) [] (Ok y) old new
  front_queries x y is = record {
    object = q.object;
    reads = reads_then g r (Ok y) old new (name_reads s old.o) []
        (homes_due old.o old.loaded (name_reads s old.o))
        (λ settled. subst (λ (r : Result T ElfError). IfErr r IsRefusal) (sym is) tt) tt q.reads;
  }

  pub refused_queries : (e : ElfError) → r ≡ Err e
      → Queries {T = T} g (section_name_front s n) [] (Err e) old new
  refused_queries e is = record {
    object = q.object;
    reads = subst (λ (r : Result T ElfError). Reads g r old new (name_reads s old.o) []
        (homes_due old.o old.loaded (name_reads s old.o))) is q.reads;
  }

pub front_answers : (told : Bool) (wants : Wants) (n : ℕ) (found stated front : Option (List ℕ))
    → front ≡ first_bytes_of n found → Answers told wants (Ok found) (Ok stated)
    → Answers told wants (Ok front) (Ok (first_bytes_of n stated))
front_answers told wants n found stated front is came = (
  refl,
  λ tells. ap Ok (ap (λ (name : Option (List ℕ)). first_bytes_of n name)
      (ok_is stated found (came.1 tells)) ∙ sym is),
)

pub front_refused : (told : Bool) (wants : Wants) (e : ElfError) (stated front : Option (List ℕ))
    → Answers told wants (Err e) (Ok stated) → Answers told wants (Err e) (Ok front)
front_refused told wants Memory stated front came = came
front_refused told wants Read stated front came = came
front_refused told wants e stated front came = cc
