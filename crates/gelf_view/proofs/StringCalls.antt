-- What a call that gives a string reads, and how its answer meets the stated one.
use Rattle.std.proofs.Common.{◌≡◌, ℕ, zero-add, Bool, true, false, not, ◌&&◌, List, [], ◌∷◌, drop, Option, Some, None, Result, Ok, Err, refl, sym, ap, ◌∙◌, subst, inl, inr}
use Rattle.std.specs.Prelude.{IsTrue, IfErr, is_none, nat_lt, if◌then◌else◌}
use Rattle.elf_types.specs.declared.records.Kind.TheVariants as kinds
use Rattle.elf_types.specs.declared.errors.ElfError.{ElfError}
use Rattle.elf_types.specs.declared.errors.ElfError.TheVariants.{Memory, Read, Unended}
use Rattle.elf_types.specs.Answers.{answered, refused_if, first_refusal, or_refused, IsRefusal}
use Rattle.elf_descriptor.specs.elf_xlate.declared.content.Items.{Items}
use Rattle.elf_descriptor.specs.elf_outside.declared.sources.Source.{Ghosts}
use Rattle.elf_descriptor.specs.elf_outside.Asks.{ReadRose}
use Rattle.elf_descriptor.specs.elf_object.Words.{Wants, Refusals, Answers, AnswersRead, seen}
use Rattle.std.specs.Borrow.{Bor}
use Rattle.elf_descriptor.specs.elf_object.Blocks.{Block}
use Rattle.elf_descriptor.specs.elf_object.Object.{Object, piece_at}
use Rattle.elf_descriptor.specs.elf_object.Answers.{bytes_of, items_at, lend_refusal}
use Rattle.elf_descriptor.specs.elf_object.Due.{is_loaded, homes_due, unless_refused, when_clean, when_piece_clean}
use Rattle.elf_descriptor.specs.elf_object.Strings.{has_nul, bytes_from, unended, string_in, string_refusal, string_refusal_unread, string_answer, strptr, strptr_refusals}
use Rattle.elf_descriptor.specs.State.{State}
use Rattle.elf_descriptor.specs.Reads.{Reads, Queries, wanted}
use Rattle.elf_descriptor.proofs.Refusals.{err_of_answered}
use Rattle.elf_descriptor.proofs.ReadsLaws.{reads_then, reads_wider}
use Rattle.gelf_view.specs.Calls.{bytes}
use Rattle.gelf_view.specs.Records.{string_front}
use Rattle.gelf_view.specs.Strings.{bytes_in, Begins}
use Rattle.gelf_view.proofs.StringLemmas.{string_is}

-- ---- Answers

-- what is refused early comes over every source
pub early_refused : {A : Type 0} (told : Bool) (wants : Wants) (r : Refusals) (stated : Result A ElfError) (e : ElfError) → IsRefusal e → r.early ≡ Some e → stated ≡ Err e
    → AnswersRead told wants r (Err e) stated
early_refused told wants r stated Memory is early same = absurd is
early_refused told wants r stated Read is early same = absurd is
early_refused told wants r stated e is early same = inl (early, same)

-- before a byte is read
pub unread_refused : (o : Object) (told : Bool) (wants : Wants) (s offset : ℕ) (e : ElfError) → IsRefusal e → string_refusal_unread o s offset ≡ Some e
    → AnswersRead told wants (strptr_refusals o s offset) (Err e) (string_answer o s offset)
unfolding string_answer string_refusal
unread_refused o told wants s offset e is refused =
    early_refused told wants (strptr_refusals o s offset) (string_answer o s offset) e is refused
    (ap (λ (r : Option ElfError). answered (first_refusal (r ∷ unended o s offset ∷ [])) (string_in o s offset)) refused)

-- a string, or that it does not end
pub met_in_bytes : (o : Object) (told : Bool) (wants : Wants) (s offset : ℕ) (r stated : Result (List ℕ) ElfError) → string_refusal_unread o s offset ≡ None
    → IfErr r (λ e. e ≡ Unended offset) → (IsTrue told → r ≡ stated) → AnswersRead told wants (strptr_refusals o s offset) r stated
met_in_bytes o told wants s offset (Ok x) stated passed met same = (passed, λ is. sym (same is))
met_in_bytes o told wants s offset (Err e) stated passed met same =
    let P : ElfError → Type 0 = λ d. (IsTrue told → Err d ≡ stated) → AnswersRead told wants (strptr_refusals o s offset) (Err d) stated in
    subst P (sym met) (λ same. inr (passed, refl, λ is. sym (same is))) same

-- a string whose end is not met is refused as that
pub unended_refusal : {A : Type 0} (r : Result A ElfError) (offset : ℕ) → IfErr r (λ e. e ≡ Unended offset) → IfErr r IsRefusal
unended_refusal (Ok x) offset met = tt
unended_refusal (Err e) offset met = subst IsRefusal (sym met) tt

pub unended_seen : {A : Type 0} (r : Result (Bor A) ElfError) (offset : ℕ) → IfErr r (λ e. e ≡ Unended offset) → IfErr (seen r) (λ e. e ≡ Unended offset)
unended_seen (Ok x) offset met = tt
unended_seen (Err e) offset met = met

-- ---- What is read

module _ {S : Type 0} (g : Ghosts S) (old new : State S) (s offset p start : ℕ) (begins : Begins old.o s offset p start) where
  by_end : (ended : Bool) → unless_refused (first_refusal (None ∷ refused_if (not ended) (Unended offset) ∷ [])) (when_clean old.o s) ≡ when_clean old.o s
  by_end true = refl
  by_end false = refl

  reads_is : (strptr s offset).reads old.o ≡ when_clean old.o s
  unfolding string_answer string_refusal
  reads_is =
      let b : Block = record { at = begins.over.at; bytes = bytes_in old.o s p } in
      ap (λ (r : Option ElfError). unless_refused r (when_clean old.o s)) (err_of_answered (string_refusal old.o s offset) (string_in old.o s offset))
      ∙ ap (λ (r : Option ElfError). unless_refused (first_refusal (r ∷ unended old.o s offset ∷ [])) (when_clean old.o s)) begins.passed
      ∙ ap (λ (x : Option Block). unless_refused (first_refusal (None ∷ (elim x [ None ↦ None | Some b ↦ refused_if (not (has_nul (bytes_from b offset))) (Unended offset) ]) ∷ [])) (when_clean old.o s)) begins.over.over
      ∙ by_end (has_nul (bytes_from b offset))

  bytes_reads : (bytes s p).reads old.o ≡ when_piece_clean old.o s p
  bytes_reads =
      ap (λ (r : Option ElfError). unless_refused r (when_piece_clean old.o s p)) (err_of_answered (lend_refusal old.o kinds.Bytes s p) (bytes_of (items_at old.o s p)))
      ∙ ap (λ (r : Option ElfError). unless_refused r (when_piece_clean old.o s p)) begins.lent

  -- the home is read only for the clean home piece
  data Reading : Type 0 where
    home_read : (piece_at old.o s p).own ≡ None → (bytes s p).reads old.o ≡ s ∷ [] → (strptr s offset).reads old.o ≡ s ∷ [] → Reading
    none_read : (items : Items) → (piece_at old.o s p).own ≡ Some items → (bytes s p).reads old.o ≡ [] → Reading

  reading : Reading
  unfolding when_clean when_piece_clean
  reading = by_own (piece_at old.o s p).own refl
    where
      by_own : (own : Option Items) → (piece_at old.o s p).own ≡ own → Reading
      by_own None is = home_read is
          (bytes_reads ∙ ap (λ (own : Option Items). if is_none own then s ∷ [] else []) is)
          (reads_is ∙ ap (λ (t : Bool). if t then s ∷ [] else []) (begins.clean is))
      by_own (Some items) is = none_read items is (bytes_reads ∙ ap (λ (own : Option Items). if is_none own then s ∷ [] else []) is)

  string_reads : {T : Type 0} (q : Result T ElfError) → Reads g q old new ((bytes s p).reads old.o) [] (homes_due old.o old.loaded ((bytes s p).reads old.o))
      → Reads g q old new ((strptr s offset).reads old.o) [] (homes_due old.o old.loaded ((strptr s offset).reads old.o))
  unfolding homes_due
  string_reads q reads = elim reading [
    | home_read clean one other ↦ subst (λ (l : List ℕ). Reads g q old new l [] (homes_due old.o old.loaded l)) (one ∙ sym other) reads
    | none_read items own none ↦
        let l = (strptr s offset).reads old.o in
        let nothing : Reads g q old new [] [] 0 = subst (λ (l : List ℕ). Reads g q old new l [] (homes_due old.o old.loaded l)) none reads in
        subst (λ (n : ℕ). Reads g q old new l [] n) (zero-add (homes_due old.o old.loaded l)) (reads_wider g q old new [] l [] [] 0 (homes_due old.o old.loaded l) nothing)
  ]

  pub string_queries : {T U : Type 0} (r : Result T ElfError) (q : Result U ElfError) → (IfErr q IsRefusal → IfErr r IsRefusal) → ReadRose q (g.faults old.source) (g.faults new.source)
      → Queries g (bytes s p) [] r old new → Queries g (strptr s offset) [] q old new
  string_queries r q settled read asked = record {
    object = asked.object;
    reads = string_reads q (reads_then g r q old new ((bytes s p).reads old.o) [] (homes_due old.o old.loaded ((bytes s p).reads old.o)) settled read asked.reads);
  }

  string_memory : IsTrue (wanted (bytes s p) old).memory → IsTrue (wanted (strptr s offset) old).memory
  string_memory want = elim reading [
    | home_read clean one other ↦ ap (λ (t : Bool). t && not (is_loaded old.loaded s)) (begins.clean clean) ∙ sym (ap (λ (own : Option Items). is_none own && not (is_loaded old.loaded s)) clean) ∙ want
    | none_read items own none ↦ let never = sym (ap (λ (own : Option Items). is_none own && not (is_loaded old.loaded s)) own) ∙ want in cc
  ]

  string_read : IsTrue (wanted (bytes s p) old).read → IsTrue (wanted (strptr s offset) old).read
  unfolding homes_due
  string_read want = elim reading [
    | home_read clean one other ↦ ap (λ (l : List ℕ). nat_lt 0 (homes_due old.o old.loaded l)) (other ∙ sym one) ∙ want
    | none_read items own none ↦ let never = sym (ap (λ (l : List ℕ). nat_lt 0 (homes_due old.o old.loaded l)) none) ∙ want in cc
  ]

  -- its bytes are not had
  pub string_unread : (e : ElfError) → Answers true (wanted (bytes s p) old) (Err e) (answered (lend_refusal old.o kinds.Bytes s p) (tt {0}))
      → AnswersRead old.told (wanted (strptr s offset) old) (strptr_refusals old.o s offset) (Err e) ((strptr s offset).answer old.o)
  string_unread e came = by_error e (subst (λ (r : Option ElfError). Answers true (wanted (bytes s p) old) (Err e) (answered r (tt {0}))) begins.lent came)
    where
      by_error : (e : ElfError) → Answers true (wanted (bytes s p) old) (Err e) (Ok (tt {0})) → AnswersRead old.told (wanted (strptr s offset) old) (strptr_refusals old.o s offset) (Err e) ((strptr s offset).answer old.o)
      by_error Memory came = (begins.passed, string_memory came.0)
      by_error Read came = (begins.passed, string_read came.0)
      by_error e came = cc

  -- they are
  pub string_found : (told : Bool) (r : Result (List ℕ) ElfError) → IfErr r (λ e. e ≡ Unended offset)
      → (IsTrue told → r ≡ or_refused (string_front (drop start (bytes_in old.o s p))) (Unended offset))
      → AnswersRead told (wanted (strptr s offset) old) (strptr_refusals old.o s offset) r ((strptr s offset).answer old.o)
  string_found told r met same =
      met_in_bytes old.o told (wanted (strptr s offset) old) s offset r (string_answer old.o s offset) begins.passed met
      (λ is. same is ∙ sym (string_is old.o s offset p start begins))
