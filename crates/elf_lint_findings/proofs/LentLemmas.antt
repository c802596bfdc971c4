-- The items of a section where they can be told, and that there are none where a lend of them is refused.
use Rattle.std.proofs.Common.{◌≡◌, ℕ, Bool, List, [], length, Option, Some, None, Ok, Err, IsTrue, refl, sym, ap, ◌∙◌}
use Rattle.std.specs.Prelude.{slice_get}
use Rattle.elf_types.specs.Answers.{answered}
use Rattle.elf_types.specs.declared.errors.ElfError.{ElfError}
use Rattle.elf_types.specs.declared.records.Kind.{Kind}
use Rattle.elf_types.specs.declared.records.Kind.TheVariants as kinds
use Rattle.tool_objects.specs.elf_xlate.declared.content.Items.{Items}
use Rattle.tool_objects.specs.elf_xlate.Translation.{items_kind, items_count}
use Rattle.tool_objects.specs.elf_object.Words.{Wants, Answers}
use Rattle.tool_objects.specs.elf_object.Object.{Object}
use Rattle.tool_objects.specs.elf_object.Answers.{items_at, count_at, bytes_of, syms_of, lend_refusal, entry_answer}
use Rattle.tool_objects.proofs.elf_object.AnswerLaws.{answered_value, answered_refusal, lend_kind}
use Rattle.tool_objects.specs.tool_output.Stops.{stop_of}
use Rattle.tool_objects.specs.Answers.{value_of}
use Rattle.tool_objects.proofs.AnswerLemmas.{answers_stated}
use Rattle.tool_objects.proofs.QueryLemmas.{value_there}
use Rattle.tool_objects.proofs.ListCounts.{syms_of_length}
use Rattle.elf_lint_findings.specs.Looking.{if_lent, data_bytes, section_symbols}

module _ {A : Type 0} (refusal : Option ElfError) (l : List A) where
  pub lent : refusal ≡ None → if_lent refusal l ≡ l
  lent is = ap (λ (r : Option ElfError). if_lent r l) is

  pub not_lent : (e : ElfError) → refusal ≡ Some e → if_lent refusal l ≡ []
  not_lent e is = ap (λ (r : Option ElfError). if_lent r l) is

  -- an item
  pub lent_value : (i : ℕ) → value_of (entry_answer refusal l i) ≡ slice_get (if_lent refusal l) i
  lent_value i = by_refusal refusal
    where
      by_refusal : (r : Option ElfError) → value_of (entry_answer r l i) ≡ slice_get (if_lent r l) i
      by_refusal None = value_there None l i refl
      by_refusal (Some e) = refl

module _ {A : Type 0} (told : Bool) (wants : Wants) where
  -- ---- All of them

  lent_all : (refusal : Option ElfError) (l x : List A) → Answers told wants (Ok x) (answered refusal l) → IsTrue told → x ≡ if_lent refusal l
  lent_all refusal l x came is =
      let value = answered_value refusal l x (came.1 is) in
      value.1 ∙ sym (lent refusal l value.0)

  lent_none : (refusal : Option ElfError) (l : List A) (e : ElfError) → stop_of e ≡ None → Answers told wants (Err e) (answered refusal l) → if_lent refusal l ≡ []
  lent_none refusal l e none came = not_lent refusal l e (answered_refusal refusal l e (answers_stated told wants e (answered refusal l) came none))

module _ (o : Object) (s : ℕ) where
  module _ (told : Bool) (wants : Wants) where
    pub bytes_told : (x : List ℕ) → Answers told wants (Ok x) (answered (lend_refusal o kinds.Bytes s 0) (bytes_of (items_at o s 0))) → IsTrue told → x ≡ data_bytes o s
    unfolding data_bytes
    bytes_told x came is = lent_all told wants (lend_refusal o kinds.Bytes s 0) (bytes_of (items_at o s 0)) x came is

    pub no_bytes : (e : ElfError) → stop_of e ≡ None → Answers told wants (Err e) (answered (lend_refusal o kinds.Bytes s 0) (bytes_of (items_at o s 0))) → data_bytes o s ≡ []
    unfolding data_bytes
    no_bytes e none came = lent_none told wants (lend_refusal o kinds.Bytes s 0) (bytes_of (items_at o s 0)) e none came

  -- ---- How many there are

  module _ {A : Type 0} (k : Kind) (list_of : Items → List A) where
    pub lent_count : ((items : Items) → items_kind items ≡ k → length (list_of items) ≡ items_count items) → (n : ℕ) → Ok n ≡ answered (lend_refusal o k s 0) (count_at o s 0)
        → (lend_refusal o k s 0 ≡ None) × (n ≡ length (list_of (items_at o s 0)))
    unfolding count_at
    lent_count counted n is =
        let value = answered_value (lend_refusal o k s 0) (count_at o s 0) n (sym is) in
        (value.0, value.1 ∙ sym (counted (items_at o s 0) (lend_kind o k s 0 value.0)))

    pub no_count : (e : ElfError) → Err e ≡ answered (lend_refusal o k s 0) (count_at o s 0) → if_lent (lend_refusal o k s 0) (list_of (items_at o s 0)) ≡ []
    no_count e is = not_lent (lend_refusal o k s 0) (list_of (items_at o s 0)) e (answered_refusal (lend_refusal o k s 0) (count_at o s 0) e (sym is))

  pub symbols_are : lend_refusal o kinds.Sym s 0 ≡ None → section_symbols o s ≡ syms_of (items_at o s 0)
  unfolding section_symbols
  symbols_are passed = lent (lend_refusal o kinds.Sym s 0) (syms_of (items_at o s 0)) passed

  pub symbols_counted : (n : ℕ) → Ok n ≡ answered (lend_refusal o kinds.Sym s 0) (count_at o s 0) → (lend_refusal o kinds.Sym s 0 ≡ None) × (n ≡ length (section_symbols o s))
  symbols_counted n is =
      let count = lent_count kinds.Sym syms_of syms_of_length n is in
      (count.0, count.1 ∙ ap length (sym (symbols_are count.0)))
