-- How many words a section has, and how many bytes where they are not told.
use Rattle.std.proofs.Common.{◌≡◌, ℕ, List, length, Option, Some, None, Ok, refl, sym, ap, ◌∙◌}
use Rattle.elf_types.specs.Answers.{answered}
use Rattle.elf_types.specs.declared.errors.ElfError.{ElfError}
use Rattle.elf_types.specs.declared.records.Kind.TheVariants as kinds
use Rattle.elf_xlate.specs.declared.content.Items.{Items}
use Rattle.elf_xlate.specs.declared.content.Items.TheVariants as items
use Rattle.elf_xlate.specs.Translation.{items_kind, items_count}
use Rattle.hash_model.specs.elf_object.Words.{IsLike, AlikeBytes}
use Rattle.hash_model.specs.elf_object.Object.{Object}
use Rattle.hash_model.specs.elf_object.Answers.{items_at, count_at, lend_refusal, words_of}
use Rattle.elf_lint_findings.specs.Looking.{if_lent, section_words}
use Rattle.elf_lint_findings.proofs.LentLemmas.{lent, lent_count}

pub as_many_bytes : (v : List ℕ) (refusal : Option ElfError) (x : List ℕ) → IsLike AlikeBytes (Ok x) (answered refusal v) → length x ≡ length (if_lent refusal v)
as_many_bytes v None x like = like
as_many_bytes v (Some e) x like = absurd like

word_count : (l : Items) → items_kind l ≡ kinds.Word → length (words_of l) ≡ items_count l
word_count (items.Word l) is = refl
word_count l is = cc

pub words_counted : (o : Object) (s n : ℕ) → Ok n ≡ answered (lend_refusal o kinds.Word s 0) (count_at o s 0) → n ≡ length (section_words o s)
unfolding section_words
words_counted o s n is =
    let count = lent_count o s kinds.Word words_of word_count n is in
    count.1 ∙ ap length (sym (lent (lend_refusal o kinds.Word s 0) (words_of (items_at o s 0)) count.0))
