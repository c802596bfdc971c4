-- Hash sections that are built are whole, and are looked up as all symbols are.
use Rattle.std.proofs.Common.{◌≡◌, ◌<◌, ℕ, true, List, [], ◌∷◌, Option, Some, None, Ok, refl, ap, ◌∙◌}
use Rattle.std.specs.Option.{option_map}
use Rattle.elf_types.specs.Answers.{first_refusal}
use Rattle.elf_types.specs.declared.errors.ElfError.TheVariants.{Unsorted}
use Rattle.rebuild_model.specs.elf_object.Object.{Object}
use Rattle.rebuild_model.specs.elf_object.Answers.{bytes_of, words_of, items_at}
use Rattle.rebuild_model.proofs.elf_object.AnswerLaws.{answered_value}
use Rattle.rebuild_model.proofs.elf_object.PassedLaws.{none_first, none_rest}
use Rattle.rebuild_model.specs.hash_model.Hashes.{gnu_hash}
use Rattle.rebuild_model.specs.hash_model.HashSections.{sysv_words, gnu_bytes, is_whole_sysv, is_whole_gnu}
use Rattle.rebuild_model.specs.hash_model.Listed.{listed_names, find_linear_answer}
use Rattle.rebuild_model.specs.hash_model.BuiltHashes.{GnuShape, buckets_of, sysv_built, gnu_built, first_unsorted, hash_refusal, unsorted, build_sysv_answer, build_gnu_answer}
use Rattle.rebuild_model.specs.Laws.{IsShape, BuiltHashesAreWhole}
use Rattle.symbol_lookup.specs.Lookups.{link_of, find_sysv_answer, find_gnu_answer}
use Rattle.symbol_lookup.proofs.ReachLaws.{hash_reach}
use Rattle.law_hash.specs.Built.{HoldsSysv, HoldsGnu, BuiltAreFound}
use Rattle.law_hash.proofs.NameLaws.{zero_unlisted}
use Rattle.law_hash.proofs.CountLaws.{symbols_passed, few_names}
use Rattle.law_hash.proofs.SysvBuilt.{sysv_whole}
use Rattle.law_hash.proofs.GnuBuilt.{gnu_whole}

-- ---- What was not refused

no_error : (r : Option ℕ) → option_map Unsorted r ≡ None → r ≡ None
no_error None is = refl
no_error (Some i) is = cc

sorted_by_none : (o : Object) (s nbuckets : ℕ) → unsorted o s nbuckets ≡ None
    → first_unsorted (buckets_of gnu_hash nbuckets (listed_names o s)) ≡ None
unfolding unsorted
sorted_by_none o s nbuckets is =
    no_error (first_unsorted (buckets_of gnu_hash nbuckets (listed_names o s))) is

-- ---- They are whole

pub sysv_stated : (o : Object) (s nbucket : ℕ) (words : List ℕ)
    → build_sysv_answer o s nbucket ≡ Ok words
    → (hash_refusal o s ≡ None) × (words ≡ sysv_words (sysv_built nbucket (listed_names o s)))
unfolding build_sysv_answer
sysv_stated o s nbucket words is =
    answered_value (hash_refusal o s) (sysv_words (sysv_built nbucket (listed_names o s))) words is

sysv_is : (o : Object) (s nbucket : ℕ) (words : List ℕ) → 0 < nbucket
    → build_sysv_answer o s nbucket ≡ Ok words → is_whole_sysv words (listed_names o s) ≡ true
sysv_is o s nbucket words some is =
    ap (λ (l : List ℕ). is_whole_sysv l (listed_names o s))
    (sysv_stated o s nbucket words is).1
    ∙ sysv_whole nbucket (listed_names o s) some (zero_unlisted o s)

module _ (o : Object) (s : ℕ) (shape : GnuShape) (bytes : List ℕ)
    (is : build_gnu_answer o s shape ≡ Ok bytes) where
  abbrev stated : List ℕ
  stated =
      gnu_bytes o.header.class o.header.order
      (gnu_built o.header.class shape (listed_names o s))

  parts : (first_refusal (hash_refusal o s ∷ unsorted o s shape.nbuckets ∷ []) ≡ None)
      × (bytes ≡ stated)
  unfolding build_gnu_answer
  parts =
      answered_value (first_refusal (hash_refusal o s ∷ unsorted o s shape.nbuckets ∷ [])) stated
      bytes is

  gnu_passed : hash_refusal o s ≡ None
  gnu_passed = none_first (hash_refusal o s) (unsorted o s shape.nbuckets ∷ []) parts.0

  gnu_sorted : unsorted o s shape.nbuckets ≡ None
  gnu_sorted =
      none_first (unsorted o s shape.nbuckets) []
      (none_rest (hash_refusal o s) (unsorted o s shape.nbuckets ∷ []) parts.0)

  pub gnu_stated : bytes ≡ stated
  gnu_stated = parts.1

  gnu_is : IsShape shape
      → is_whole_gnu o.header.class o.header.order bytes (listed_names o s) ≡ true
  gnu_is is_shape =
      ap (λ (b : List ℕ). is_whole_gnu o.header.class o.header.order b (listed_names o s)) parts.1
      ∙ gnu_whole o.header.class shape (listed_names o s) is_shape (zero_unlisted o s)
      (sorted_by_none o s shape.nbuckets gnu_sorted) o.header.order (few_names o s gnu_passed)

pub built_are_whole : BuiltHashesAreWhole
built_are_whole = record {
  sysv = λ o s nbucket words some few is. sysv_is o s nbucket words some is;
  gnu = λ o s shape bytes is_shape is. gnu_is o s shape bytes is is_shape;
}

-- ---- They are looked up as all symbols are

sysv_found : (o : Object) (h nbucket : ℕ) (name : List ℕ) → HoldsSysv o h nbucket
    → find_sysv_answer o h name ≡ find_linear_answer o (link_of o h) name
sysv_found o h nbucket name holds =
    hash_reach.sysv o h name (record {
      words = holds.readable;
      symbols = symbols_passed o (link_of o h)
          (sysv_stated o (link_of o h) nbucket (words_of (items_at o h 0)) holds.built).0;
      whole = sysv_is o (link_of o h) nbucket (words_of (items_at o h 0)) holds.some holds.built;
    })

gnu_found : (o : Object) (h : ℕ) (shape : GnuShape) (name : List ℕ) → HoldsGnu o h shape
    → find_gnu_answer o h name ≡ find_linear_answer o (link_of o h) name
gnu_found o h shape name holds =
    hash_reach.gnu o h name (record {
      bytes = holds.readable;
      symbols = symbols_passed o (link_of o h)
          (gnu_passed o (link_of o h) shape (bytes_of (items_at o h 0)) holds.built);
      whole = gnu_is o (link_of o h) shape (bytes_of (items_at o h 0)) holds.built holds.usable;
    })

pub built_are_found : BuiltAreFound
built_are_found = record { sysv = sysv_found; gnu = gnu_found }
