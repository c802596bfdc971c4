-- What rehash makes of an object is an object.
use Rattle.std.proofs.Common.{◌≡◌, ℕ, ◌+◌, ◌^◌, ◌<◌, ◌≤◌, Bool, true, false, List, [], ◌∷◌, length, Option, Some, None, Result, Ok, Err, refl, ap, subst, arith}
use Rattle.std.specs.Prelude.{nat_le, slice_index_or, if◌then◌else◌}
use Rattle.std.specs.List.{enumerate_from, range_with_len}
use Rattle.std.proofs.lemmas.Bool.{leb-false}
use Rattle.std.proofs.lemmas.List.{length-map}
use Rattle.std.proofs.lemmas.List.FromFn.{length-enumerate_from, length-range_with_len}
use Rattle.elf_types.specs.Answers.{refused_if, answered, ◌>>=◌}
use Rattle.elf_types.specs.declared.records.Kind.TheVariants as kinds
use Rattle.elf_types.specs.declared.records.Part.TheVariants as part
use Rattle.elf_types.specs.declared.records.TheConstants.{LAYOUT}
use Rattle.elf_types.specs.declared.errors.ElfError.{ElfError}
use Rattle.elf_types.specs.declared.errors.ElfError.TheVariants.{TooMany}
use Rattle.hash_model.specs.elf_xlate.declared.content.Items.{Items}
use Rattle.hash_model.specs.elf_xlate.declared.content.Items.TheVariants as items
use Rattle.hash_model.specs.elf_xlate.Translation.{items_count}
use Rattle.hash_model.proofs.elf_ident.Refusals.{answered_ok, bind_ok}
use Rattle.hash_model.specs.elf_layout.Meeting.{inserted_by, sorted_by}
use Rattle.hash_model.specs.elf_object.Object.{Object}
use Rattle.hash_model.specs.elf_object.Answers.{items_at, count_at, syms_of, bytes_of, words_of, lend_refusal, flags_of, part_refusal}
use Rattle.hash_model.specs.elf_object.Calls.{data_answer, replace, flag, flag_refusal}
use Rattle.hash_model.specs.elf_object.Steps.{with_layout, with_flags}
use Rattle.hash_model.specs.elf_object.Valid.{IsObject}
use Rattle.hash_model.proofs.elf_object.PassedLaws.{none_first, none_rest, not_refused, step_ok}
use Rattle.law_object.proofs.KeepLaws.{replace_keeps, flag_keeps}
use Rattle.hash_model.specs.elf_object.Sections.{is_program}
use Rattle.hash_model.specs.Hashes.{gnu_hash}
use Rattle.hash_model.specs.Listed.{listed_name, listed_names}
use Rattle.hash_model.specs.BuiltHashes.{buckets_of, order_key, gnu_order_of, hash_refusal, gnu_order_answer, build_gnu_answer, build_sysv_answer}
use Rattle.hash_model.specs.Reordered.{reordered, reorder_refusal}
use Rattle.rebuild_model.specs.Rehashed.RehashFault.{NoDynamicHash}
use Rattle.rebuild_model.specs.Rehashed.{dynamic_symbols, gnu_section, sysv_section, shape_of, nbucket_of, with_gnu, with_sysv, where_there, laid_out, RehashFault, or_fault, rehashed_at, rehashed}
use Rattle.law_rebuild.proofs.strip.CopyLaws.{edited_keeps}
use Rattle.law_rebuild.proofs.strip.OrderLaws.{reordered_is_object}

-- ---- The order has as many numbers as there are symbols, and these are few

inserted_few : (key : ℕ → ℕ) (x : ℕ) (l : List ℕ) → length (inserted_by key x l) ≤ length l + 1
inserted_few key x [] = omega arith
inserted_few key x (y ∷ l) = by_test (nat_le (key x) (key y)) (inserted_few key x l)
  where
    by_test : (b : Bool) → length (inserted_by key x l) ≤ length l + 1
        → length (if b then x ∷ y ∷ l else y ∷ inserted_by key x l) ≤ length (y ∷ l) + 1
    by_test true rest = omega arith
    by_test false rest = omega (arith, rest)

sorted_few : (key : ℕ → ℕ) (l : List ℕ) → length (sorted_by key l) ≤ length l
sorted_few key [] = omega arith
sorted_few key (x ∷ l) =
    omega (arith, inserted_few key x (sorted_by key l), sorted_few key l)

syms_few : (l : Items) → length (syms_of l) ≤ items_count l
syms_few items.Empty = omega arith
syms_few (items.Bytes l) = omega arith
syms_few (items.Half l) = omega arith
syms_few (items.Word l) = omega arith
syms_few (items.Addr l) = omega arith
syms_few (items.Sym l) = omega arith
syms_few (items.Rel l) = omega arith
syms_few (items.Rela l) = omega arith
syms_few (items.Dyn l) = omega arith

names_few : (o : Object) (s : ℕ) → length (listed_names o s) ≤ count_at o s 0
unfolding listed_names count_at
names_few o s =
    omega (
      arith,
      length-map (enumerate_from 0 (syms_of (items_at o s 0)))
          (λ row. listed_name o s row.0 row.1),
      length-enumerate_from 0 (syms_of (items_at o s 0)),
      syms_few (items_at o s 0),
    )

order_few : (o : Object) (s nbuckets : ℕ) (order : List ℕ)
    → gnu_order_answer o s nbuckets ≡ Ok order → length order ≤ 2 ^ 32
unfolding gnu_order_answer gnu_order_of hash_refusal
order_few o s nbuckets order e =
    let value = answered_ok (hash_refusal o s) (gnu_order_of nbuckets (listed_names o s)) order e in
    let many = none_first (refused_if (nat_le (2 ^ 32) (count_at o s 0)) TooMany) []
    (none_rest (lend_refusal o kinds.Sym s 0)
    (refused_if (nat_le (2 ^ 32) (count_at o s 0)) TooMany ∷ []) value.0) in
    let buckets = buckets_of gnu_hash nbuckets (listed_names o s) in
    let few : count_at o s 0 < 2 ^ 32 =
    leb-false (2 ^ 32) (count_at o s 0)
    (not_refused (nat_le (2 ^ 32) (count_at o s 0)) TooMany many) in
    omega (
      arith,
      few,
      names_few o s,
      ap length value.1,
      sorted_few (λ i. order_key (slice_index_or buckets i None))
          (range_with_len 0 (length (listed_names o s))),
      length-range_with_len 0 (length (listed_names o s)),
    )

-- ---- The steps

gnu_keeps : (o : Object) (s g : ℕ) (p : Object) → IsObject o → with_gnu o s g ≡ Ok p
    → IsObject p
unfolding with_gnu
gnu_keeps o s g p ok e =
    let old = bind_ok (data_answer o g 0) _ p e in
    let shape = shape_of o.header.class o.header.order (bytes_of old.0) in
    let order = bind_ok (gnu_order_answer o s shape.nbuckets) _ p old.2 in
    let sorted = bind_ok (answered (reorder_refusal o s) (reordered o s order.0)) _ p order.2 in
    let value = answered_ok (reorder_refusal o s) (reordered o s order.0) sorted.0 sorted.1 in
    let bytes = bind_ok (build_gnu_answer sorted.0 s shape) _ p sorted.2 in
    let is = subst IsObject value.1
    (reordered_is_object o s order.0 ok (order_few o s shape.nbuckets order.0 order.1)) in
    edited_keeps (replace g 0 (items.Bytes bytes.0)) sorted.0 p
    (replace_keeps g 0 (items.Bytes bytes.0)) is bytes.2

sysv_keeps : (o : Object) (s h : ℕ) (p : Object) → IsObject o → with_sysv o s h ≡ Ok p
    → IsObject p
unfolding with_sysv
sysv_keeps o s h p ok e =
    let old = bind_ok (data_answer o h 0) _ p e in
    let words = bind_ok (build_sysv_answer o s (nbucket_of (words_of old.0))) _ p old.2 in
    edited_keeps (replace h 0 (items.Word words.0)) o p
    (replace_keeps h 0 (items.Word words.0)) ok words.2

there_keeps : (change : Object → ℕ → Result Object ElfError)
    → ((o : Object) (n : ℕ) (p : Object) → IsObject o → change o n ≡ Ok p → IsObject p)
    → (found : Option ℕ) (o p : Object) → IsObject o → where_there change found o ≡ Ok p
    → IsObject p
there_keeps change keeps None o p ok e = let same : o ≡ p = cc in subst IsObject same ok
there_keeps change keeps (Some n) o p ok e = keeps o n p ok e

-- setting ELF_F_LAYOUT is a step
laid_out_is : (o : Object) → IsObject o → IsObject (laid_out o)
unfolding flag_refusal part_refusal with_flags
laid_out_is o ok = by_test (is_program o)
  where
    by_test : (b : Bool) → IsObject (if b then with_layout o true else o)
    by_test true =
        let layout = flag part.Object true LAYOUT in
        subst IsObject
        (step_ok layout o (flags_of (with_flags o part.Object true LAYOUT) part.Object) refl)
        (flag_keeps part.Object true LAYOUT o ok)
    by_test false = ok

or_fault_ok : (r : Result Object ElfError) (p : Object) → or_fault r ≡ Ok p → r ≡ Ok p
or_fault_ok (Ok q) p e = cc
or_fault_ok (Err d) p e = cc

-- ---- Both

both_keep : (o : Object) (s : ℕ) (g h : Option ℕ) (p : Object) → IsObject o
    → or_fault (where_there (λ q n. with_gnu q s n) g o >>= λ q.
    where_there (λ x n. with_sysv x s n) h q >>= λ x.
    Ok (laid_out x)) ≡ Ok p
    → IsObject p
both_keep o s g h p ok e =
    let whole = or_fault_ok _ p e in
    let first = bind_ok (where_there (λ q n. with_gnu q s n) g o) _ p whole in
    let second = bind_ok (where_there (λ x n. with_sysv x s n) h first.0) _ p first.2 in
    let same : laid_out second.0 ≡ p = let both = second.2 in cc in
    subst IsObject same
    (laid_out_is second.0
    (there_keeps (λ x n. with_sysv x s n) (λ x n q is made. sysv_keeps x s n q is made) h first.0
    second.0
    (there_keeps (λ q n. with_gnu q s n) (λ q n x is made. gnu_keeps q s n x is made) g o first.0
    ok first.1)
    second.1))

at_keeps : (o : Object) (s : ℕ) (g h : Option ℕ) (p : Object) → IsObject o
    → rehashed_at o s g h ≡ Ok p → IsObject p
unfolding rehashed_at
at_keeps o s None None p ok e = cc
at_keeps o s None (Some h) p ok e = both_keep o s None (Some h) p ok e
at_keeps o s (Some g) None p ok e = both_keep o s (Some g) None p ok e
at_keeps o s (Some g) (Some h) p ok e = both_keep o s (Some g) (Some h) p ok e

pub rehashed_is_object : (o p : Object) → IsObject o → rehashed o ≡ Ok p → IsObject p
unfolding rehashed
rehashed_is_object o p ok e = by_table (dynamic_symbols o) e
  where
    by_table : (table : Option ℕ)
        → ◌≡◌ {A = Result Object RehashFault} (elim table [
          | None ↦ Err NoDynamicHash
          | Some s ↦ rehashed_at o s (gnu_section o s) (sysv_section o s)
        ]) (Ok p)
        → IsObject p
    by_table None h = cc
    by_table (Some s) h = at_keeps o s (gnu_section o s) (sysv_section o s) p ok h
