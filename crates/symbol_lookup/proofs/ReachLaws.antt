-- Hash reach: in a hash section that is whole, a lookup finds what a search among all symbols finds.
use Rattle.std.proofs.Common.{◌≡◌, ℕ, ◌+◌, ◌*◌, ◌%◌, ◌<◌, Bool, true, false, List, [], ◌∷◌, length, get_or, Option, Some, None, Result, Ok, refl, sym, ap, ◌∙◌, subst}
use Rattle.std.specs.List.{position}
use Rattle.std.proofs.lemmas.Bool.{both_ways}
use Rattle.elf_types.specs.Answers.{answered, first_refusal, ◌>>=◌}
use Rattle.elf_types.specs.declared.records.Class.{Class}
use Rattle.elf_types.specs.declared.records.Order.{Order}
use Rattle.elf_types.specs.declared.records.Kind.TheVariants as kinds
use Rattle.elf_types.specs.declared.errors.ElfError.{ElfError}
use Rattle.hash_model.specs.elf_object.Words.{result_map}
use Rattle.hash_model.specs.elf_object.Object.{Object}
use Rattle.hash_model.specs.elf_object.Answers.{bytes_of, words_of, items_at, count_at, lend_refusal}
use Rattle.hash_model.specs.elf_object.Strings.{is_name}
use Rattle.hash_model.specs.Hashes.{elf_hash, gnu_hash}
use Rattle.hash_model.specs.elf_object.Sections.{is_among}
use Rattle.hash_model.specs.HashSections.{is_on, is_on_with, gnu_in, gnu_chain_from}
use Rattle.hash_model.specs.Listed.{listed_names, find_linear_answer}
use Rattle.symbol_lookup.specs.declared.walks.WalkStart.{WalkStart}
use Rattle.symbol_lookup.specs.declared.walks.Links.TheVariants as links
use Rattle.symbol_lookup.specs.Walks.{walk_from, least_of, nowhere, has_bits}
use Rattle.symbol_lookup.specs.Lookups.{link_of, is_match, next_on, found_from, linked_refusal, sysv_refusal, gnu_refusal, sysv_found, gnu_found, find_sysv_answer, find_gnu_answer}
use Rattle.symbol_lookup.specs.Laws.{IsWholeSysv, IsWholeGnu, HashReach}
use Rattle.symbol_lookup.proofs.LinearLaws.{count_is}
use Rattle.symbol_lookup.proofs.LeastLaws.{first_of_all}
use Rattle.symbol_lookup.proofs.SysvReach as sysv
use Rattle.symbol_lookup.proofs.GnuReach as gnu

-- ---- A chain on which are all symbols of a name

module _ (o : Object) (h : ℕ) (name : List ℕ) where
  abbrev linked : ℕ
  linked = link_of o h

  abbrev names : List (Option (List ℕ))
  names = listed_names o linked

  -- what a walk over that chain finds is what is found among all symbols
  found_is : (start : WalkStart) (l : List ℕ) → lend_refusal o kinds.Sym linked 0 ≡ None
      → walk_from (next_on o h start.links) (length names) start.step.at start.step.symbol ≡ Ok l
      → ((k : ℕ) → k < length names → get_or names k None ≡ Some name → is_among l k ≡ true)
      → found_from o h linked name start ≡ Ok (position (is_name name) names)
  unfolding found_from is_match
  found_is start l passed walked reached =
      ap (λ (n : ℕ). result_map (least_of (is_match o linked name)) (walk_from (next_on o h start.links) n start.step.at start.step.symbol)) (count_is o linked (count_at o linked 0) name passed refl)
      ∙ ap (result_map (least_of (is_match o linked name))) walked
      ∙ ap Ok (first_of_all name names l reached)

  sysv_is : IsWholeSysv o h → sysv_found o h name ≡ Ok (position (is_name name) names)
  unfolding sysv_found next_on
  sysv_is whole =
      let words : List ℕ = words_of (items_at o h 0) in
      let nbucket : ℕ = get_or words 0 0 in
      let hash : ℕ = elf_hash name in
      let start : WalkStart = record { links = links.Sysv nbucket (length names); step = record { at = 4 * (2 + hash % nbucket); symbol = get_or words (2 + hash % nbucket) 0 } } in
      let w = sysv.is_whole words names whole.whole in
      let chain = w.chain hash in
      ap (λ (r : Result WalkStart ElfError). r >>= found_from o h linked name) (sysv.start_is words nbucket (length names) hash refl w.symbols w.some w.count)
      ∙ found_is start chain.0 whole.symbols
      (sysv.chain_walked words nbucket (length names) w.count (length names) (4 * (2 + hash % nbucket)) (get_or words (2 + hash % nbucket) 0) chain.0 chain.1)
      (λ k below at. subst (λ (c : Option (List ℕ)). is_on k c ≡ true) chain.1 (w.within k name below at))

  module _ (whole : IsWholeGnu o h) where
    abbrev class : Class
    class = o.header.class

    abbrev order : Order
    order = o.header.order

    abbrev bytes : List ℕ
    bytes = bytes_of (items_at o h 0)

    abbrev hash : ℕ
    hash = gnu_hash name

    abbrev passes : Bool
    passes = has_bits class (gnu.head class order bytes) hash (gnu.bloom_word class order bytes hash)

    w : gnu.IsWhole class order bytes names
    w = gnu.is_whole class order bytes names whole.whole

    chain : (rows : List (ℕ × ℕ)) × (gnu_chain_from (gnu_in class order bytes) (length names) (gnu.first class order bytes hash) ≡ Some rows)
    chain = w.chain hash

    by_bloom : (b : Bool) → passes ≡ b → gnu_found o h name ≡ Ok (position (is_name name) names)
    unfolding gnu_found next_on walk_from
    by_bloom true is =
        ap (λ (r : Result WalkStart ElfError). r >>= found_from o h linked name) (gnu.starts_there class order bytes w.long w.buckets w.bloom w.there hash is (gnu.chain_starts class order bytes (length names) (gnu.first class order bytes hash) chain.0 chain.1))
        ∙ found_is (gnu.start class order bytes hash) (gnu.symbols_of chain.0) whole.symbols
        (gnu.chain_from_walked class order bytes (length names) (gnu.start class order bytes hash).step.at (gnu.first class order bytes hash) chain.0 chain.1)
        (λ k below at. gnu.on_chain k hash chain.0 (subst (λ (c : Option (List (ℕ × ℕ))). is_on_with k hash c ≡ true) chain.1 (w.within k name below at)))
    by_bloom false is =
        ap (λ (r : Result WalkStart ElfError). r >>= found_from o h linked name) (gnu.starts_nowhere class order bytes w.long w.buckets w.bloom w.there hash is)
        ∙ found_is nowhere [] whole.symbols refl
        (λ k below at. absurd (both_ways passes is (w.passes k name below at)))

-- ---- Both ways to look a name up

sysv_reach : (o : Object) (h : ℕ) (name : List ℕ) → IsWholeSysv o h → find_sysv_answer o h name ≡ find_linear_answer o (link_of o h) name
unfolding find_sysv_answer find_linear_answer sysv_refusal
sysv_reach o h name whole =
    ap (λ (r : Option ElfError). answered (first_refusal (r ∷ linked_refusal o h ∷ [])) (tt {0}) >>= (λ _. sysv_found o h name)) whole.words
    ∙ ap (λ (r : Option ElfError). answered (first_refusal (r ∷ [])) (tt {0}) >>= (λ _. sysv_found o h name)) whole.symbols
    ∙ sysv_is o h name whole
    ∙ ap (λ (r : Option ElfError). answered r (position (is_name name) (listed_names o (link_of o h)))) (sym whole.symbols)

gnu_reach : (o : Object) (h : ℕ) (name : List ℕ) → IsWholeGnu o h → find_gnu_answer o h name ≡ find_linear_answer o (link_of o h) name
unfolding find_gnu_answer find_linear_answer gnu_refusal
gnu_reach o h name whole =
    ap (λ (r : Option ElfError). answered (first_refusal (r ∷ linked_refusal o h ∷ [])) (tt {0}) >>= (λ _. gnu_found o h name)) whole.bytes
    ∙ ap (λ (r : Option ElfError). answered (first_refusal (r ∷ [])) (tt {0}) >>= (λ _. gnu_found o h name)) whole.symbols
    ∙ by_bloom o h name whole (passes o h name whole) refl
    ∙ ap (λ (r : Option ElfError). answered r (position (is_name name) (listed_names o (link_of o h)))) (sym whole.symbols)

pub hash_reach : HashReach
hash_reach = record { sysv = sysv_reach; gnu = gnu_reach }
