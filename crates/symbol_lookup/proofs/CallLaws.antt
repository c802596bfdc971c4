-- The calls of which a lookup is made, as steps of it.
use Rattle.std.proofs.Common.{◌≡◌, ℕ, zero, suc, ◌*◌, ◌<◌, ◌≤◌, zero-add, Bool, true, false, not, ◌&&◌, List, [], ◌∷◌, length, Option, Some, None, Result, Ok, Err, refl, sym, ap, ◌∙◌, subst, inl, inr, arith}
use Rattle.std.specs.Prelude.{IsTrue, IfErr, ◌⊎◌, nat_lt, is_none, Contains, slice_index_or, slice_get, if◌then◌else◌, get_or, ◌==◌}
use Rattle.std.specs.List.{list_any}
use Rattle.std.proofs.lemmas.List.{length-map, get_or-map, get_or_past}
use Rattle.std.proofs.lemmas.Bool.{or_left, or_right, lt-ltb, ltb-true}
use Rattle.elf_types.specs.declared.records.Kind.TheVariants as kinds
use Rattle.elf_types.specs.declared.errors.ElfError.{ElfError}
use Rattle.elf_types.specs.declared.errors.ElfError.TheVariants.{Memory, Read, Write, NoEntry, BadChain}
use Rattle.elf_types.specs.Answers.{Follows, IsRefusal, or_refused, answered, err_of}
use Rattle.hash_model.specs.elf_outside.declared.sources.Source.{Ghosts}
use Rattle.hash_model.specs.elf_outside.Asks.{ReadRose}
use Rattle.hash_model.specs.elf_object.Words.{Wants, Answers, AnswersRead, Refusals}
use Rattle.hash_model.specs.elf_object.Object.{Object, section_at, piece_at, home_is_clean}
use Rattle.hash_model.specs.elf_object.Answers.{items_at, words_of, entry_answer, lend_refusal}
use Rattle.hash_model.specs.elf_object.Due.{is_loaded, holds_items, homes_due, is_refused_unread, unless_refused, when_clean, when_piece_clean}
use Rattle.hash_model.specs.elf_object.Calls.{Call, reader, word_answer}
use Rattle.hash_model.specs.elf_object.Calls as calls
use Rattle.gelf_view.specs.Calls as views
use Rattle.hash_model.specs.elf_object.Strings.{string_answer, strptr, symbol_name}
use Rattle.elf_types.specs.declared.records.Sym.{Sym}
use Rattle.std.specs.List.{enumerate_from}
use Rattle.std.proofs.lemmas.Option.{slice_get_cases, slice_get_within, get_or_from_slice_get}
use Rattle.std.proofs.lemmas.List.FromFn.{get_or-enumerate_from, length-enumerate_from}
use Rattle.hash_model.specs.Listed.{listed_name, listed_names, is_defined_global, not_empty}
use Rattle.hash_model.specs.elf_object.Answers.{bytes_of, syms_of}
use Rattle.hash_model.specs.elf_object.Calls.{sym_answer}
use Rattle.hash_model.proofs.elf_object.AnswerLaws.{sym_value}
use Rattle.symbol_lookup.proofs.FollowLaws.{later_follows}
use Rattle.hash_model.specs.elf_object.Strings.{readable, is_name}
use Rattle.gelf_view.specs.elf_descriptor.State.{State}
use Rattle.gelf_view.specs.elf_descriptor.Reads.{Queries, Looks, wanted}
use Rattle.gelf_view.proofs.elf_descriptor.ReadsLaws.{reads_then}
use Rattle.symbol_lookup.specs.Walks.{hash_word}
use Rattle.symbol_lookup.specs.Lookups.{Needs, needs_memory, or_bad, no_match, IsBad, is_match, link_of}
use Rattle.symbol_lookup.specs.Searches.{Searches, MayEnd, IsFree, HasStrings, HasTable, HasWords, HasBytes}
use Rattle.symbol_lookup.proofs.SearchLaws.{IsFew, reads_few, few_due, bad_read, bad_may}

-- ---- Homes that a call reads

unless_few : (refused : Bool) (few l : List ℕ) → IsFew few l → IsFew (if refused then [] else few) l
unless_few true few l is = inl refl
unless_few false few l is = is

when_few : (clean : Bool) (s : ℕ) (l : List ℕ) → (IsTrue clean → Contains l s) → IsFew (if clean then s ∷ [] else []) l
when_few true s l there = inr (s, refl, there refl)
when_few false s l there = inl refl

pub piece_few : (o : Object) (refusal : Option ElfError) (s : ℕ) (l : List ℕ) → (IsTrue (is_none (piece_at o s 0).own) → Contains l s) → IsFew (unless_refused refusal (when_piece_clean o s 0)) l
unfolding when_piece_clean
piece_few o refusal s l there = unless_few (is_refused_unread refusal) _ l (when_few (is_none (piece_at o s 0).own) s l there)

pub strings_few : (o : Object) (refusal : Option ElfError) (s : ℕ) (l : List ℕ) → (IsTrue (home_is_clean (section_at o s)) → Contains l s) → IsFew (unless_refused refusal (when_clean o s)) l
unfolding when_clean
strings_few o refusal s l there = unless_few (is_refused_unread refusal) _ l (when_few (home_is_clean (section_at o s)) s l there)

-- ---- Memory and Read

member_any : (test : ℕ → Bool) (l : List ℕ) (j k : ℕ) → j < length l → slice_index_or l j k ≡ k → IsTrue (test k) → IsTrue (list_any test l)
member_any test [] j k below at is = absurd (omega arith)
member_any test (x ∷ l) zero k below at is = or_left (test x) (list_any test l) (subst (λ (n : ℕ). IsTrue (test n)) (sym at) is)
member_any test (x ∷ l) (suc j) k below at is = or_right (test x) (list_any test l) (member_any test l j k (omega arith) at is)

any_of : (test : ℕ → Bool) (l : List ℕ) (k : ℕ) → Contains l k → IsTrue (test k) → IsTrue (list_any test l)
any_of test l k within is = member_any test l within.0 k within.1 within.2 is

pub memory_by_table : (n : Needs) (o : Object) (loaded held : List Bool) (s : ℕ) → Contains n.tables s → IsTrue (not (holds_items o held s 0)) → IsTrue (needs_memory n o loaded held)
unfolding needs_memory
memory_by_table n o loaded held s within want = or_left _ _ (any_of (λ k. not (holds_items o held k 0)) n.tables s within want)

pub memory_by_home : (n : Needs) (o : Object) (loaded held : List Bool) (s : ℕ) (clean : Bool) → (IsTrue clean → Contains n.homes s) → IsTrue (clean && not (is_loaded loaded s)) → IsTrue (needs_memory n o loaded held)
unfolding needs_memory
memory_by_home n o loaded held s true there want = or_right _ _ (any_of (λ k. not (is_loaded loaded k)) n.homes s (there refl) want)
memory_by_home n o loaded held s false there want = cc

pub read_by_few : (o : Object) (loaded : List Bool) (few l : List ℕ) → IsFew few l → IsTrue (nat_lt 0 (homes_due o loaded few)) → IsTrue (nat_lt 0 (homes_due o loaded l))
read_by_few o loaded few l within want =
    let some = ltb-true 0 (homes_due o loaded few) want in
    let fewer = few_due o loaded few l within in
    lt-ltb 0 (homes_due o loaded l) (omega (arith, some, fewer))

-- ---- Steps

-- a call as a step of a lookup that needs what it reads
pub queries_search : {S A T U : Type 0} (g : Ghosts S) (n : Needs) (c : Call A) (holding : List ℕ) (r : Result T ElfError) (q : Result U ElfError) (old new : State S)
    → IsFew (c.reads old.o) n.homes → IsFew holding n.homes → (IfErr q IsRefusal → IfErr r IsRefusal) → ReadRose q (g.faults old.source) (g.faults new.source) → IfErr q (MayEnd n old)
    → Queries g c holding r old new → Searches g n q old new
queries_search g n c holding r q old new few held settled read ended asked = record {
  object = asked.object;
  reads = reads_few g q old new (c.reads old.o) holding n.homes few held
      (reads_then g r q old new (c.reads old.o) holding (homes_due old.o old.loaded (c.reads old.o)) settled read asked.reads);
  ended = ended;
}

-- how a call that gives an entry ends
pub entry_ended : {S A : Type 0} (n : Needs) (old : State S) (s : ℕ) (answer : Object → Result A ElfError) (told : Bool) (e : ElfError) (stated : Result A ElfError) → Contains n.tables s → (IsTrue (is_none (piece_at old.o s 0).own) → Contains n.homes s)
    → Answers told (wanted (reader s 0 answer) old) (Err e) stated → IsFree e → MayEnd n old e
entry_ended n old s answer told Memory stated table home came free = memory_by_table n old.o old.loaded old.held s table came.0
entry_ended n old s answer told Read stated table home came free = read_by_few old.o old.loaded _ n.homes (piece_few old.o (err_of (answer old.o)) s n.homes home) came.0
entry_ended n old s answer told e stated table home came free = absurd free

-- an entry of a list: what refuses it is that it is not there, or Memory or Read
pub entry_free : {A : Type 0} (told : Bool) (wants : Wants) (refusal : Option ElfError) (l : List A) (i : ℕ) (e : ElfError) → refusal ≡ None → ((j m : ℕ) → e ≡ NoEntry j m → ⊥)
    → Answers told wants (Err e) (entry_answer refusal l i) → IsFree e
entry_free {A} told wants (Some d) l i e passed other came = cc
entry_free {A} told wants None l i e passed other came = by_error e other came
  where
    refused : (there : Option A) (d : ElfError) → ◌≡◌ {A = Result A ElfError} (elim there [ None ↦ Err (NoEntry i (length l)) | Some x ↦ Ok x ]) (Err d) → d ≡ NoEntry i (length l)
    refused None d is = cc
    refused (Some x) d is = cc

    by_error : (e : ElfError) → ((j m : ℕ) → e ≡ NoEntry j m → ⊥) → Answers told wants (Err e) (entry_answer None l i) → IsFree e
    by_error Memory other came = tt
    by_error Read other came = tt
    by_error e other came = absurd (other i (length l) (refused (slice_get l i) e came))

-- ---- Words

pub word_there : (words : List ℕ) (i w : ℕ) → slice_get words i ≡ Some w → hash_word words i ≡ Ok w
unfolding hash_word
word_there words i w is = ap (λ (found : Option ℕ). or_refused found (BadChain (4 * i))) is

pub word_missing : (words : List ℕ) (i j m : ℕ) → entry_answer None words i ≡ Err (NoEntry j m) → hash_word words i ≡ Err (BadChain (4 * i))
unfolding hash_word
word_missing words i j m is = by_there (slice_get words i) refl is
  where
    by_there : (there : Option ℕ) → slice_get words i ≡ there → ◌≡◌ {A = Result ℕ ElfError} (elim there [ None ↦ Err (NoEntry i (length words)) | Some x ↦ Ok x ]) (Err (NoEntry j m)) → or_refused (slice_get words i) (BadChain (4 * i)) ≡ Err (BadChain (4 * i))
    by_there None known is = ap (λ (found : Option ℕ). or_refused found (BadChain (4 * i))) known
    by_there (Some x) known is = cc

-- ---- Refusals in another form

pub or_bad_other : (at : ℕ) (e : ElfError) → (e ≡ Memory → ⊥) → (e ≡ Read → ⊥) → or_bad at e ≡ BadChain at
unfolding or_bad
or_bad_other at Memory memory read = absurd (memory refl)
or_bad_other at Read memory read = absurd (read refl)
or_bad_other at e memory read = refl

pub no_match_other : (e : ElfError) → (e ≡ Memory → ⊥) → (e ≡ Read → ⊥) → no_match e ≡ Ok false
unfolding no_match
no_match_other Memory memory read = absurd (memory refl)
no_match_other Read memory read = absurd (read refl)
no_match_other e memory read = refl

-- ---- A word that is refused

word_gone : (words : List ℕ) (i : ℕ) (e : ElfError) → entry_answer None words i ≡ Err e → hash_word words i ≡ Err (BadChain (4 * i))
unfolding hash_word
word_gone words i e is = by_there (slice_get words i) refl is
  where
    by_there : (there : Option ℕ) → slice_get words i ≡ there → ◌≡◌ {A = Result ℕ ElfError} (elim there [ None ↦ Err (NoEntry i (length words)) | Some x ↦ Ok x ]) (Err e) → or_refused (slice_get words i) (BadChain (4 * i)) ≡ Err (BadChain (4 * i))
    by_there None known is = ap (λ (found : Option ℕ). or_refused found (BadChain (4 * i))) known
    by_there (Some x) known is = cc

module _ (o : Object) (h i : ℕ) (passed : lend_refusal o kinds.Word h 0 ≡ None) where
  pub word_ends : (told : Bool) (wants : Wants) (e : ElfError) → Answers told wants (Err e) (word_answer o h 0 i) → Follows {T = ℕ} (Err (or_bad (4 * i) e)) (hash_word (words_of (items_at o h 0)) i)
  unfolding word_answer or_bad
  word_ends told wants e came = by_error e (subst (λ (r : Option ElfError). Answers told wants (Err e) (entry_answer r (words_of (items_at o h 0)) i)) passed came)
    where
      by_error : (e : ElfError) → Answers told wants (Err e) (entry_answer None (words_of (items_at o h 0)) i) → Follows {T = ℕ} (Err (or_bad (4 * i) e)) (hash_word (words_of (items_at o h 0)) i)
      by_error Memory came = tt
      by_error Read came = tt
      by_error e came = word_gone (words_of (items_at o h 0)) i e came

module _ {S : Type 0} (g : Ghosts S) (n : Needs) (old new : State S) (h i : ℕ) where
  pub word_found : (x : ℕ) → HasWords n old.o h → Looks {T = ℕ} g (calls.word h 0 i) (Ok x) old new → Searches {T = ℕ} g n (Ok x) old new
  word_found x has looks =
      let few = piece_few old.o (err_of (word_answer old.o h 0 i)) h n.homes has.home in
      queries_search g n (calls.word h 0 i) _ (Ok x) (Ok x) old new few few (λ is. is) tt tt looks

  pub word_lost : (told : Bool) (e : ElfError) → HasWords n old.o h → Answers told (wanted (calls.word h 0 i) old) (Err e) (word_answer old.o h 0 i) → Looks {T = ℕ} g (calls.word h 0 i) (Err e) old new → Searches {T = ℕ} g n (Err (or_bad (4 * i) e)) old new
  unfolding or_bad
  word_lost told e has came looks = by_error e came looks
    where
      few : IsFew ((calls.word h 0 i).reads old.o) n.homes
      few = piece_few old.o (err_of (word_answer old.o h 0 i)) h n.homes has.home

      by_error : (e : ElfError) → Answers told (wanted (calls.word h 0 i) old) (Err e) (word_answer old.o h 0 i) → Looks {T = ℕ} g (calls.word h 0 i) (Err e) old new → Searches {T = ℕ} g n (Err (or_bad (4 * i) e)) old new
      by_error Memory came looks = queries_search g n (calls.word h 0 i) _ (Err Memory) (Err Memory) old new few few (λ is. is) tt (memory_by_table n old.o old.loaded old.held h has.table came.0) looks
      by_error Read came looks = queries_search g n (calls.word h 0 i) _ (Err Read) (Err Read) old new few few (λ is. is) looks.reads.source.read (read_by_few old.o old.loaded _ n.homes few came.0) looks
      by_error Write came looks = absurd looks.reads.source.read
      by_error e came looks = queries_search g n (calls.word h 0 i) _ (Err e) (Err (BadChain (4 * i))) old new few few (λ is. tt) tt has.chain looks

-- ---- Strings

module _ {S : Type 0} (g : Ghosts S) (n : Needs) (old new : State S) (s offset : ℕ) (has : HasStrings n old.o s) where
  abbrev string_call : Call (List ℕ)
  string_call = strptr s offset

  few_strings : IsFew ((strptr s offset).reads old.o) n.homes
  few_strings = strings_few old.o (err_of (string_answer old.o s offset)) s n.homes has

  pub string_found : {T U : Type 0} (r : Result T ElfError) (x : T) (y : U) → r ≡ Ok x → Queries g (strptr s offset) [] r old new → Searches {T = U} g n (Ok y) old new
  string_found r x y is asked = queries_search g n (strptr s offset) [] r (Ok y) old new few_strings (inl refl) (λ h. subst (λ r. IfErr r IsRefusal) (sym is) tt) tt tt asked

  pub string_lost : {T : Type 0} (told : Bool) (refusals : Refusals) (e : ElfError) (stated : Result (List ℕ) ElfError) (r : Result T ElfError) → r ≡ Err e → AnswersRead told (wanted (strptr s offset) old) refusals (Err e) stated
      → Queries g (strptr s offset) [] r old new → Searches {T = Bool} g n (no_match e) old new
  unfolding no_match
  string_lost {T} told refusals e stated r is came asked = by_error e came (subst (λ (r : Result T ElfError). Queries g (strptr s offset) [] r old new) is asked)
    where
      by_error : (e : ElfError) → AnswersRead told (wanted (strptr s offset) old) refusals (Err e) stated → Queries {T = T} g (strptr s offset) [] (Err e) old new → Searches {T = Bool} g n (no_match e) old new
      by_error Memory came asked = queries_search g n (strptr s offset) [] (Err Memory) (Err Memory) old new few_strings (inl refl) (λ h. h) tt (memory_by_home n old.o old.loaded old.held s (home_is_clean (section_at old.o s)) has came.1) asked
      by_error Read came asked = queries_search g n (strptr s offset) [] (Err Read) (Err Read) old new few_strings (inl refl) (λ h. h) asked.reads.source.read (read_by_few old.o old.loaded _ n.homes few_strings came.1) asked
      by_error Write came asked = absurd asked.reads.source.read
      by_error e came asked = queries_search g n (strptr s offset) [] (Err e) (Ok false) old new few_strings (inl refl) (λ h. tt) tt tt asked

pub string_none : (told : Bool) (wants : Wants) (refusals : Refusals) (e : ElfError) (stated : Result (List ℕ) ElfError) (name : List ℕ) → IsTrue told → AnswersRead told wants refusals (Err e) stated → Follows {T = Bool} (no_match e) (Ok (is_name name (readable stated)))
unfolding no_match
string_none told wants refusals Memory stated name is came = tt
string_none told wants refusals Read stated name is came = tt
string_none told wants refusals e stated name is (inl early) = ap (λ (r : Result (List ℕ) ElfError). Ok (is_name name (readable r))) early.1
string_none told wants refusals e stated name is (inr late) = ap (λ (r : Result (List ℕ) ElfError). Ok (is_name name (readable r))) (late.2 is)

-- ---- Symbols

slice_get_none : {A : Type 0} (l : List A) (i : ℕ) → slice_get l i ≡ None → length l ≤ i
slice_get_none {A} l i is = by_case (slice_get_cases l i).1
  where
    by_case : ((x : A) × (i < length l) × (slice_get l i ≡ Some x) × (get_or l i x ≡ x)) ⊎ ((length l ≤ i) × (slice_get l i ≡ None)) → length l ≤ i
    by_case (inl (x, below, there, at)) = let never = sym is ∙ there in cc
    by_case (inr (past, none)) = past

pub listed_length : (o : Object) (s : ℕ) → length (listed_names o s) ≡ length (syms_of (items_at o s 0))
unfolding listed_names
listed_length o s = length-map (enumerate_from 0 (syms_of (items_at o s 0))) (λ row. listed_name o s row.0 row.1) ∙ length-enumerate_from 0 (syms_of (items_at o s 0))

pub symbol_is : (o : Object) (s i : ℕ) (x : Sym) (name : List ℕ) → slice_get (syms_of (items_at o s 0)) i ≡ Some x → is_match o s name i ≡ is_name name (listed_name o s i x)
unfolding is_match listed_names
symbol_is o s i x name there =
    let syms = syms_of (items_at o s 0) in
    let below = slice_get_within syms i x there in
    let count = length-enumerate_from 0 syms in
    ap (is_name name)
    (get_or-map (λ row. listed_name o s row.0 row.1) (enumerate_from 0 syms) i (0, x) None (omega (arith, below, count))
    ∙ ap (λ (row : ℕ × Sym). listed_name o s row.0 row.1) (get_or-enumerate_from 0 syms i (0, x) below)
    ∙ ap (λ (k : ℕ). listed_name o s k (get_or syms i x)) (zero-add i)
    ∙ ap (listed_name o s i) (get_or_from_slice_get syms i x x there))

pub symbol_gone : (o : Object) (s i : ℕ) (name : List ℕ) → length (syms_of (items_at o s 0)) ≤ i → is_match o s name i ≡ false
unfolding is_match
symbol_gone o s i name past = ap (is_name name) (get_or_past (listed_names o s) i None (omega (arith, past, listed_length o s)))

module _ {S : Type 0} (g : Ghosts S) (n : Needs) (old new : State S) (s i : ℕ) (has : HasTable n old.o s) where
  few_symbols : IsFew ((calls.sym s 0 i).reads old.o) n.homes
  few_symbols = piece_few old.o (err_of (sym_answer old.o s 0 i)) s n.homes has.home

  pub symbol_found : (x : Sym) → Looks {T = Sym} g (calls.sym s 0 i) (Ok x) old new → Searches {T = Sym} g n (Ok x) old new
  symbol_found x looks = queries_search g n (calls.sym s 0 i) _ (Ok x) (Ok x) old new few_symbols few_symbols (λ is. is) tt tt looks

  pub symbol_lost : (told : Bool) (e : ElfError) (stated : Result Sym ElfError) → Answers told (wanted (calls.sym s 0 i) old) (Err e) stated → Looks {T = Sym} g (calls.sym s 0 i) (Err e) old new → Searches {T = Bool} g n (no_match e) old new
  unfolding no_match
  symbol_lost told Memory stated came looks = queries_search g n (calls.sym s 0 i) _ (Err Memory) (Err Memory) old new few_symbols few_symbols (λ is. is) tt (memory_by_table n old.o old.loaded old.held s has.table came.0) looks
  symbol_lost told Read stated came looks = queries_search g n (calls.sym s 0 i) _ (Err Read) (Err Read) old new few_symbols few_symbols (λ is. is) looks.reads.source.read (read_by_few old.o old.loaded _ n.homes few_symbols came.0) looks
  symbol_lost told Write stated came looks = absurd looks.reads.source.read
  symbol_lost told e stated came looks = queries_search g n (calls.sym s 0 i) _ (Err e) (Ok false) old new few_symbols few_symbols (λ is. tt) tt tt looks

pub symbol_none : (o : Object) (s i : ℕ) (name : List ℕ) (told : Bool) (wants : Wants) (e : ElfError) → lend_refusal o kinds.Sym s 0 ≡ None → Answers told wants (Err e) (sym_answer o s 0 i) → Follows {T = Bool} (no_match e) (Ok (is_match o s name i))
unfolding sym_answer no_match
symbol_none o s i name told wants e passed came = by_error e (subst (λ (r : Option ElfError). Answers told wants (Err e) (entry_answer r (syms_of (items_at o s 0)) i)) passed came)
  where
    gone : (e : ElfError) (there : Option Sym) → slice_get (syms_of (items_at o s 0)) i ≡ there → ◌≡◌ {A = Result Sym ElfError} (elim there [ None ↦ Err (NoEntry i (length (syms_of (items_at o s 0)))) | Some x ↦ Ok x ]) (Err e) → is_match o s name i ≡ false
    gone e None known is = symbol_gone o s i name (slice_get_none (syms_of (items_at o s 0)) i known)
    gone e (Some x) known is = cc

    by_error : (e : ElfError) → Answers told wants (Err e) (entry_answer None (syms_of (items_at o s 0)) i) → Follows {T = Bool} (no_match e) (Ok (is_match o s name i))
    by_error Memory came = tt
    by_error Read came = tt
    by_error e came = ap Ok (gone e (slice_get (syms_of (items_at o s 0)) i) refl came)

-- a symbol that came, and then its name
pub symbol_named : {S : Type 0} (old mid : State S) (s i strings : ℕ) (x : Sym) (name : List ℕ) (q : Result Bool ElfError) → mid.o ≡ old.o → mid.told ≡ old.told → strings ≡ link_of old.o s → IsTrue old.told → sym_answer old.o s 0 i ≡ Ok x
    → (IsTrue mid.told → Follows q (Ok (is_name name (if not (i == 0) && is_defined_global x then not_empty (readable (string_answer mid.o strings x.name)) else None))))
    → Follows q (Ok (is_match old.o s name i))
unfolding listed_name symbol_name
symbol_named old mid s i strings x name q same same_told link told came later =
    let value : Object → ℕ → Result Bool ElfError = λ o t. Ok (is_name name (if not (i == 0) && is_defined_global x then not_empty (readable (string_answer o t x.name)) else None)) in
    let named = later_follows old mid q (λ o. value o strings) same same_told later told in
    let here = subst (λ (t : ℕ). Follows q (value old.o t)) link named in
    subst (λ (b : Bool). Follows q (Ok b)) (sym (symbol_is old.o s i x name (sym_value old.o s 0 i x came).1)) here

-- ---- Bytes

module _ {S : Type 0} (g : Ghosts S) (n : Needs) (old new : State S) (h : ℕ) (has : HasBytes n old.o h) where
  few_bytes : IsFew ((views.bytes h 0).reads old.o) n.homes
  few_bytes = piece_few old.o (err_of (views.bytes_answer old.o h 0)) h n.homes has.home

  pub bytes_found : {T U : Type 0} (r : Result T ElfError) (x : T) (q : Result U ElfError) → r ≡ Ok x → IfErr q IsBad → Queries g (views.bytes h 0) [] r old new → Searches g n q old new
  bytes_found r x q is bad asked = queries_search g n (views.bytes h 0) [] r q old new few_bytes (inl refl) (λ h. subst (λ r. IfErr r IsRefusal) (sym is) tt) (bad_read q _ _ bad) (bad_may n old q has.chain bad) asked

  pub bytes_lost : {T U : Type 0} (told : Bool) (e : ElfError) (r : Result T ElfError) → r ≡ Err e → lend_refusal old.o kinds.Bytes h 0 ≡ None → Answers told (wanted (views.bytes h 0) old) (Err e) (views.bytes_answer old.o h 0)
      → Queries g (views.bytes h 0) [] r old new → Searches {T = U} g n (Err e) old new
  bytes_lost {T} {U} told e r is passed came asked =
      by_error e (subst (λ (p : Option ElfError). Answers told (wanted (views.bytes h 0) old) (Err e) (answered p (bytes_of (items_at old.o h 0)))) passed came) (subst (λ (r : Result T ElfError). Queries g (views.bytes h 0) [] r old new) is asked)
    where
      by_error : (e : ElfError) → Answers told (wanted (views.bytes h 0) old) (Err e) (Ok (bytes_of (items_at old.o h 0))) → Queries {T = T} g (views.bytes h 0) [] (Err e) old new → Searches {T = U} g n (Err e) old new
      by_error Memory came asked = queries_search g n (views.bytes h 0) [] (Err Memory) (Err Memory) old new few_bytes (inl refl) (λ h. h) tt (memory_by_home n old.o old.loaded old.held h (is_none (piece_at old.o h 0).own) has.home came.0) asked
      by_error Read came asked = queries_search g n (views.bytes h 0) [] (Err Read) (Err Read) old new few_bytes (inl refl) (λ h. h) asked.reads.source.read (read_by_few old.o old.loaded _ n.homes few_bytes came.0) asked
      by_error e came asked = cc
