-- Lookups by a hash section as a whole: a walk behind its beginning, and how their answers meet the
-- stated ones.
use Rattle.std.proofs.Common.{◌≡◌, ℕ, List, [], ◌∷◌, Bool, true, false, Option, Some, None, Result, Ok, Err, refl, sym, ap, ◌∙◌, subst, inl, inr}
use Rattle.std.specs.Prelude.{IsTrue, IfErr, ◌⊎◌, nat_lt, if◌then◌else◌}
use Rattle.elf_types.specs.declared.records.Kind.TheVariants as kinds
use Rattle.elf_types.specs.declared.errors.ElfError.{ElfError}
use Rattle.elf_types.specs.declared.errors.ElfError.TheVariants.{Memory, Read, Write, BadChain}
use Rattle.elf_types.specs.Answers.{Follows, IsRefusal, answered, err_of, first_refusal, ◌>>=◌}
use Rattle.hash_model.specs.elf_outside.declared.sources.Source.{Ghosts}
use Rattle.hash_model.specs.elf_outside.Asks.{ReadRose}
use Rattle.hash_model.specs.elf_object.Words.{AnswersRead, Wants}
use Rattle.hash_model.specs.elf_object.Object.{Object}
use Rattle.hash_model.specs.elf_object.Answers.{bytes_of, items_at, lend_refusal}
use Rattle.hash_model.specs.elf_object.Due.{homes_due, is_refused_unread, unless_refused, when_piece_clean}
use Rattle.gelf_view.specs.Calls as views
use Rattle.gelf_view.specs.elf_descriptor.State.{State}
use Rattle.gelf_view.specs.elf_descriptor.Reads.{Reads, Queries, Looks, wanted}
use Rattle.gelf_view.proofs.elf_descriptor.ReadsLaws.{reads_then}
use Rattle.symbol_lookup.specs.declared.walks.WalkStart.{WalkStart}
use Rattle.symbol_lookup.specs.Lookups.{Needs, needs_memory, link_of, found_from, words_refusal, bytes_refusal, linked_refusal, sysv_refusal, gnu_refusal, sysv_found, gnu_found, sysv_needs, gnu_needs, find_sysv_answer, find_gnu_answer, find_sysv, find_gnu, chain_refusals}
use Rattle.symbol_lookup.specs.Searches.{HasLinks, HasTable, IsFree, MayEnd, Searches}
use Rattle.symbol_lookup.proofs.FollowLaws.{then_follows, later_follows}
use Rattle.symbol_lookup.proofs.SearchLaws.{IsFew, reads_few, searches_both, searches_end}
use Rattle.symbol_lookup.proofs.CallLaws.{piece_few}
use Rattle.symbol_lookup.proofs.NeedLaws.{gnu_bytes}
use Rattle.symbol_lookup.proofs.StepLaws.{links_stay, table_stays}

-- ---- A walk behind its beginning

module _ {S : Type 0} (g : Ghosts S) (n : Needs) (old mid : State S) (h s : ℕ) (name : List ℕ) (start : WalkStart) (first : Searches {T = WalkStart} g n (Ok start) old mid) (link : s ≡ link_of old.o h) where
  pub linked_there : linked_refusal old.o h ≡ None → lend_refusal mid.o kinds.Sym s 0 ≡ None
  linked_there passed =
      ap (λ (o : Object). lend_refusal o kinds.Sym s 0) first.object ∙ ap (λ (k : ℕ). lend_refusal old.o kinds.Sym k 0) link ∙ passed

  pub behind_follows : (r : Result (Option ℕ) ElfError) (begun : Result WalkStart ElfError) → (IsTrue old.told → Follows (Ok start) begun) → (IsTrue mid.told → Follows r (found_from mid.o h s name start))
      → IsTrue old.told → Follows r (begun >>= found_from old.o h (link_of old.o h) name)
  behind_follows r begun came later told =
      then_follows start begun r (found_from old.o h (link_of old.o h) name) (came told)
      (subst (λ (k : ℕ). Follows r (found_from old.o h k name start)) link
      (later_follows old mid r (λ o. found_from o h s name start) first.object first.reads.told later told))

  pub behind_searches : (r : Result (Option ℕ) ElfError) (new : State S) → HasLinks n old.o h start.links → HasTable n old.o (link_of old.o h)
      → ((n : Needs) → HasLinks n mid.o h start.links → HasTable n mid.o s → Searches g n r mid new) → Searches g n r old new
  behind_searches r new links table later =
      searches_both g n start r old mid new first
      (later n (links_stay n old.o mid.o h start.links first.object links)
      (table_stays n old.o mid.o s first.object (subst (λ (k : ℕ). HasTable n old.o k) (sym link) table)))

-- ---- Answers

-- of a lookup that is not refused
pub found_answers : {S : Type 0} (n : Needs) (old : State S) (unread early : Option ElfError) (r stated : Result (Option ℕ) ElfError) → unread ≡ None → early ≡ None → (IsTrue old.told → Follows r stated) → IfErr r (MayEnd n old)
    → AnswersRead old.told (record { memory = needs_memory n old.o old.loaded old.held; read = nat_lt 0 (homes_due old.o old.loaded n.homes) }) (chain_refusals unread early) r stated
found_answers n old unread early (Ok x) stated none passed follows ended = (passed, follows)
found_answers n old unread early (Err Memory) stated none passed follows ended = (none, ended)
found_answers n old unread early (Err Read) stated none passed follows ended = (none, ended)
found_answers n old unread early (Err (BadChain at)) stated none passed follows ended = inr (passed, refl, follows)
found_answers n old unread early (Err e) stated none passed follows ended = absurd ended

-- of one that is
pub refused_answers : (told : Bool) (wants : Wants) (unread early : Option ElfError) (e : ElfError) (stated : Result (Option ℕ) ElfError) → IsRefusal e → early ≡ Some e → stated ≡ Err e
    → AnswersRead told wants (chain_refusals unread early) (Err e) stated
refused_answers told wants unread early Memory stated is came meets = absurd is
refused_answers told wants unread early Read stated is came meets = absurd is
refused_answers told wants unread early e stated is came meets = inl (came, meets)

-- what ends a read alone
pub free_follows : {T : Type 0} (e : ElfError) (stated : Result T ElfError) → IsFree e → Follows {T = T} (Err e) stated
free_follows Memory stated is = tt
free_follows Read stated is = tt
free_follows e stated is = absurd is

pub refused_rose : (T : Type 0) (e : ElfError) (a b : ℕ) → IsRefusal e → ReadRose {T = T} (Err e) a b
refused_rose T Memory a b is = absurd is
refused_rose T Read a b is = absurd is
refused_rose T Write a b is = absurd is
refused_rose T e a b is = tt

-- what it does to a descriptor, where it is not refused before it reads
pub found_looks : {S T : Type 0} (g : Ghosts S) (homes : List ℕ) (r : Result T ElfError) (old new : State S) (refusal : Option ElfError) → refusal ≡ None → Reads g r old new homes homes (homes_due old.o old.loaded homes)
    → Reads g r old new (unless_refused refusal homes) (unless_refused refusal homes) (homes_due old.o old.loaded (unless_refused refusal homes))
found_looks g homes r old new refusal passed reads =
    subst (λ (refusal : Option ElfError). Reads g r old new (unless_refused refusal homes) (unless_refused refusal homes) (homes_due old.o old.loaded (unless_refused refusal homes))) (sym passed) reads

-- ---- By the words of a section

module _ {S : Type 0} (g : Ghosts S) (old : State S) (h : ℕ) (name : List ℕ) where
  pub sysv_passed : words_refusal old.o h ≡ None → linked_refusal old.o h ≡ None → sysv_refusal old.o h ≡ None
  unfolding sysv_refusal
  sysv_passed words symbols =
      ap (λ (r : Option ElfError). first_refusal (r ∷ linked_refusal old.o h ∷ [])) words ∙ ap (λ (r : Option ElfError). first_refusal (r ∷ [])) symbols

  pub sysv_answers : (r : Result (Option ℕ) ElfError) (new : State S) → sysv_refusal old.o h ≡ None → (IsTrue old.told → Follows r (sysv_found old.o h name)) → Searches g (sysv_needs old.o h) r old new
      → AnswersRead old.told (wanted (find_sysv h name) old) (chain_refusals (sysv_refusal old.o h) (sysv_refusal old.o h)) r (find_sysv_answer old.o h name)
  unfolding find_sysv_answer
  sysv_answers r new passed follows searches =
      subst
      (λ (refusal : Option ElfError). AnswersRead old.told (record { memory = needs_memory (sysv_needs old.o h) old.o old.loaded old.held; read = nat_lt 0 (homes_due old.o old.loaded (unless_refused refusal (sysv_needs old.o h).homes)) }) (chain_refusals refusal refusal) r (answered refusal (tt {0}) >>= (λ _. sysv_found old.o h name)))
      (sym passed) (found_answers (sysv_needs old.o h) old None None r (sysv_found old.o h name) refl refl follows searches.ended)

  pub sysv_looks : (r : Result (Option ℕ) ElfError) (new : State S) → sysv_refusal old.o h ≡ None → Searches g (sysv_needs old.o h) r old new → Looks g (find_sysv h name) r old new
  sysv_looks r new passed searches = record {
    object = searches.object;
    reads = found_looks g (sysv_needs old.o h).homes r old new (sysv_refusal old.o h) passed searches.reads;
  }

  pub sysv_refused : (e : ElfError) → IsRefusal e → sysv_refusal old.o h ≡ Some e
      → AnswersRead old.told (wanted (find_sysv h name) old) (chain_refusals (sysv_refusal old.o h) (sysv_refusal old.o h)) (Err e) (find_sysv_answer old.o h name)
  unfolding find_sysv_answer
  sysv_refused e is refused =
      refused_answers old.told _ (sysv_refusal old.o h) (sysv_refusal old.o h) e (find_sysv_answer old.o h name) is refused
      (ap (λ (r : Option ElfError). answered r (tt {0}) >>= (λ _. sysv_found old.o h name)) refused)

  -- ---- By the bytes of a section

  pub gnu_answers : (r : Result (Option ℕ) ElfError) (new : State S) → bytes_refusal old.o h ≡ None → linked_refusal old.o h ≡ None → (IsTrue old.told → Follows r (gnu_found old.o h name)) → Searches g (gnu_needs old.o h) r old new
      → AnswersRead old.told (wanted (find_gnu h name) old) (chain_refusals (bytes_refusal old.o h) (gnu_refusal old.o h)) r (find_gnu_answer old.o h name)
  unfolding find_gnu_answer gnu_refusal
  gnu_answers r new bytes symbols follows searches =
      subst
      (λ (b : Option ElfError). AnswersRead old.told (record { memory = needs_memory (gnu_needs old.o h) old.o old.loaded old.held; read = nat_lt 0 (homes_due old.o old.loaded (unless_refused b (gnu_needs old.o h).homes)) }) (chain_refusals b (first_refusal (b ∷ linked_refusal old.o h ∷ []))) r (answered (first_refusal (b ∷ linked_refusal old.o h ∷ [])) (tt {0}) >>= (λ _. gnu_found old.o h name)))
      (sym bytes)
      (subst
      (λ (l : Option ElfError). AnswersRead old.told (record { memory = needs_memory (gnu_needs old.o h) old.o old.loaded old.held; read = nat_lt 0 (homes_due old.o old.loaded (gnu_needs old.o h).homes) }) (chain_refusals None (first_refusal (l ∷ []))) r (answered (first_refusal (l ∷ [])) (tt {0}) >>= (λ _. gnu_found old.o h name)))
      (sym symbols) (found_answers (gnu_needs old.o h) old None None r (gnu_found old.o h name) refl refl follows searches.ended))

  pub gnu_looks : (r : Result (Option ℕ) ElfError) (new : State S) → bytes_refusal old.o h ≡ None → Searches g (gnu_needs old.o h) r old new → Looks g (find_gnu h name) r old new
  gnu_looks r new passed searches = record {
    object = searches.object;
    reads = found_looks g (gnu_needs old.o h).homes r old new (bytes_refusal old.o h) passed searches.reads;
  }

  -- what is refused in the end
  gnu_refused_by : (e : ElfError) → IsRefusal e → gnu_refusal old.o h ≡ Some e
      → AnswersRead old.told (wanted (find_gnu h name) old) (chain_refusals (bytes_refusal old.o h) (gnu_refusal old.o h)) (Err e) (find_gnu_answer old.o h name)
  unfolding find_gnu_answer
  gnu_refused_by e is refused =
      refused_answers old.told _ (bytes_refusal old.o h) (gnu_refusal old.o h) e (find_gnu_answer old.o h name) is refused
      (ap (λ (r : Option ElfError). answered r (tt {0}) >>= (λ _. gnu_found old.o h name)) refused)

  -- behind the bytes: the table to which it links is refused
  pub gnu_linked_refused : (e : ElfError) → IsRefusal e → bytes_refusal old.o h ≡ None → linked_refusal old.o h ≡ Some e
      → AnswersRead old.told (wanted (find_gnu h name) old) (chain_refusals (bytes_refusal old.o h) (gnu_refusal old.o h)) (Err e) (find_gnu_answer old.o h name)
  unfolding gnu_refusal
  gnu_linked_refused e is bytes symbols =
      gnu_refused_by e is (ap (λ (r : Option ElfError). first_refusal (r ∷ linked_refusal old.o h ∷ [])) bytes ∙ ap (λ (r : Option ElfError). first_refusal (r ∷ [])) symbols)

  pub gnu_linked_looks : (e : ElfError) (mid : State S) → IsRefusal e → bytes_refusal old.o h ≡ None → Searches {T = Unit {0}} g (gnu_needs old.o h) (Ok (tt {0})) old mid → Looks {T = Option ℕ} g (find_gnu h name) (Err e) old mid
  gnu_linked_looks e mid is passed searches =
      let homes = (gnu_needs old.o h).homes in
      let r : Result (Unit {0}) ElfError = Ok (tt {0}) in
      let q : Result (Option ℕ) ElfError = Err e in
      record {
        object = searches.object;
        reads = found_looks g homes q old mid (bytes_refusal old.o h) passed
            (reads_then g r q old mid homes homes (homes_due old.o old.loaded homes) (λ _. tt) (refused_rose (Option ℕ) e _ _ is) searches.reads);
      }

  -- the bytes themselves are refused, or not at hand
  pub gnu_bytes_refused : (e : ElfError) (new : State S) → ((bytes_refusal old.o h ≡ Some e) × IsRefusal e) ⊎ ((bytes_refusal old.o h ≡ None) × IsFree e)
      → (bytes_refusal old.o h ≡ None → Searches {T = Unit {0}} g (gnu_needs old.o h) (Err e) old new)
      → AnswersRead old.told (wanted (find_gnu h name) old) (chain_refusals (bytes_refusal old.o h) (gnu_refusal old.o h)) (Err e) (find_gnu_answer old.o h name)
  unfolding gnu_refusal
  gnu_bytes_refused e new (inl refused) searches =
      gnu_refused_by e refused.1 (ap (λ (r : Option ElfError). first_refusal (r ∷ linked_refusal old.o h ∷ [])) refused.0)
  gnu_bytes_refused e new (inr free) searches = by_free e free.1 (searches free.0).ended
    where
      by_free : (e : ElfError) → IsFree e → MayEnd (gnu_needs old.o h) old e
          → AnswersRead old.told (wanted (find_gnu h name) old) (chain_refusals (bytes_refusal old.o h) (gnu_refusal old.o h)) (Err e) (find_gnu_answer old.o h name)
      by_free Memory is may = (free.0, may)
      by_free Read is may = (free.0, subst (λ (b : Option ElfError). IsTrue (nat_lt 0 (homes_due old.o old.loaded (unless_refused b (gnu_needs old.o h).homes)))) (sym free.0) may)
      by_free e is may = absurd is

  bytes_few : (refusal : Option ElfError) (bytes : List ℕ) → IsFew (unless_refused (err_of (answered refusal bytes)) (when_piece_clean old.o h 0)) (unless_refused refusal (gnu_needs old.o h).homes)
  bytes_few None bytes = piece_few old.o None h (gnu_needs old.o h).homes (gnu_bytes old.o h).home
  bytes_few (Some e) bytes = by_unread (is_refused_unread (Some e)) refl
    where
      by_unread : (b : Bool) → is_refused_unread (Some e) ≡ b → IsFew (if is_refused_unread (Some e) then [] else when_piece_clean old.o h 0) (if is_refused_unread (Some e) then [] else (gnu_needs old.o h).homes)
      by_unread true is = subst (λ (b : Bool). IsFew (if b then [] else when_piece_clean old.o h 0) (if b then [] else (gnu_needs old.o h).homes)) (sym is) (inl refl)
      by_unread false is = subst (λ (b : Bool). IsFew (if b then [] else when_piece_clean old.o h 0) (if b then [] else (gnu_needs old.o h).homes)) (sym is) (piece_few old.o None h (gnu_needs old.o h).homes (gnu_bytes old.o h).home)

  pub gnu_bytes_looks : (e : ElfError) (new : State S) → ((bytes_refusal old.o h ≡ Some e) × IsRefusal e) ⊎ ((bytes_refusal old.o h ≡ None) × IsFree e)
      → Queries {T = Unit {0}} g (views.bytes h 0) [] (Err e) old new → (bytes_refusal old.o h ≡ None → Searches {T = Unit {0}} g (gnu_needs old.o h) (Err e) old new) → Looks {T = Option ℕ} g (find_gnu h name) (Err e) old new
  gnu_bytes_looks e new (inl refused) queries searches =
      let few : List ℕ = (views.bytes h 0).reads old.o in
      let r : Result (Unit {0}) ElfError = Err e in
      let q : Result (Option ℕ) ElfError = Err e in
      record {
        object = queries.object;
        reads = reads_few g q old new few [] ((find_gnu h name).reads old.o) (bytes_few (bytes_refusal old.o h) (bytes_of (items_at old.o h 0))) (inl refl)
            (reads_then g r q old new few [] (homes_due old.o old.loaded few) (λ is. is) (refused_rose (Option ℕ) e _ _ refused.1) queries.reads);
      }
  gnu_bytes_looks e new (inr free) queries searches =
      gnu_looks (Err e) new free.0 (searches_end {T = Unit {0}} g (gnu_needs old.o h) e old new (searches free.0))

-- ---- Two lookups one after another, on an object that stays

module _ {S : Type 0} (g : Ghosts S) (old mid new : State S) (h : ℕ) (name : List ℕ) (r : Result (Option ℕ) ElfError) (first : Searches {T = Unit {0}} g (gnu_needs old.o h) (Ok (tt {0})) old mid) where
  pub gnu_later_follows : (IsTrue mid.told → Follows r (gnu_found mid.o h name)) → IsTrue old.told → Follows r (gnu_found old.o h name)
  gnu_later_follows later told = later_follows old mid r (λ o. gnu_found o h name) first.object first.reads.told later told

  pub gnu_later_searches : Searches g (gnu_needs mid.o h) r mid new → Searches g (gnu_needs old.o h) r old new
  gnu_later_searches later =
      searches_both g (gnu_needs old.o h) (tt {0}) r old mid new first
      (subst (λ (o : Object). Searches g (gnu_needs o h) r mid new) first.object later)
