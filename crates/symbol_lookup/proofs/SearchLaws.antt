-- Steps of a lookup, one after another: what each of its calls does lies within what the lookup
-- needs.
use Rattle.std.proofs.Common.{◌≡◌, ℕ, zero, suc, ◌+◌, ◌<◌, ◌≤◌, Bool, true, false, not, List, [], ◌∷◌, length, Result, Ok, Err, refl, sym, ◌∙◌, subst, inl, inr, arith}
use Rattle.std.specs.Prelude.{IsTrue, IfErr, ◌||◌, ◌⊎◌, nat_lt, Contains, slice_index_or}
use Rattle.std.specs.List.{list_any}
use Rattle.std.proofs.lemmas.Bool.{or_left, or_right, lt-ltb, ltb-true}
use Rattle.std.proofs.lemmas.List.Sums.{sum_by-cons}
use Rattle.elf_types.specs.declared.errors.ElfError.{ElfError}
use Rattle.elf_types.specs.declared.errors.ElfError.TheVariants.{Memory, Read, BadChain}
use Rattle.elf_types.specs.Answers.{IsRefusal}
use Rattle.hash_model.specs.elf_outside.declared.sources.Source.{Ghosts}
use Rattle.hash_model.specs.elf_outside.Asks.{ReadRose}
use Rattle.hash_model.proofs.elf_outside.AskLemmas.{asks_fewer, read_rose_on}
use Rattle.hash_model.specs.elf_object.Object.{Object}
use Rattle.hash_model.specs.elf_object.Due.{is_loaded, holds_items, home_due, homes_due}
use Rattle.gelf_view.specs.elf_descriptor.State.{State}
use Rattle.gelf_view.specs.elf_descriptor.Reads.{Reads}
use Rattle.gelf_view.proofs.elf_descriptor.ReadsLaws.{reads_then, reads_nothing, dues_stay, reads_among}
use Rattle.symbol_lookup.specs.Lookups.{Needs, needs_memory, IsBad}
use Rattle.symbol_lookup.specs.Searches.{Searches, MayEnd}

-- ---- What is due within more

-- a home is due no more than all of them
member_due : (o : Object) (loaded : List Bool) (l : List ℕ) (j k : ℕ) → j < length l → slice_index_or l j k ≡ k → home_due o loaded k ≤ homes_due o loaded l
unfolding homes_due
member_due o loaded [] j k below at = absurd (omega arith)
member_due o loaded (x ∷ l) zero k below at = rw at (omega (arith, sum_by-cons (home_due o loaded) k l))
member_due o loaded (x ∷ l) (suc j) k below at = omega (arith, member_due o loaded l j k (omega arith) at, sum_by-cons (home_due o loaded) x l)

pub due_within : (o : Object) (loaded : List Bool) (l : List ℕ) (k : ℕ) → Contains l k → home_due o loaded k ≤ homes_due o loaded l
due_within o loaded l k within = member_due o loaded l within.0 k within.1 within.2

-- once more is loaded, the others are due no more than before
module _ (o : Object) (before after : List Bool) (stays : (i : ℕ) → IsTrue (is_loaded before i) → IsTrue (is_loaded after i)) where
  alone_due : (loaded : List Bool) (k : ℕ) → homes_due o loaded (k ∷ []) ≡ home_due o loaded k
  unfolding homes_due
  alone_due loaded k = omega (arith, sum_by-cons (home_due o loaded) k [])

  pub one_stays : (k : ℕ) → home_due o after k ≤ home_due o before k
  one_stays k = omega (arith, dues_stay o before after (k ∷ []) stays, alone_due before k, alone_due after k)

  member_moved : (l : List ℕ) (j k : ℕ) → j < length l → slice_index_or l j k ≡ k → homes_due o after l + home_due o before k ≤ homes_due o before l + home_due o after k
  unfolding homes_due
  member_moved [] j k below at = absurd (omega arith)
  member_moved (x ∷ l) zero k below at =
      rw at (omega (arith, dues_stay o before after l stays, sum_by-cons (home_due o before) k l, sum_by-cons (home_due o after) k l))
  member_moved (x ∷ l) (suc j) k below at =
      omega (arith, member_moved l j k (omega arith) at, one_stays x, sum_by-cons (home_due o before) x l, sum_by-cons (home_due o after) x l)

-- a list of at most one section, within another
abbrev pub IsFew : List ℕ → List ℕ → Type 0
IsFew few l = (few ≡ []) ⊎ ((k : ℕ) × (few ≡ k ∷ []) × Contains l k)

only : (k i : ℕ) → Contains (k ∷ []) i → i ≡ k
only k i (zero, below, at) = sym at
only k i (suc j, below, at) = absurd (omega arith)

none_in : (i : ℕ) → Contains [] i → ⊥
none_in i within = absurd (omega (arith, within.1))

pub few_in : (few l : List ℕ) → IsFew few l → (i : ℕ) → Contains few i → Contains l i
few_in few l (inl is) i within = absurd (none_in i (subst (λ (f : List ℕ). Contains f i) is within))
few_in few l (inr (k, is, there)) i within = subst (λ (n : ℕ). Contains l n) (sym (only k i (subst (λ (f : List ℕ). Contains f i) is within))) there

pub few_due : (o : Object) (loaded : List Bool) (few l : List ℕ) → IsFew few l → homes_due o loaded few ≤ homes_due o loaded l
unfolding homes_due
few_due o loaded few l (inl is) = rw is (omega arith)
few_due o loaded few l (inr (k, is, there)) = rw is (omega (arith, due_within o loaded l k there, sum_by-cons (home_due o loaded) k []))

few_moved : (o : Object) (before after : List Bool) → ((i : ℕ) → IsTrue (is_loaded before i) → IsTrue (is_loaded after i)) → (few l : List ℕ) → IsFew few l
    → homes_due o after l + homes_due o before few ≤ homes_due o before l + homes_due o after few
unfolding homes_due
few_moved o before after stays few l (inl is) = rw is (omega (arith, dues_stay o before after l stays))
few_moved o before after stays few l (inr (k, is, there)) =
    rw is (omega (arith, member_moved o before after stays l there.0 k there.1 there.2, sum_by-cons (home_due o before) k [], sum_by-cons (home_due o after) k []))

-- a call that reads few homes of those that a lookup may read
pub reads_few : {S T : Type 0} (g : Ghosts S) (r : Result T ElfError) (old new : State S) (few holding l : List ℕ) → IsFew few l → IsFew holding l
    → Reads g r old new few holding (homes_due old.o old.loaded few) → Reads g r old new l l (homes_due old.o old.loaded l)
reads_few g r old new few holding l within held reads = record {
  source = asks_fewer g r old.source new.source (homes_due old.o old.loaded few) (homes_due old.o old.loaded l) (few_due old.o old.loaded few l within) reads.source;
  told = reads.told;
  ready = reads.ready;
  loads = λ i other. reads.loads i (λ is. other (few_in few l within i is));
  stays = reads.stays;
  holds = λ i other. reads.holds i (λ is. other (few_in holding l held i is));
  holds_on = reads.holds_on;
  room = reads.room;
  first_use = λ refused.
      let one = reads.first_use refused in
      let moved = few_moved old.o old.loaded new.loaded reads.stays few l within in
      omega (arith, one, moved);
}

-- ---- Memory and Read

head_stays : (a b c d : Bool) → (IsTrue a → IsTrue b) → (IsTrue d → IsTrue c) → IsTrue (not b || d) → IsTrue (not a || c)
head_stays true true c d stay others want = others want
head_stays true false c d stay others want = let never = stay refl in cc
head_stays false b c d stay others want = refl

any_stays : (f g : ℕ → Bool) (l : List ℕ) → ((k : ℕ) → IsTrue (f k) → IsTrue (g k)) → IsTrue (list_any (λ k. not (g k)) l) → IsTrue (list_any (λ k. not (f k)) l)
any_stays f g [] stays want = want
any_stays f g (x ∷ l) stays want = head_stays (f x) (g x) (list_any (λ k. not (f k)) l) (list_any (λ k. not (g k)) l) (stays x) (any_stays f g l stays) want

either_stays : (a b c d : Bool) → (IsTrue a → IsTrue c) → (IsTrue b → IsTrue d) → IsTrue (a || b) → IsTrue (c || d)
either_stays true b c d first second want = or_left c d (first refl)
either_stays false b c d first second want = or_right c d (second want)

module _ {S : Type 0} (n : Needs) (old mid : State S) (same : mid.o ≡ old.o)
    (stays : (i : ℕ) → IsTrue (is_loaded old.loaded i) → IsTrue (is_loaded mid.loaded i))
    (holds_on : (s p : ℕ) → IsTrue (holds_items old.o old.held s p) → IsTrue (holds_items mid.o mid.held s p)) where
  memory_before : IsTrue (needs_memory n mid.o mid.loaded mid.held) → IsTrue (needs_memory n old.o old.loaded old.held)
  unfolding needs_memory
  memory_before want = either_stays _ _ _ _
      (any_stays (λ k. holds_items old.o old.held k 0) (λ k. holds_items mid.o mid.held k 0) n.tables (λ k. holds_on k 0))
      (any_stays (λ k. is_loaded old.loaded k) (λ k. is_loaded mid.loaded k) n.homes stays)
      want

  read_before : IsTrue (nat_lt 0 (homes_due mid.o mid.loaded n.homes)) → IsTrue (nat_lt 0 (homes_due old.o old.loaded n.homes))
  read_before want =
      let some = subst (λ (o : Object). 0 < homes_due o mid.loaded n.homes) same (ltb-true 0 (homes_due mid.o mid.loaded n.homes) want) in
      let fewer = dues_stay old.o old.loaded mid.loaded n.homes stays in
      lt-ltb 0 (homes_due old.o old.loaded n.homes) (omega (arith, some, fewer))

  pub may_end_before : (e : ElfError) → MayEnd n mid e → MayEnd n old e
  may_end_before Memory may = memory_before may
  may_end_before Read may = read_before may
  may_end_before (BadChain at) may = may
  may_end_before e may = absurd may

-- ---- Steps

ended_before : {S T : Type 0} (n : Needs) (old mid : State S) (q : Result T ElfError) → ((e : ElfError) → MayEnd n mid e → MayEnd n old e) → IfErr q (MayEnd n mid) → IfErr q (MayEnd n old)
ended_before n old mid (Ok x) before ended = tt
ended_before n old mid (Err e) before ended = before e ended

-- one step after another
pub searches_both : {S T U : Type 0} (g : Ghosts S) (n : Needs) (x : T) (q : Result U ElfError) (old mid new : State S) → Searches g n (Ok x) old mid → Searches g n q mid new → Searches g n q old new
searches_both g n x q old mid new first second = record {
  object = second.object ∙ first.object;
  reads = reads_among g x q old mid new n.homes n.homes first.object first.reads second.reads;
  ended = ended_before n old mid q
      (may_end_before n old mid first.object first.reads.stays first.reads.holds_on)
      second.ended;
}

-- another value, and another form of an end
pub searches_value : {S T U : Type 0} (g : Ghosts S) (n : Needs) (x : T) (y : U) (old new : State S) → Searches g n (Ok x) old new → Searches g n (Ok y) old new
searches_value g n x y old new first = record {
  object = first.object;
  reads = reads_then g (Ok x) (Ok y) old new n.homes n.homes (homes_due old.o old.loaded n.homes) (λ is. tt) tt first.reads;
  ended = tt;
}

pub searches_end : {S T U : Type 0} (g : Ghosts S) (n : Needs) (e : ElfError) (old new : State S) → Searches {T = T} g n (Err e) old new → Searches {T = U} g n (Err e) old new
searches_end {S} {T} {U} g n e old new first =
    let r : Result T ElfError = Err e in
    let q : Result U ElfError = Err e in record {
      object = first.object;
      reads = reads_then g r q old new n.homes n.homes (homes_due old.o old.loaded n.homes) (λ is. is) (read_rose_on T U e _ _ first.reads.source.read) first.reads;
      ended = first.ended;
    }

-- nothing is read
pub searches_nothing : {S T : Type 0} (g : Ghosts S) (n : Needs) (r : Result T ElfError) (s : State S) → ReadRose r (g.faults s.source) (g.faults s.source) → IfErr r (MayEnd n s) → Searches g n r s s
searches_nothing g n r s read ended = record {
  object = refl;
  reads = reads_nothing g r s n.homes n.homes (homes_due s.o s.loaded n.homes) read;
  ended = ended;
}

-- ---- What is found without a read

pub bad_read : {T : Type 0} (q : Result T ElfError) (a b : ℕ) → IfErr q IsBad → ReadRose q a b
bad_read (Ok x) a b bad = tt
bad_read (Err (BadChain at)) a b bad = tt
bad_read (Err e) a b bad = cc

pub bad_may : {S T : Type 0} (n : Needs) (s : State S) (q : Result T ElfError) → IsTrue n.chain → IfErr q IsBad → IfErr q (MayEnd n s)
bad_may n s (Ok x) chain bad = tt
bad_may n s (Err (BadChain at)) chain bad = chain
bad_may n s (Err e) chain bad = cc

pub bad_refusal : {T : Type 0} (q : Result T ElfError) → IfErr q IsBad → IfErr q IsRefusal
bad_refusal (Ok x) bad = tt
bad_refusal (Err (BadChain at)) bad = tt
bad_refusal (Err e) bad = cc

pub searches_pure : {S T U : Type 0} (g : Ghosts S) (n : Needs) (x : T) (q : Result U ElfError) (old new : State S) → IsTrue n.chain → IfErr q IsBad → Searches g n (Ok x) old new → Searches g n q old new
searches_pure g n x q old new chain bad first = record {
  object = first.object;
  reads = reads_then g (Ok x) q old new n.homes n.homes (homes_due old.o old.loaded n.homes) (λ is. tt) (bad_read q _ _ bad) first.reads;
  ended = bad_may n old q chain bad;
}
