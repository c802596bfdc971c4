-- What is found in the bytes of a piece that were made to be at hand.
use Rattle.std.proofs.Common.{◌≡◌, ℕ, Bool, true, false, List, [], length, take, drop, Option, Some, None, Result, Ok, Err, refl, sym, ap, ◌∙◌, subst}
use Rattle.std.specs.Prelude.{◌+◌, IsTrue, nat_lt}
use Rattle.elf_types.specs.declared.errors.ElfError.{ElfError}
use Rattle.elf_types.specs.declared.errors.ElfError.TheVariants.{Memory, Read, BadChain}
use Rattle.elf_types.specs.Answers.{answered, refused_if, err_of, ◌>>=◌}
use Rattle.elf_descriptor.specs.elf_outside.declared.sources.Source.{Ghosts}
use Rattle.elf_descriptor.specs.elf_outside.Asks.{ReadRose}
use Rattle.elf_descriptor.proofs.elf_outside.AskLemmas.{read_rose_on}
use Rattle.elf_descriptor.specs.elf_object.Words.{Wants, Answers, MayWant, result_map}
use Rattle.elf_descriptor.specs.elf_object.Object.{Object}
use Rattle.elf_types.specs.declared.records.Order.{Order}
use Rattle.elf_descriptor.specs.elf_object.Answers.{lend_refusal, bytes_of, items_at, count_at}
use Rattle.elf_types.specs.declared.records.Kind.TheVariants as kinds
use Rattle.elf_descriptor.specs.elf_object.Due.{homes_due, unless_refused, when_piece_clean}
use Rattle.elf_descriptor.specs.elf_object.Calls.{due}
use Rattle.elf_descriptor.specs.State.{State}
use Rattle.elf_descriptor.specs.Reads.{Reads, Queries, wanted}
use Rattle.elf_descriptor.proofs.Refusals.{answers_wants}
use Rattle.elf_descriptor.proofs.ReadsLaws.{reads_then}
use Rattle.gelf_view.specs.Records.{record_at}
use Rattle.gelf_view.specs.Calls.{bytes, in_bytes, record_found}
use Rattle.gelf_view.proofs.PieceBytes.{bytes_count}

-- something is found, or that it does not lie in the bytes
abbrev pub IsFoundAt : {A : Type 0} → ℕ → Result A ElfError → Type 0
IsFoundAt at (Ok x) = Unit {0}
IsFoundAt at (Err e) = e ≡ BadChain at

-- what is read for it is what is read for the bytes
same_reads : {A B : Type 0} (at : ℕ) (refusal : Option ElfError) (l sections : List ℕ) (v : B) (found : List ℕ → Result A ElfError) → IsFoundAt at (found l)
    → unless_refused (err_of (answered refusal l >>= found)) sections ≡ unless_refused (err_of (answered refusal v)) sections
same_reads at (Some e) l sections v found is = refl
same_reads {A} at None l sections v found is = by_found (found l) is
  where
    by_found : (r : Result A ElfError) → IsFoundAt at r → unless_refused (err_of r) sections ≡ sections
    by_found (Ok x) is = refl
    by_found (Err e) is = ap (λ (d : ElfError). unless_refused (Some d) sections) is

-- Memory and Read may come in place of it
may_want : {A : Type 0} (at : ℕ) (found : Result A ElfError) → IsFoundAt at found → MayWant found
may_want at (Ok x) is = tt
may_want at (Err e) is = let P : ElfError → Type 0 = λ d. MayWant {A = Unit {0}} (Err d) in subst P (sym is) refl

read_rose_found : {A : Type 0} (at : ℕ) (found : Result A ElfError) (a b : ℕ) → IsFoundAt at found → ReadRose found a b
read_rose_found at (Ok x) a b is = tt
read_rose_found {A} at (Err e) a b is = let P : ElfError → Type 0 = λ d. ReadRose {T = A} (Err d) a b in subst P (sym is) tt

-- a refusal of the step before
refused_found : {A : Type 0} (told : Bool) (wants : Wants) (refusal : Option ElfError) (l : List ℕ) (found : List ℕ → Result A ElfError) (e : ElfError)
    → MayWant (found l) → Answers true wants (Err e) (answered refusal (tt {0})) → Answers told wants (Err e) (answered refusal l >>= found)
refused_found told wants (Some d) l found Memory may came = came
refused_found told wants (Some d) l found Read may came = came
refused_found told wants (Some d) l found e may came = let same : d ≡ e = cc in ap Err same
refused_found told wants None l found Memory may came = (came.0, may)
refused_found told wants None l found Read may came = (came.0, may)
refused_found told wants None l found e may came = cc

-- a record by the test whether it passes the bytes
abbrev tested : {A : Type 0} → ℕ → ℕ → (List ℕ → A) → Bool → List ℕ → Result A ElfError
tested size at form past x = result_map form (answered (refused_if past (BadChain at)) (take size (drop at x)))

tested_answers : {A : Type 0} (told : Bool) (wants : Wants) (size at : ℕ) (form : List ℕ → A) (b l : List ℕ) (past : Bool) → (IsTrue told → b ≡ l)
    → Answers told wants (tested size at form past b) (tested size at form past l)
tested_answers told wants size at form b l true same = refl
tested_answers told wants size at form b l false same = (refl, λ is. ap (λ (x : List ℕ). Ok (form (take size (drop at x)))) (sym (same is)))

-- a record is found as it is in as many bytes, and the same where they are the same
pub record_answers : {A : Type 0} (told : Bool) (wants : Wants) (size at : ℕ) (form : List ℕ → A) (b l : List ℕ) → length b ≡ length l → (IsTrue told → b ≡ l)
    → Answers told wants (result_map form (record_at size b at)) (result_map form (record_at size l at))
unfolding record_at
record_answers told wants size at form b l alike same =
    subst (λ (t : Bool). Answers told wants (tested size at form (nat_lt (length b) (at + size)) b) (tested size at form t l)) (ap (λ (n : ℕ). nat_lt n (at + size)) alike)
    (tested_answers told wants size at form b l (nat_lt (length b) (at + size)) same)

tested_found : {A : Type 0} (size at : ℕ) (form : List ℕ → A) (b : List ℕ) (past : Bool) → IsFoundAt at (tested size at form past b)
tested_found size at form b true = refl
tested_found size at form b false = tt

pub record_is_found : {A : Type 0} (size at : ℕ) (form : List ℕ → A) (b : List ℕ) → IsFoundAt at (result_map form (record_at size b at))
unfolding record_at
record_is_found size at form b = tested_found size at form b (nat_lt (length b) (at + size))

module _ {S A : Type 0} (g : Ghosts S) (old new : State S) (s p at : ℕ) (found : Object → List ℕ → Result A ElfError)
    (is : (o : Object) (l : List ℕ) → IsFoundAt at (found o l)) where
  pub reads_same : (in_bytes s p found).reads old.o ≡ (bytes s p).reads old.o
  reads_same =
      same_reads at (lend_refusal old.o kinds.Bytes s p) (bytes_of (items_at old.o s p)) (when_piece_clean old.o s p) (bytes_of (items_at old.o s p))
      (found old.o) (is old.o (bytes_of (items_at old.o s p)))

  pub found_refused : (e : ElfError) → Answers true (wanted (bytes s p) old) (Err e) (answered (lend_refusal old.o kinds.Bytes s p) (tt {0}))
      → Answers old.told (wanted (in_bytes s p found) old) (Err e) ((in_bytes s p found).answer old.o)
  found_refused e came =
      answers_wants old.told (wanted (bytes s p) old) (wanted (in_bytes s p found) old) (Err e) ((in_bytes s p found).answer old.o)
      (λ wants. wants)
      (λ wants. ap (λ (l : List ℕ). nat_lt 0 (homes_due old.o old.loaded l)) reads_same ∙ wants)
      (refused_found old.told (wanted (bytes s p) old) (lend_refusal old.o kinds.Bytes s p) (bytes_of (items_at old.o s p)) (found old.o) e
      (may_want at (found old.o (bytes_of (items_at old.o s p))) (is old.o (bytes_of (items_at old.o s p)))) came)

  on_reads : {T : Type 0} (q : Result T ElfError) → Queries g (bytes s p) [] q old new → Queries g (in_bytes s p found) [] q old new
  on_reads q asked = record {
    object = asked.object;
    reads = subst (λ (l : List ℕ). Reads g q old new l [] (homes_due old.o old.loaded l)) (sym reads_same) asked.reads;
  }

  pub found_queries_err : (e : ElfError) → Queries {T = Unit {0}} g (bytes s p) [] (Err e) old new → Queries {T = A} g (in_bytes s p found) [] (Err e) old new
  found_queries_err e asked = on_reads (Err e) (record {
    object = asked.object;
    reads = reads_then g (Err e) (Err e) old new ((bytes s p).reads old.o) [] (due (bytes s p) old.o old.loaded) (λ h. h)
        (read_rose_on (Unit {0}) A e (g.faults old.source) (g.faults new.source) asked.reads.source.read) asked.reads;
  })

  pub found_queries : (b : List ℕ) (o : Object) → Queries g (bytes s p) [] (Ok (tt {0})) old new → Queries g (in_bytes s p found) [] (found o b) old new
  found_queries b o asked = on_reads (found o b) (record {
    object = asked.object;
    reads = reads_then g (Ok (tt {0})) (found o b) old new ((bytes s p).reads old.o) [] (due (bytes s p) old.o old.loaded) (λ h. tt)
        (read_rose_found at (found o b) (g.faults old.source) (g.faults new.source) (is o b)) asked.reads;
  })

-- what bytes at hand are, of an object that a step leaves
pub record BytesAtHand {S : Type 0} (old : State S) (s p : ℕ) (b : List ℕ) : Type 0 where
  pub passed : lend_refusal old.o kinds.Bytes s p ≡ None
  pub alike : length b ≡ length (bytes_of (items_at old.o s p))
  pub same : IsTrue old.told → b ≡ bytes_of (items_at old.o s p)

pub at_hand : {S : Type 0} (g : Ghosts S) (old new : State S) (s p : ℕ) (b : List ℕ) → lend_refusal old.o kinds.Bytes s p ≡ None
    → Queries g (bytes s p) [] (Ok (tt {0})) old new → (IsTrue new.told → b ≡ bytes_of (items_at new.o s p)) → length b ≡ count_at new.o s p → BytesAtHand old s p b
at_hand g old new s p b passed asked exact count = record {
  passed = passed;
  alike = count ∙ ap (λ (o : Object). count_at o s p) asked.object ∙ sym (bytes_count old.o s p passed);
  same = λ told. exact (asked.reads.told ∙ told) ∙ ap (λ (o : Object). bytes_of (items_at o s p)) asked.object;
}

-- a record that is read from them
pub record_step : {S A : Type 0} (old : State S) (s p at size : ℕ) (form : Order → List ℕ → A) (b : List ℕ) (r : Result A ElfError) (order : Order)
    → BytesAtHand old s p b → order ≡ old.o.header.order → r ≡ result_map (form order) (record_at size b at)
    → Answers old.told (wanted (in_bytes s p (record_found size form at)) old) r ((in_bytes s p (record_found size form at)).answer old.o)
record_step {S} {A} old s p at size form b r order hand ordered is =
    let wants = wanted (in_bytes s p (record_found size form at)) old in
    let l = bytes_of (items_at old.o s p) in
    let came : r ≡ record_found size form at old.o b = is ∙ ap (λ (d : Order). result_map (form d) (record_at size b at)) ordered in
    let stated : (in_bytes s p (record_found size form at)).answer old.o ≡ record_found size form at old.o l =
    ap (λ (refusal : Option ElfError). answered refusal l >>= record_found size form at old.o) hand.passed in
    subst (λ (x : Result A ElfError). Answers old.told wants x ((in_bytes s p (record_found size form at)).answer old.o)) (sym came)
    (subst (λ (x : Result A ElfError). Answers old.told wants (record_found size form at old.o b) x) (sym stated)
    (record_answers old.told wants size at (form old.o.header.order) b l hand.alike hand.same))
