-- What calls read, one after another.
use Rattle.std.proofs.Common.{◌≡◌, ℕ, zero, suc, ◌+◌, ◌<◌, Bool, true, false, List, [], ◌∷◌, length, get_or, drop, Ok, Err, refl, sym, ap, ◌∙◌, arith}
use Rattle.std.specs.Prelude.{if◌then◌else◌, ◌||◌, ◌==◌, Contains, IsTrue}
use Rattle.std.proofs.lemmas.Bool.{eq-eqb}
use Rattle.std.proofs.lemmas.List.{at_drop_more}
use Rattle.elf_outside.specs.declared.sources.Source.{Ghosts}
use Rattle.symbol_lookup.specs.elf_object.Object.{Object, Home}
use Rattle.symbol_lookup.specs.elf_object.Due.{is_loaded, home_due, homes_due}
use Rattle.symbol_lookup.specs.elf_object.Calls as calls
use Rattle.symbol_lookup.specs.elf_object.Calls.{step}
use Rattle.symbol_lookup.specs.elf_descriptor.State.{State}
use Rattle.symbol_lookup.proofs.SearchLaws.{one_stays}
use Rattle.tool_output.specs.declared.stops.Stop.{Stop}
use Rattle.calls_tool.specs.Reads.{read_by, LeavesState, ReadsDueHomes}
use Rattle.tool_objects.proofs.OnceSums.{has, Once, sums_same, sum_within, went_within, first_in_both, second_in_both, is_out}
use Rattle.calls_tool.proofs.HomeSteps.{KeepsHomes}

-- ---- What is due

due_same : (a b : Object) (loaded : List Bool) (s : ℕ) → KeepsHomes a b → home_due b loaded s ≡ home_due a loaded s
unfolding home_due
due_same a b loaded s keeps = ap (λ (h : Home). if is_loaded loaded s || h.out then 0 else h.len) (keeps s)

pub dues_same : (a b : Object) (loaded : List Bool) (l : List ℕ) → KeepsHomes a b → homes_due b loaded l ≡ homes_due a loaded l
unfolding homes_due
dues_same a b loaded l keeps = sums_same (home_due b loaded) (home_due a loaded) l (λ s. due_same a b loaded s keeps)

-- ---- What is in a list

or_true : (b : Bool) → (b || true) ≡ true
or_true true = refl
or_true false = refl

has_of : (xs : List ℕ) (x : ℕ) → Contains xs x → has xs x ≡ true
has_of [] x (k, lt, is) = absurd (omega (arith, lt))
has_of (y ∷ xs) x (zero, lt, is) = ap (λ b. b || has xs x) (eq-eqb y x is)
has_of (y ∷ xs) x (suc k, lt, is) = ap (λ b. (y == x) || b) (has_of xs x (k, omega (arith, lt), is)) ∙ or_true (y == x)

-- what is in neither of two lists, of which one has the other's
pub not_within : (xs ys : List ℕ) (x : ℕ) → ((z : ℕ) → has xs z ≡ true → has ys z ≡ true) → (Contains ys x → ⊥) → Contains xs x → ⊥
not_within xs ys x sub out is =
    let yes = sub x (has_of xs x is) in
    let no = is_out ys x out in
    cc

-- ---- The sections that calls read

module _ {A : Type 0} where
  read_cons : (c : calls.Call A) (cs : List (calls.Call A)) (o : Object) (x : ℕ) → has (c.reads o) x ≡ true → has (read_by (c ∷ cs) o) x ≡ true
  unfolding read_by
  read_cons c cs o x is = first_in_both (c.reads o) (read_by cs (step c o)) x is

  read_rest : (c : calls.Call A) (cs : List (calls.Call A)) (o : Object) (x : ℕ) → has (read_by cs (step c o)) x ≡ true → has (read_by (c ∷ cs) o) x ≡ true
  unfolding read_by
  read_rest c cs o x is = second_in_both (c.reads o) (read_by cs (step c o)) x is

  -- the next of the calls reads some of them, and the rest of the calls do
  pub next_reads : (cs : List (calls.Call A)) (i : ℕ) (c : calls.Call A) (o : Object) (x : ℕ) → i < length cs → c ≡ get_or cs i c
      → has (c.reads o) x ≡ true → has (read_by (drop i cs) o) x ≡ true
  next_reads cs i c o x lt is in_first =
      at_drop_more (λ l. has (read_by l o) x) cs i c lt ∙ ap (λ (d : calls.Call A). has (read_by (d ∷ drop (i + 1) cs) o) x) (sym is)
      ∙ read_cons c (drop (i + 1) cs) o x in_first

  pub rest_reads : (cs : List (calls.Call A)) (i : ℕ) (c : calls.Call A) (o : Object) (x : ℕ) → i < length cs → c ≡ get_or cs i c
      → has (read_by (drop (i + 1) cs) (step c o)) x ≡ true → has (read_by (drop i cs) o) x ≡ true
  rest_reads cs i c o x lt is in_rest =
      at_drop_more (λ l. has (read_by l o) x) cs i c lt ∙ ap (λ (d : calls.Call A). has (read_by (d ∷ drop (i + 1) cs) o) x) (sym is)
      ∙ read_rest c (drop (i + 1) cs) o x in_rest

-- ---- Steps

module _ {S : Type 0} (g : Ghosts S) where
  pub state_none : (a : State S) → LeavesState g a a
  state_none a = record {
    told = refl;
    source = record { same_len = refl; same_bytes = refl; same_rest = refl };
    later = omega arith;
    stays = λ i is. is;
  }

  pub state_then : (a b c : State S) → LeavesState g a b → LeavesState g b c → LeavesState g a c
  state_then a b c h k = record {
    told = k.told ∙ h.told;
    source = record {
      same_len = k.source.same_len ∙ h.source.same_len;
      same_bytes = k.source.same_bytes ∙ h.source.same_bytes;
      same_rest = k.source.same_rest ∙ h.source.same_rest;
    };
    later = omega (arith, h.later, k.later);
    stays = λ i is. k.stays i (h.stays i is);
  }

  pub reads_none : {T : Type 0} (x : T) (a : State S) (l : List ℕ) → ReadsDueHomes {T = T} g (Ok x) a a l
  reads_none x a l = record { loads = λ i out. refl; became = omega arith; bound = omega arith }

  module _ {T U V : Type 0} (a b c : State S) (all some : List ℕ) (homes : KeepsHomes a.o b.o) (once : Once some)
      (sub : (z : ℕ) → has some z ≡ true → has all z ≡ true) (x : T) (first : ReadsDueHomes {T = T} g (Ok x) a b all) where
    -- a step that comes to its end, after others
    pub reads_more : (y : U) (z : V) → ((i : ℕ) → IsTrue (is_loaded b.loaded i) → IsTrue (is_loaded c.loaded i)) → ReadsDueHomes {T = U} g (Ok y) b c some
        → ReadsDueHomes {T = V} g (Ok z) a c all
    unfolding homes_due
    reads_more y z stays next =
        let before = dues_same a.o b.o b.loaded some homes in
        let after = dues_same a.o b.o c.loaded some homes in
        let became = next.became in
        let went = went_within some all (home_due a.o b.loaded) (home_due a.o c.loaded) (g.taken b.source) (g.taken c.source) once sub
        (one_stays a.o b.loaded c.loaded stays) (omega (arith, became, before, after)) in
        let so_far = first.became in record {
          loads = λ i out. next.loads i (not_within some all i sub out) ∙ first.loads i out;
          became = omega (arith, went, so_far);
          bound = omega (arith, went, so_far);
        }

    -- or one that stops
    pub reads_stop : (stop : Stop) → ReadsDueHomes {T = U} g (Err stop) b c some → ReadsDueHomes {T = V} g (Err stop) a c all
    unfolding homes_due
    reads_stop stop next =
        let before = dues_same a.o b.o b.loaded some homes in
        let fewer = sum_within some all (home_due a.o b.loaded) once sub in
        let so_far = first.became in
        let last = next.bound in record {
          loads = λ i out. next.loads i (not_within some all i sub out) ∙ first.loads i out;
          became = tt;
          bound = omega (arith, before, fewer, so_far, last);
        }
