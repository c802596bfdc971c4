-- A walk under way: what is found on the whole chain is the least of what was met, and of what is
-- found on the rest.
use Rattle.std.proofs.Common.{◌≡◌, ℕ, zero, suc, ◌+◌, add-one, Bool, List, ◌∷◌, Option, Some, None, Result, Ok, Err, refl, sym, ap, ◌∙◌, subst, arith}
use Rattle.std.specs.Prelude.{◌==◌, IsTrue, IfErr, min, if◌then◌else◌}
use Rattle.std.proofs.lemmas.Bool.{ne_eqb}
use Rattle.elf_types.specs.declared.errors.ElfError.{ElfError}
use Rattle.elf_types.specs.declared.errors.ElfError.TheVariants.{Memory, Read, BadChain}
use Rattle.elf_types.specs.Answers.{Follows, ◌>>=◌}
use Rattle.hash_model.specs.elf_outside.declared.sources.Source.{Ghosts}
use Rattle.hash_model.specs.elf_object.Words.{result_map}
use Rattle.hash_model.specs.elf_object.Object.{Object}
use Rattle.hash_model.specs.elf_object.Answers.{count_at}
use Rattle.gelf_view.specs.elf_descriptor.State.{State}
use Rattle.symbol_lookup.specs.declared.walks.WalkStep.{WalkStep}
use Rattle.symbol_lookup.specs.declared.walks.Links.{Links}
use Rattle.symbol_lookup.specs.declared.walks.Links.TheVariants as links
use Rattle.symbol_lookup.specs.declared.walks.WalkStart.{WalkStart}
use Rattle.symbol_lookup.specs.declared.walks.Walk.{Walk}
use Rattle.symbol_lookup.specs.Walks.{walk_from, lesser, least_of, with_least}
use Rattle.symbol_lookup.specs.Lookups.{Needs, IsBad, is_match, next_on, walked_on, found_from}
use Rattle.symbol_lookup.specs.Searches.{HasLinks, HasTable, IsIndex, Searches, ObjectStays}
use Rattle.symbol_lookup.proofs.FollowLaws.{then_ends, mapped_ends, later_follows}
use Rattle.symbol_lookup.proofs.SearchLaws.{searches_both, searches_value, searches_end, searches_nothing, searches_pure}
use Rattle.symbol_lookup.proofs.StepLaws.{links_stay, table_stays}
use Rattle.symbol_lookup.proofs.SysvReach.{walk_ends}

lesser_later : (best here later : Option ℕ) → lesser best (lesser here later) ≡ lesser (lesser best here) later
lesser_later None here later = refl
lesser_later (Some a) None later = refl
lesser_later (Some a) (Some b) None = refl
lesser_later (Some a) (Some b) (Some c) = let is : min a (min b c) ≡ min (min a b) c = omega arith in ap Some is

lesser_none : (best : Option ℕ) → lesser best None ≡ best
lesser_none None = refl
lesser_none (Some a) = refl

-- ---- Over plain numbers

unmapped : {A B : Type 0} (f : A → B) (e : ElfError) (first : Result A ElfError) → Follows {T = B} (Err e) (result_map f first) → Follows {T = A} (Err e) first
unmapped f Memory first came = tt
unmapped f Read first came = tt
unmapped {A} {B} f e first came = by_first first came
  where
    by_first : (first : Result A ElfError) → ◌≡◌ {A = Result B ElfError} (result_map f first) (Err e) → ◌≡◌ {A = Result A ElfError} first (Err e)
    by_first (Ok x) is = cc
    by_first (Err d) is = let same : d ≡ e = cc in ap Err same

module _ (test : ℕ → Bool) (next : ℕ → Result WalkStep ElfError) where
  -- after what was met, with so many steps left
  abbrev pub carried : Walk → ℕ → Result (Option ℕ) ElfError
  carried walk left = result_map (λ later. lesser walk.best (least_of test later)) (walk_from next left walk.step.at walk.step.symbol)

  -- the walk with one more symbol
  abbrev pub stepped : Walk → Result Walk ElfError
  stepped walk = result_map (λ step. record { best = with_least walk.best (test walk.step.symbol) walk.step.symbol; step = step }) (next walk.step.symbol)

  one_more : (best : Option ℕ) (i : ℕ) (rest : Result (List ℕ) ElfError)
      → result_map (λ later. lesser best (least_of test later)) (result_map (λ later. i ∷ later) rest) ≡ result_map (λ later. lesser (with_least best (test i) i) (least_of test later)) rest
  unfolding least_of
  one_more best i (Ok later) = ap Ok (lesser_later best (if test i then Some i else None) (least_of test later))
  one_more best i (Err e) = refl

  -- a step of it
  pub carried_on : (walk later : Walk) (left : ℕ) → (walk.step.symbol ≡ 0 → ⊥) → stepped walk ≡ Ok later → carried walk (left + 1) ≡ carried later left
  unfolding walk_from
  carried_on walk later left some came = ap (carried walk) (add-one left) ∙ by_symbol walk.step.symbol walk.best walk.step.at some came
    where
      by_symbol : (symbol : ℕ) (best : Option ℕ) (at : ℕ) → (symbol ≡ 0 → ⊥)
          → result_map (λ step. record { best = with_least best (test symbol) symbol; step = step }) (next symbol) ≡ Ok later
          → result_map (λ later. lesser best (least_of test later)) (walk_from next (suc left) at symbol) ≡ carried later left
      by_symbol zero best at some came = absurd (some refl)
      by_symbol (suc i) best at some came = by_next (next (suc i)) refl came
        where
          by_next : (r : Result WalkStep ElfError) → next (suc i) ≡ r → result_map (λ step. record { best = with_least best (test (suc i)) (suc i); step = step }) r ≡ Ok later
              → result_map (λ later. lesser best (least_of test later)) (walk_from next (suc left) at (suc i)) ≡ carried later left
          by_next (Err e) known came = cc
          by_next (Ok step) known came =
              let same : record { best = with_least best (test (suc i)) (suc i); step = step } ≡ later = cc in
              ap (λ (r : Result WalkStep ElfError). result_map (λ later. lesser best (least_of test later)) (r >>= (λ step. result_map (λ later. suc i ∷ later) (walk_from next left step.at step.symbol)))) known
              ∙ one_more best (suc i) (walk_from next left step.at step.symbol)
              ∙ ap (λ (w : Walk). carried w left) same

  -- a step that is not made
  pub carried_ends : (walk : Walk) (left : ℕ) (e : ElfError) → (walk.step.symbol ≡ 0 → ⊥) → Follows {T = Walk} (Err e) (stepped walk) → Follows {T = Option ℕ} (Err e) (carried walk (left + 1))
  unfolding walk_from
  carried_ends walk left e some came =
      subst (λ (n : ℕ). Follows {T = Option ℕ} (Err e) (carried walk n)) (sym (add-one left))
      (mapped_ends (λ later. lesser walk.best (least_of test later)) e (walk_from next (suc left) walk.step.at walk.step.symbol) (by_symbol walk.step.symbol some (unmapped _ e (next walk.step.symbol) came)))
    where
      by_symbol : (symbol : ℕ) → (symbol ≡ 0 → ⊥) → Follows {T = WalkStep} (Err e) (next symbol) → Follows {T = List ℕ} (Err e) (walk_from next (suc left) walk.step.at symbol)
      by_symbol zero some came = absurd (some refl)
      by_symbol (suc i) some came = then_ends e (next (suc i)) (λ step. result_map (λ later. suc i ∷ later) (walk_from next left step.at step.symbol)) came

  -- a walk that has ended
  pub carried_done : (walk : Walk) (left : ℕ) → walk.step.symbol ≡ 0 → carried walk left ≡ Ok walk.best
  unfolding least_of
  carried_done walk left is = ap (result_map (λ later. lesser walk.best (least_of test later))) (walk_ends next left walk.step.at walk.step.symbol is) ∙ ap Ok (lesser_none walk.best)

  -- one that may take no further step
  pub carried_out : (walk : Walk) → carried walk 0 ≡ (if walk.step.symbol == 0 then Ok walk.best else Err (BadChain walk.step.at))
  unfolding walk_from least_of
  carried_out walk = by_symbol walk.step.symbol
    where
      by_symbol : (symbol : ℕ) → result_map (λ later. lesser walk.best (least_of test later)) (walk_from next 0 walk.step.at symbol) ≡ (if symbol == 0 then Ok walk.best else Err (BadChain walk.step.at))
      by_symbol zero = ap Ok (lesser_none walk.best)
      by_symbol (suc i) = ap (λ (b : Bool). if b then Ok walk.best else Err (BadChain walk.step.at)) (sym (ne_eqb (suc i) 0 (λ is. absurd (omega (arith, is)))))

-- ---- On a descriptor

links_chain : (n : Needs) (o : Object) (h : ℕ) (l : Links) → HasLinks n o h l → IsTrue n.chain
links_chain n o h (links.Sysv nbucket nchain) has = has.chain
links_chain n o h (links.Gnu symoffset chains) has = has.chain

-- a walk under way, with so many steps left
pub record Walking {S : Type 0} (g : Ghosts S) (h s : ℕ) (name : List ℕ) (start : WalkStart) (old new : State S) (walk : Walk) (left : ℕ) : Type 0 where
  pub stays : ObjectStays old new
  pub index : IsIndex walk.step.symbol
  pub searches : (n : Needs) → HasLinks n old.o h start.links → HasTable n old.o s → Searches {T = Unit {0}} g n (Ok (tt {0})) old new
  pub follows : IsTrue old.told → found_from old.o h s name start ≡ carried (is_match old.o s name) (next_on old.o h start.links) walk left

module _ {S : Type 0} (g : Ghosts S) (h s : ℕ) (name : List ℕ) (start : WalkStart) (old : State S) where
  pub walk_begins : (steps : ℕ) → steps ≡ count_at old.o s 0 → IsIndex start.step.symbol → Walking g h s name start old old (record { best = None; step = start.step }) steps
  unfolding found_from
  walk_begins steps count index = record {
    stays = record { object = refl; told = refl };
    index = index;
    searches = λ n links table. searches_nothing g n (Ok (tt {0})) old tt tt;
    follows = λ told.
        ap (λ (n : ℕ). result_map (least_of (is_match old.o s name)) (walk_from (next_on old.o h start.links) n start.step.at start.step.symbol)) (sym count);
  }

  -- how it is looked on from a state of the walk
  abbrev looked : Walk → Object → Result Walk ElfError
  looked walk o = walked_on o h start.links (is_match o s name walk.step.symbol) walk

  module _ (mid : State S) (walk : Walk) (left : ℕ) (before : Walking g h s name start old mid walk (left + 1)) (some : walk.step.symbol ≡ 0 → ⊥) where
    pub walk_goes : (later : Walk) (new : State S) → ObjectStays mid new → IsIndex later.step.symbol
        → ((n : Needs) → HasLinks n mid.o h start.links → HasTable n mid.o s → Searches {T = Walk} g n (Ok later) mid new)
        → (IsTrue mid.told → Follows (Ok later) (looked walk mid.o)) → Walking g h s name start old new later left
    unfolding walked_on
    walk_goes later new stays index searches follows = record {
      stays = record { object = stays.object ∙ before.stays.object; told = stays.told ∙ before.stays.told };
      index = index;
      searches = λ n links table.
          searches_value g n later (tt {0}) old new
          (searches_both g n (tt {0}) (Ok later) old mid new (before.searches n links table)
          (searches n (links_stay n old.o mid.o h start.links before.stays.object links) (table_stays n old.o mid.o s before.stays.object table)));
      follows = λ told.
          before.follows told
          ∙ carried_on (is_match old.o s name) (next_on old.o h start.links) walk later left some
          (later_follows old mid (Ok later) (looked walk) before.stays.object before.stays.told follows told);
    }

    pub walk_stops : (e : ElfError) → (IsTrue mid.told → Follows {T = Walk} (Err e) (looked walk mid.o)) → IsTrue old.told → Follows {T = Option ℕ} (Err e) (found_from old.o h s name start)
    unfolding walked_on
    walk_stops e follows told =
        subst (λ (r : Result (Option ℕ) ElfError). Follows {T = Option ℕ} (Err e) r) (sym (before.follows told))
        (carried_ends (is_match old.o s name) (next_on old.o h start.links) walk left e some
        (later_follows old mid (Err e) (looked walk) before.stays.object before.stays.told follows told))

    pub search_stops : (e : ElfError) (new : State S) → ((n : Needs) → HasLinks n mid.o h start.links → HasTable n mid.o s → Searches {T = Walk} g n (Err e) mid new)
        → (n : Needs) → HasLinks n old.o h start.links → HasTable n old.o s → Searches {T = Option ℕ} g n (Err e) old new
    search_stops e new searches n links table =
        searches_end {T = Walk} g n e old new
        (searches_both {U = Walk} g n (tt {0}) (Err e) old mid new (before.searches n links table)
        (searches n (links_stay n old.o mid.o h start.links before.stays.object links) (table_stays n old.o mid.o s before.stays.object table)))

  -- what was found, where the walk has ended or may take no further step
  module _ (new : State S) (walk : Walk) (left : ℕ) (before : Walking g h s name start old new walk left) where
    pub walk_done : walk.step.symbol ≡ 0 → IsTrue old.told → Follows (Ok walk.best) (found_from old.o h s name start)
    walk_done is told = before.follows told ∙ carried_done (is_match old.o s name) (next_on old.o h start.links) walk left is

    pub walk_out : left ≡ 0 → IsTrue old.told → found_from old.o h s name start ≡ (if walk.step.symbol == 0 then Ok walk.best else Err (BadChain walk.step.at))
    walk_out none told =
        before.follows told
        ∙ ap (carried (is_match old.o s name) (next_on old.o h start.links) walk) none
        ∙ carried_out (is_match old.o s name) (next_on old.o h start.links) walk

    -- what a walk found is found without a read
    pub search_done : {T : Type 0} (q : Result T ElfError) → IfErr q IsBad → (n : Needs) → HasLinks n old.o h start.links → HasTable n old.o s → Searches g n q old new
    search_done q bad n links table = searches_pure g n (tt {0}) q old new (links_chain n old.o h start.links links) bad (before.searches n links table)
