-- An update to a sink: its plan, what it puts, and what it leaves.
use Rattle.std.proofs.Common.{◌≡◌, ◌⊎◌, inl, inr, ℕ, suc, ◌+◌, ◌-◌, ◌≤◌, min, max, Bool, true, false, List, [], ◌∷◌, ◌++◌, Option, None, Result, Ok, Err, length, refl, sym, ap, ◌∙◌, subst, arith}
use Rattle.std.proofs.Math.ListN.{replicate}
use Rattle.std.specs.Prelude.{if◌then◌else◌, map, sum_by, not, OnOk, IsOk, count_by, All}
use Rattle.std.specs.List.{range_with_len}
use Rattle.std.proofs.lemmas.List.{append-nil, take_all}
use Rattle.elf_types.specs.declared.errors.ElfError.{ElfError}
use Rattle.elf_types.specs.declared.errors.ElfError.TheVariants.{Memory, Read, Write}
use Rattle.elf_types.specs.Answers.{answered, IsRefusal}
use Rattle.elf_update_plan.specs.elf_layout.declared.parts.PartAt.{PartAt}
use Rattle.elf_update_plan.specs.elf_layout.declared.parts.Places.{Places}
use Rattle.elf_update_plan.specs.elf_layout.Layout.{positions, end_after, in_order_from, standing, places_of as parts_places}
use Rattle.elf_update_plan.specs.elf_layout.Meeting.{ranks_by_position}
use Rattle.elf_update_plan.specs.elf_outside.Asks.{DeviceReadRose, UsesSource}
use Rattle.elf_update_plan.specs.elf_outside.Puts.{WriteRose}
use Rattle.elf_update_plan.specs.elf_outside.Writes.{Appends}
use Rattle.elf_update_plan.specs.elf_outside.declared.sources.Source.{Ghosts}
use Rattle.elf_update_plan.specs.elf_outside.declared.sinks.Sink.{Ghosts as SinkGhosts}
use Rattle.elf_update_plan.proofs.elf_outside.UseLemmas.{uses_source_on, uses_sink_on}
use Rattle.elf_update_plan.specs.elf_object.Blocks.{Block, is_covered}
use Rattle.elf_update_plan.specs.elf_object.Object.{Object, is_dirty}
use Rattle.elf_update_plan.specs.elf_object.Valid.{IsObject}
use Rattle.elf_update_plan.specs.elf_object.Layout.{parts_of, places_of, placed_parts, placed, placed_by}
use Rattle.elf_update_plan.specs.elf_object.Image.{image, image_length, kept_base, uncovered_byte, part_blocks}
use Rattle.elf_update_plan.specs.elf_object.Refusal.{refusal}
use Rattle.elf_update_plan.specs.elf_object.Due.{update_to_due, homes_due, clean_homes, is_refused_unread, unless_unread}
use Rattle.elf_update_plan.specs.elf_layout.Layout.{MayWantMemory}
use Rattle.elf_update_plan.specs.elf_object.Words.{UpdateAnswers, result_map}
use Rattle.elf_update_plan.specs.elf_object.Calls.{update_null}
use Rattle.elf_update_plan.proofs.law_object.ImageLaws.{placed-dirty}
use Rattle.elf_update_plan.proofs.law_object.PlacedLaws.{placed_is}
use Rattle.elf_update_plan.proofs.law_object.TornLaws.{dirty-placed, placed_stays}
use Rattle.elf_update_plan.specs.law_object.Writing.Lines.{AreInLine, in_line}
use Rattle.elf_update_plan.specs.law_object.Writing.Plan.{plan, places_below, base_gaps}
use Rattle.elf_update_plan.proofs.law_object.writing.PieceLaws.{kept_at_most}
use Rattle.elf_update_plan.proofs.law_object.writing.PlanLaws.{plan_is_image, gaps_are_fill}
use Rattle.elf_update_plan.specs.elf_descriptor.State.{State}
use Rattle.elf_update_plan.proofs.PlacingLaws.{clean_answer, refused_cases}
use Rattle.elf_update_plan.specs.declared.places.PlacedParts.{PlacedParts}
use Rattle.elf_update_plan.specs.Placing.{ArePlaced, IsRefused}
use Rattle.elf_update_plan.specs.Plans.{part_of_rank, stand_at}
use Rattle.elf_update_to.specs.declared.updates.PlannedParts.{PlannedParts}
use Rattle.elf_update_to.specs.Texts.{IsText, Streams}
use Rattle.elf_update_to.specs.Pieces.{blocks_at, HasLength}
use Rattle.elf_update_to.specs.Emits.{UsesParts, Emits, ground_byte, gap_text}
use Rattle.elf_update_to.specs.declared.parts.ImageParts.{Ghosts as PartsGhosts}
use Rattle.elf_update_to.specs.Descriptors.{KeptElf, kept_of_elf, stored_pieces, stored_due, HasStoredPlaces}
use Rattle.elf_update_to.specs.Updates.{IsPlanned, OnBegun, UpdatesTo}
use Rattle.elf_update_to.proofs.FlowLaws.{no_appends}
use Rattle.elf_update_to.proofs.PartBytes.{stand_placed}
use Rattle.elf_update_to.proofs.PlanLaws.{planned_blocks, planned_long, planned_due}

-- ---- The plan

length-positions : (ps : List PartAt) → length (positions ps) ≡ length ps
unfolding positions
length-positions [] = refl
length-positions (p ∷ ps) = ap suc (length-positions ps)

length-ordered : (end : ℕ) (ps : List PartAt) → length (in_order_from end ps) ≡ length ps
unfolding in_order_from
length-ordered end [] = refl
length-ordered end (p ∷ ps) = ap suc (length-ordered (end_after end p) ps)

pub places_count : (o : Object) (p : PlacedParts) → ArePlaced o p → length p.places.at ≡ length p.parts
unfolding places_of parts_places standing
places_count o p are =
    ap (λ (x : Places). length x.at) are.places ∙ by_layout o.layout
    ∙ sym (ap (λ (l : List PartAt). length l) are.parts)
  where
    by_layout : (b : Bool) → length (positions
        (if b then parts_of o else in_order_from 0 (parts_of o))) ≡ length (parts_of o)
    by_layout true = length-positions (parts_of o)
    by_layout false = length-positions (in_order_from 0 (parts_of o)) ∙ length-ordered 0 (parts_of o)

pub is_planned : (o : Object) (q : PlacedParts) (parts : List PartAt) → IsObject o
    → is_dirty o ≡ true → ArePlaced o q
    → parts ≡ map (part_of_rank (stand_at q.parts q.places.at))
    (ranks_by_position (stand_at q.parts q.places.at))
    → IsPlanned o (record { parts = parts; places = q.places })
is_planned o q parts object dirty are is =
    let same : stand_at q.parts q.places.at ≡ placed_parts o =
    ap (λ (ps : List PartAt). stand_at ps q.places.at) are.parts
    ∙ ap (λ (x : Places). stand_at (parts_of o) x.at) are.places ∙ stand_placed o in
    record {
      ready = record { object = object; dirty = dirty; passed = are.passed };
      parts = is ∙ ap (λ (ps : List PartAt). map (part_of_rank ps) (ranks_by_position ps)) same;
      places = are.places;
    }

pub wants_passed : (o : Object) (e : ElfError) → refusal o ≡ None → e ≡ Memory → IsRefused o e
wants_passed o e passed is =
    inl (
      is,
      subst (λ (r : Option ElfError). MayWantMemory (answered r (image_length o)))
          (sym passed) tt,
    )

pub clean_wants : (o : Object) (e : ElfError) → is_dirty o ≡ false → e ≡ Memory → IsRefused o e
clean_wants o e clean is = inl (is, subst (λ (r : Result ℕ ElfError). MayWantMemory r) (sym (clean_answer o clean)) tt)

-- ---- What is put

fill_placed : (o : Object) → is_dirty o ≡ true → (placed o).fill ≡ o.fill
unfolding placed_by
fill_placed o dirty = ap (λ (q : Object). q.fill) (placed-dirty o dirty)

base_placed : (o : Object) → is_dirty o ≡ true → (placed o).base ≡ o.base
unfolding placed_by
base_placed o dirty = ap (λ (q : Object). q.base) (placed-dirty o dirty)

pub planned_end : (o : Object) (p : PlannedParts) → IsPlanned o p → p.places.end ≡ image_length o
unfolding image_length
planned_end o p is =
    ap (λ (x : Places). x.end) is.places ∙ sym (ap (λ (b : Bool). if b then (places_of o).end else
    length o.base) is.ready.dirty)

pub planned_answer : (o : Object) (p : PlannedParts) → IsPlanned o p → update_null.answer o ≡ Ok p.places.end
planned_answer o p is =
    ap (λ (r : Option ElfError). answered r (image_length o)) is.ready.passed
    ∙ ap (λ (n : ℕ). Ok n) (sym (planned_end o p is))

abbrev planned_at : Object → PlannedParts → List Block
planned_at o p = blocks_at o.fill (stored_pieces (placed o)) p.parts

planned_is : (o : Object) (p : PlannedParts) → IsPlanned o p → planned_at o p ≡ plan o
planned_is o p is =
    ap (λ (n : ℕ). blocks_at n (stored_pieces (placed o)) p.parts) (sym (fill_placed o is.ready.dirty))
    ∙ ap (λ (l : List PartAt). blocks_at (placed o).fill (stored_pieces (placed o)) l) is.parts
    ∙ planned_blocks o is.ready

pub planned_image : (o : Object) (p : PlannedParts) → IsPlanned o p
    → in_line p.places.end (ground_byte (placed o).base (kept_base o) o.fill) 0 (planned_at o p) ≡ image o
unfolding uncovered_byte
planned_image o p is =
    ap (λ (n : ℕ). in_line n (ground_byte (placed o).base (kept_base o) o.fill) 0 (planned_at o p)) (planned_end o p is)
    ∙ ap (λ (b : List ℕ). in_line (image_length o) (ground_byte b (kept_base o) o.fill) 0
    (planned_at o p)) (base_placed o is.ready.dirty)
    ∙ ap (λ (bs : List Block). in_line (image_length o) (ground_byte o.base (kept_base o) o.fill) 0
    bs) (planned_is o p is)
    ∙ sym ((plan_is_image o).bytes is.ready)

pub planned_line : (o : Object) (p : PlannedParts) → IsPlanned o p → AreInLine p.places.end 0 (planned_at o p)
planned_line o p is =
    subst (λ (n : ℕ). AreInLine n 0 (planned_at o p)) (sym (planned_end o p is))
    (subst (λ (bs : List Block). AreInLine (image_length o) 0 bs) (sym (planned_is o p is))
    ((plan_is_image o).line is.ready))

pub planned_asks : (o : Object) (loaded : List Bool) (p : PlannedParts) → IsPlanned o p
    → sum_by (λ q. stored_due (placed o) loaded q.part) p.parts + base_gaps
    (kept_base o) p.places.end 0 (planned_at o p)
    ≡ update_to_due o loaded
unfolding update_to_due
planned_asks o loaded p is =
    let gaps : base_gaps (kept_base o) p.places.end 0 (planned_at o p)
    ≡ count_by (λ k. not (is_covered (part_blocks (placed o)) k)) (range_with_len 0 (kept_base o)) =
    ap (λ (n : ℕ). base_gaps (kept_base o) n 0 (planned_at o p)) (planned_end o p is)
    ∙ ap (λ (bs : List Block). base_gaps (kept_base o) (image_length o) 0 bs) (planned_is o p is)
    ∙ sym ((gaps_are_fill o).base is.ready) in
    let homes : sum_by (λ q. stored_due (placed o) loaded q.part) p.parts ≡ homes_due o loaded (clean_homes o) =
    ap (λ (l : List PartAt). sum_by (λ q. stored_due (placed o) loaded q.part) l) is.parts
    ∙ planned_due o loaded is.ready in
    let due : ℕ = homes_due o loaded (clean_homes o) + count_by
    (λ k. not (is_covered (part_blocks (placed o)) k)) (range_with_len 0 (kept_base o)) in
    ap (λ (n : ℕ). n + base_gaps (kept_base o) p.places.end 0 (planned_at o p)) homes
    ∙ ap (λ (n : ℕ). homes_due o loaded (clean_homes o) + n) gaps
    ∙ sym (ap (λ (b : Bool). if b then unless_unread o
    (homes_due o loaded (clean_homes o) + count_by
    (λ k. not (is_covered (part_blocks (placed o)) k)) (range_with_len 0 (kept_base o))) else length
    o.base) is.ready.dirty
    ∙ ap (λ (r : Option ElfError). if is_refused_unread r then 0 else
    (homes_due o loaded (clean_homes o) + count_by
    (λ k. not (is_covered (part_blocks (placed o)) k)) (range_with_len 0 (kept_base o))))
    is.ready.passed)

pub planned_stored : (o : Object) (p : PlannedParts) → IsPlanned o p → HasStoredPlaces (placed o)
planned_stored o p is =
    let stays = placed_stays o is.ready.object is.ready.passed in
    record {
      ready = record {
        object = placed_is o is.ready.object is.ready.passed;
        dirty = ap is_dirty (placed-dirty o is.ready.dirty) ∙ dirty-placed (places_of o) o ∙ is.ready.dirty;
        passed = stays.1;
      };
      placed = stays.0;
    }

pub planned_kept : (o : Object) (p : PlannedParts) → IsPlanned o p → kept_base o ≤ length (placed o).base
planned_kept o p is =
    let most = kept_at_most o in
    let count : length (placed o).base ≡ length o.base = ap (λ (l : List ℕ). length l) (base_placed o is.ready.dirty) in
    omega (arith, most, count)

-- what the walk is given, and what it then puts and asks for
abbrev pub written_text : Object → List PartAt → ℕ → ℕ → ℕ → List ℕ
written_text q l end kept fill =
    in_line end (ground_byte q.base kept fill) 0 (blocks_at fill (stored_pieces q) l)

abbrev pub written_due : Object → List Bool → List PartAt → ℕ → ℕ → ℕ → ℕ
written_due q loaded l end kept fill =
    sum_by (λ a. stored_due q loaded a.part) l
    + base_gaps kept end 0 (blocks_at fill (stored_pieces q) l)

pub record IsGround {S : Type 0} (e m : State S) (l : List PartAt) (end kept fill : ℕ)
    : Type 0 where
  pub ready : HasStoredPlaces m.o
  pub most : kept ≤ length m.o.base
  pub long : All (HasLength (stored_pieces m.o)) l
  pub line : AreInLine end 0 (blocks_at fill (stored_pieces m.o) l)
  pub text : written_text m.o l end kept fill ≡ image e.o
  pub asks : written_due m.o m.loaded l end kept fill ≡ update_to_due e.o e.loaded

pub ground : {S : Type 0} (e m : State S) (p : PlannedParts) (l : List PartAt) (kept fill : ℕ)
    → IsPlanned e.o p → m ≡ record e { o = placed e.o } → l ≡ p.parts → kept ≡ kept_base e.o
    → fill ≡ e.o.fill → IsGround e m l p.places.end kept fill
ground {S} e m p l kept fill is stored listed base same =
    subst (λ (x : State S). IsGround e x l p.places.end kept fill) (sym stored)
    (subst (λ (k : List PartAt). IsGround e (record e { o = placed e.o }) k p.places.end kept fill) (sym listed)
    (subst (λ (n : ℕ). IsGround e (record e { o = placed e.o }) p.parts p.places.end n fill) (sym base)
    (subst (λ (n : ℕ). IsGround e (record e { o = placed e.o }) p.parts p.places.end (kept_base e.o) n) (sym same)
    (record {
      ready = planned_stored e.o p is;
      most = planned_kept e.o p is;
      long = subst (λ (k : List PartAt). All (HasLength (stored_pieces (placed e.o))) k) (sym is.parts)
          (planned_long e.o is.ready);
      line = planned_line e.o p is;
      text = planned_image e.o p is;
      asks = planned_asks e.o e.loaded p is;
    }))))

-- ---- Where nothing is dirty

pub clean_text : (base : List ℕ) (n : ℕ) → n ≡ length base → gap_text base n 0 0 n ≡ base
clean_text base n is =
    let whole : length base ≤ min n n - 0 = omega (arith, is) in
    let none : n - max 0 n ≡ 0 = omega arith in
    ap (λ (l : List ℕ). l ++ replicate (n - max 0 n) 0) (take_all (min n n - 0) base whole)
    ∙ ap (λ (m : ℕ). base ++ replicate m 0) none
    ∙ append-nil base

pub clean_due : (o : Object) (loaded : List Bool) (n : ℕ) → is_dirty o ≡ false → n ≡ length o.base
    → places_below n 0 n ≡ update_to_due o loaded
unfolding update_to_due
clean_due o loaded n clean is =
    let count : min n n - 0 ≡ length o.base = omega (arith, is) in
    count ∙ sym (ap (λ (b : Bool). if b then unless_unread o
    (homes_due o loaded (clean_homes o) + count_by
    (λ k. not (is_covered (part_blocks (placed o)) k)) (range_with_len 0 (kept_base o))) else length
    o.base) clean)

-- ---- What a walk has put

-- parts that are a descriptor's
pub record AreOfElf {S : Type 0} (p : PartsGhosts (State S)) (g : Ghosts S) : Type 0 where
  pub kept : (a b : State S) → p.kept b ≡ p.kept a → kept_of_elf g b ≡ kept_of_elf g a
  pub told : (a : State S) → p.told (p.kept a) ≡ a.told
  pub faults : (a : State S) → p.faults a ≡ g.faults a.source
  pub taken : (a : State S) → p.taken a ≡ g.taken a.source

same_but_source : {S : Type 0} (g : Ghosts S) (old new : State S)
    → kept_of_elf g new ≡ kept_of_elf g old
    → ◌≡◌ {A = State S} new (record old { source = new.source })
same_but_source {S} g old new same =
    ap (λ (x : KeptElf). record {
      o = x.o;
      told = x.told;
      loaded = x.loaded;
      held = x.held;
      room = x.room;
      ready = x.ready;
      source = new.source;
    }) same

-- a walk over it, once places are stored
module _ {S A : Type 0} (p : PartsGhosts (State S)) (g : Ghosts S) (are : AreOfElf p g)
    (r : Result A ElfError) (old new : State S) (due : ℕ)
    (uses : UsesParts p r (record old { o = placed old.o }) new due) where
  walk_kept : kept_of_elf g new ≡ kept_of_elf g (record old { o = placed old.o })
  walk_kept = are.kept (record old { o = placed old.o }) new uses.kept

  pub walk_state : new ≡ record old { o = placed old.o; source = new.source }
  walk_state = same_but_source g (record old { o = placed old.o }) new walk_kept

  pub walk_source : UsesSource g r old.source new.source due
  walk_source =
      let first : p.faults (record old { o = placed old.o }) ≡ g.faults old.source =
      are.faults (record old { o = placed old.o }) in
      let last : p.faults new ≡ g.faults new.source = are.faults new in
      let before : p.taken (record old { o = placed old.o }) ≡ g.taken old.source =
      are.taken (record old { o = placed old.o }) in
      let after : p.taken new ≡ g.taken new.source = are.taken new in
      let later = uses.later in
      let least = uses.taken.later in
      let most = uses.taken.no_more in
      record {
        leaves = record {
          same_len = ap (λ (x : KeptElf). x.size) walk_kept;
          same_bytes = ap (λ (x : KeptElf). x.holds) walk_kept;
          same_rest = ap (λ (x : KeptElf). x.rest) walk_kept;
        };
        later = omega (arith, later, first, last);
        read = subst (λ (n : ℕ). DeviceReadRose r n (g.faults new.source)) first
            (subst (λ (n : ℕ). DeviceReadRose r (p.faults (record old { o = placed old.o })) n)
            last uses.read);
        taken = record {
          later = omega (arith, least, before, after);
          no_more = omega (arith, most, before, after);
        };
      }

all_put : (a b : Option (List ℕ)) (waits text : List ℕ) → Streams a b [] waits text
    → waits ≡ [] → Appends a b text
all_put a b waits text streams empty =
    let all : text ≡ streams.put =
    streams.all ∙ ap (λ (l : List ℕ). streams.put ++ l) empty ∙ append-nil streams.put in
    subst (λ (l : List ℕ). Appends a b l) (sym all) streams.appends

-- ---- An update that has begun

-- it fails to read or to write alone
pub answers_by : (e : ElfError) (n : ℕ) (stated : Result ℕ ElfError) → stated ≡ Ok n
    → (e ≡ Read) ⊎ (e ≡ Write) → UpdateAnswers {A = ℕ} (Err e) stated
answers_by e n stated is cause = by_cause cause
  where
    passed : IsOk stated
    passed = subst (λ (r : Result ℕ ElfError). IsOk r) (sym is) refl

    by_cause : (e ≡ Read) ⊎ (e ≡ Write) → UpdateAnswers {A = ℕ} (Err e) stated
    by_cause (inl same) =
        subst (λ (x : ElfError). UpdateAnswers {A = ℕ} (Err x) stated) (sym same) passed
    by_cause (inr same) =
        subst (λ (x : ElfError). UpdateAnswers {A = ℕ} (Err x) stated) (sym same) passed

begun_by : (e : ElfError) (begun refused : Type 0) → (e ≡ Read) ⊎ (e ≡ Write) → begun
    → OnBegun {A = ℕ} (Err e) begun refused
begun_by e begun refused (inl same) h =
    subst (λ (x : ElfError). OnBegun {A = ℕ} (Err x) begun refused) (sym same) h
begun_by e begun refused (inr same) h =
    subst (λ (x : ElfError). OnBegun {A = ℕ} (Err x) begun refused) (sym same) h

module _ {S K : Type 0} (p : PartsGhosts (State S)) (g : Ghosts S) (are : AreOfElf p g)
    (k : SinkGhosts K) (n : ℕ) (old new : State S) (sink next : K) (waits : List ℕ)
    (answer : update_null.answer old.o ≡ Ok n) where
  -- with an answer, and what it put where nothing waited
  begun_is : (r : Result (Unit {0}) ElfError)
      → Emits p k r (record old { o = placed old.o }) new sink next [] waits (image old.o)
      (update_to_due old.o old.loaded)
      → OnOk r (waits ≡ []) → UpdatesTo g k (result_map (λ _. n) r) old new sink next
  begun_is (Ok x) put empty =
      let source = walk_source p g are (Ok x) old new (update_to_due old.o old.loaded) put.parts in
      record {
        answer = answer;
        state = walk_state p g are (Ok x) old new (update_to_due old.o old.loaded) put.parts;
        source = record {
          leaves = source.leaves;
          later = source.later;
          read = tt;
          taken = source.taken;
        };
        text = put.text;
        is = subst (λ (b : Bool). IsText b (image old.o) put.text)
            (are.told (record old { o = placed old.o })) put.is;
        wrote = all_put (k.wrote sink) (k.wrote next) waits put.text put.flows.ok empty;
        front = tt;
        uses = record { rest = put.flows.uses.rest; later = put.flows.uses.later; write = tt };
        unput = tt;
      }
  begun_is (Err e) put empty = record {
    answer = answers_by e n (update_null.answer old.o) answer put.err;
    state = begun_by e (new ≡ record old { o = placed old.o; source = new.source }) (new ≡ old)
        put.err
        (walk_state p g are (Err e) old new (update_to_due old.o old.loaded) put.parts);
    source = uses_source_on g e old.source new.source (update_to_due old.o old.loaded)
        (update_to_due old.o old.loaded) (omega arith)
        (walk_source p g are (Err e) old new (update_to_due old.o old.loaded) put.parts);
    text = put.text;
    is = subst (λ (b : Bool). IsText b (image old.o) put.text)
        (are.told (record old { o = placed old.o })) put.is;
    wrote = tt;
    front = put.flows.err;
    uses = uses_sink_on k e sink next put.flows.uses;
    unput = begun_by e (Unit {0}) (next ≡ sink) put.err tt;
  }

-- of the descriptor whose places are stored, and of a text and a due that are those
pub updates_put : {S K : Type 0} (p : PartsGhosts (State S)) (g : Ghosts S) (k : SinkGhosts K)
    (r : Result (Unit {0}) ElfError) (n : ℕ) (old mid new : State S) (sink next : K)
    (waited waits stated : List ℕ) (due : ℕ)
    → Emits p k r mid new sink next waited waits stated due → AreOfElf p g
    → update_null.answer old.o ≡ Ok n → mid ≡ record old { o = placed old.o } → waited ≡ []
    → stated ≡ image old.o → due ≡ update_to_due old.o old.loaded → OnOk r (waits ≡ [])
    → UpdatesTo g k (result_map (λ _. n) r) old new sink next
updates_put {S} p g k r n old mid new sink next waited waits stated due put are answer stored none text asks empty =
    let first = subst (λ (m : State S). Emits p k r m new sink next waited waits stated due)
    stored put in
    let second = subst (λ (w : List ℕ).
    Emits p k r (record old { o = placed old.o }) new sink next w waits stated due) none first in
    let third = subst (λ (l : List ℕ).
    Emits p k r (record old { o = placed old.o }) new sink next [] waits l due) text second in
    let all = subst (λ (m : ℕ).
    Emits p k r (record old { o = placed old.o }) new sink next [] waits (image old.o) m)
    asks third in
    begun_is p g are k n old new sink next waits answer r all empty

-- ---- An update that has not begun

still : {S K : Type 0} (g : Ghosts S) (k : SinkGhosts K) (e : ElfError) (s : State S) (sink : K)
    → UpdateAnswers {A = ℕ} (Err e) (update_null.answer s.o)
    → OnBegun {A = ℕ} (Err e) (s ≡ record s { o = placed s.o }) (s ≡ s)
    → DeviceReadRose {T = ℕ} (Err e) (g.faults s.source) (g.faults s.source)
    → WriteRose {T = ℕ} (Err e) (k.faults sink) (k.faults sink)
    → OnBegun {A = ℕ} (Err e) (Unit {0}) (sink ≡ sink)
    → UpdatesTo g k (Err e) s s sink sink
still g k e s sink answer state read write unput = record {
  answer = answer;
  state = state;
  source = record {
    leaves = record { same_len = refl; same_bytes = refl; same_rest = refl };
    later = omega arith;
    read = read;
    taken = record { later = omega arith; no_more = omega arith };
  };
  text = image s.o;
  is = record { long = refl; exact = λ told. refl };
  wrote = tt;
  front = (0, no_appends (k.wrote sink));
  uses = record { rest = refl; later = omega arith; write = write };
  unput = unput;
}

-- it was refused, or wanted memory
pub refused : {S K : Type 0} (g : Ghosts S) (k : SinkGhosts K) (e : ElfError) (s : State S)
    (sink : K) → IsRefused s.o e → UpdatesTo g k (Err e) s s sink sink
refused g k e s sink is =
    refused_cases s.o e (λ (x : ElfError). UpdatesTo g k (Err x) s s sink sink) is
    (λ may. still g k Memory s sink may refl tt tt refl) by_error
  where
    by_error : (x : ElfError) → update_null.answer s.o ≡ Err x → IsRefusal x
        → UpdatesTo g k (Err x) s s sink sink
    by_error Memory stated never = absurd never
    by_error Read stated never = absurd never
    by_error Write stated never = absurd never
    by_error x stated fine = still g k x s sink stated refl tt tt refl
